-- The judging machine finds the wrong texts.
use Rattle.std.proofs.Common.{◌≡◌, ℕ, ◌<◌, Bool, true, false, cond, ◌&&◌, eqb, ◌⊎◌, List, [], ◌∷◌, length, Some, None, Option, sym, refl, ap, ◌∙◌, inl, inr, arith}
use mathlib.Core.Bool.{beq}
use Rattle.std.proofs.lemmas.Bool.{and_parts, and_cases, eqb-true, eqb-false}
use Rattle.pattern.specs.Fits.{Fitting, fitting}
use Rattle.pattern.specs.Images.{Images, Lawful, FittingLawful, images_of}
use Rattle.pattern.specs.Rows.{Letters}
use Rattle.pattern.proofs.Laws.{lawful, fits}
use Rattle.automaton.specs.Automata.{Automaton, led}
use Rattle.automaton.specs.Wrong.{WrongText, stray, lost, marked, prefixed}
use Rattle.automaton.specs.Machines.{Outcome, dead, wrong, to, after, run}
use Rattle.automaton.specs.Judging.{WrongEnd, Node, nowhere, grown, settled, judge, Says, JudgeIsRight}
use Rattle.automaton.proofs.Automata.{some_inj, none_some, led_none, led_more}
use Rattle.automaton.proofs.Fitting.{nowhere_none, somewhere_else, none_more}
use Rattle.automaton.proofs.Wrong.{beq_same, beq_other, truth_iff}

empty_well : {images : Images} (sheet : Automaton) → WrongText images sheet [] → ⊥
empty_well sheet h = omega (arith, h.0)

module _ (K : ℕ) (images : Images) (laws : Lawful images) (f : Fitting) (ok : FittingLawful K images f) (sheet : Automaton) where
  abbrev W : List ℕ → Type 0
  W t = WrongText images sheet t

  -- no fit, no factor
  unfit : (t : List ℕ) → 0 < length t → f.fits_of t ≡ (0, 0) → images.Factor t → ⊥
  unfit t some e h = (ok.somewhere t some).0 h e

  fit : (t : List ℕ) → 0 < length t → (f.fits_of t ≡ (0, 0) → ⊥) → images.Factor t
  fit t some h = (ok.somewhere t some).1 h

  -- neither state nor fit: not wrong
  gone : (t : List ℕ) → led sheet t ≡ None → f.fits_of t ≡ (0, 0) → W t → ⊥
  gone t n e (some, stray q l h) = none_some (sym n ∙ l)
  gone t n e (some, lost l h) = unfit t some e h
  gone t n e (some, marked q l h) = none_some (sym n ∙ l)
  gone t n e (some, prefixed q l h) = none_some (sym n ∙ l)

  -- a state with the right marks: not wrong
  well : (t : List ℕ) (q : ℕ) → led sheet t ≡ Some q → (f.fits_of t ≡ (0, 0) → ⊥) → sheet.marks q ≡ f.marks (f.fits_of t) → sheet.prefix q ≡ f.prefix (f.fits_of t) → W t → ⊥
  well t q l h m p (some, stray r x g) = g (fit t some h)
  well t q l h m p (some, lost x g) = none_some (sym x ∙ l)
  well t q l h m p (some, marked r x g) = g (ap sheet.marks (some_inj (sym x ∙ l)) ∙ m ∙ ok.marked t some)
  well t q l h m p (some, prefixed r x g) =
      let e : sheet.prefix r ≡ f.prefix (f.fits_of t) = ap sheet.prefix (some_inj (sym x ∙ l)) ∙ p in
      g (λ y. (ok.prefixed t some).0 (sym e ∙ y), λ y. e ∙ (ok.prefixed t some).1 y)

  -- what a letter leads to
  settle : (a : ℕ) (t : List ℕ) → (W t → ⊥) → (WrongEnd images sheet t → ⊥) → (x : Option ℕ) → led sheet (a ∷ t) ≡ x → Says images f sheet (a ∷ t) (settled f sheet x (f.fits_of (a ∷ t)))
  settle a t clean ends x l = go x l (nowhere (f.fits_of (a ∷ t))) refl
    where
      y : ℕ × ℕ
      y = f.fits_of (a ∷ t)

      none : WrongEnd images sheet (a ∷ t) → ⊥
      none (inl w) = clean w
      none (inr w) = ends w

      at : (q : ℕ) → led sheet (a ∷ t) ≡ Some q → nowhere (f.fits_of (a ∷ t)) ≡ false → (b : Bool) → (eqb (sheet.marks q) (f.marks (f.fits_of (a ∷ t))) && beq (sheet.prefix q) (f.prefix (f.fits_of (a ∷ t)))) ≡ b → Says images f sheet (a ∷ t) (cond b (to (q, (f.fits_of (a ∷ t)).0, (f.fits_of (a ∷ t)).1)) wrong)
      at q l n true e =
          let b = and_parts (eqb (sheet.marks q) (f.marks (f.fits_of (a ∷ t)))) (beq (sheet.prefix q) (f.prefix (f.fits_of (a ∷ t)))) e in
          ((l, refl, n, well (a ∷ t) q l (somewhere_else (f.fits_of (a ∷ t)) n) (eqb-true _ _ b.0) (beq_same _ _ b.1)), none)
      at q l n false e = (by (and_cases (eqb (sheet.marks q) (f.marks (f.fits_of (a ∷ t)))) (beq (sheet.prefix q) (f.prefix (f.fits_of (a ∷ t)))) e), none)
        where
          by : (eqb (sheet.marks q) (f.marks (f.fits_of (a ∷ t))) ≡ false) ⊎ (beq (sheet.prefix q) (f.prefix (f.fits_of (a ∷ t))) ≡ false) → W (a ∷ t)
          by (inl m) = (omega arith, marked q l (λ e. eqb-false _ _ m (e ∙ sym (ok.marked (a ∷ t) (omega arith)))))
          by (inr p) = (omega arith, prefixed q l (λ e. beq_other _ _ p (truth_iff _ _ (λ h. (ok.prefixed (a ∷ t) (omega arith)).1 (e.0 h)) (λ h. e.1 ((ok.prefixed (a ∷ t) (omega arith)).0 h)))))

      go : (x : Option ℕ) → led sheet (a ∷ t) ≡ x → (b : Bool) → nowhere (f.fits_of (a ∷ t)) ≡ b → Says images f sheet (a ∷ t) (settled f sheet x (f.fits_of (a ∷ t)))
      go None l true n = rw n (inr (l, nowhere_none (f.fits_of (a ∷ t)) n, omega arith, gone (a ∷ t) l (nowhere_none (f.fits_of (a ∷ t)) n), none))
      go None l false n = rw n ((omega arith, lost l (fit (a ∷ t) (omega arith) (somewhere_else (f.fits_of (a ∷ t)) n))), none)
      go (Some q) l true n = rw n ((omega arith, stray q l (unfit (a ∷ t) (omega arith) (nowhere_none (f.fits_of (a ∷ t)) n))), none)
      go (Some q) l false n = rw n (at q l n _ refl)

  begun : (x : ℕ × ℕ) (a : ℕ) → a < K → nowhere x ≡ true → grown f x a ≡ f.fits_of (a ∷ [])
  begun x a l n = rw n (sym (ok.one a l))

  went : (x : ℕ × ℕ) (a : ℕ) (t : List ℕ) → a < K → 0 < length t → nowhere x ≡ false → x ≡ f.fits_of t → grown f x a ≡ f.fits_of (a ∷ t)
  went x a t l some n e = rw n (ap (λ (y : ℕ × ℕ). f.extend y a) e ∙ sym (ok.more a t l some))

  pub says : (t : List ℕ) → Letters K t → Says images f sheet t (run (judge f sheet) t)
  unfolding judge
  says [] l = (refl, λ w. w)
  says (a ∷ t) l = by t l.1 (run (judge f sheet) t) (says t l.1)
    where
      onto : (q : ℕ) (x : ℕ × ℕ) (t : List ℕ) → led sheet t ≡ Some q → grown f x a ≡ f.fits_of (a ∷ t) → (W t → ⊥) → (WrongEnd images sheet t → ⊥) → Says images f sheet (a ∷ t) (settled f sheet (sheet.arrow q a) (grown f x a))
      onto q x t e g clean ends = rw g (settle a t clean ends (sheet.arrow q a) (led_more sheet a t ∙ rw e))

      by : (t : List ℕ) → Letters K t → (o : Outcome Node) → Says images f sheet t o → Says images f sheet (a ∷ t) (after (judge f sheet).step o a)
      by t lt dead (inl w) = inl (inr w)
      by t lt dead (inr s) =
          let e : led sheet (a ∷ t) ≡ None = led_more sheet a t ∙ rw s.0 in
          let n : f.fits_of (a ∷ t) ≡ (0, 0) = none_more K images laws f ok a t s.2 s.1 in
          inr (e, n, omega arith, gone (a ∷ t) e n, λ w. elim w [ inl x ↦ s.3 x | inr x ↦ s.4 x ])
      by t lt wrong s = inl (inl s.0)
      by [] lt (to n) s =
          let n₁ : nowhere (n.1, n.2) ≡ true = ap (λ (m : Node). nowhere (m.1, m.2)) s.0 in
          onto n.0 (n.1, n.2) [] (led_none sheet ∙ ap (λ (m : Node). Some m.0) (sym s.0)) (begun (n.1, n.2) a l.0 n₁) (empty_well sheet) s.1
      by (b ∷ t) lt (to n) s = onto n.0 (n.1, n.2) (b ∷ t) s.0.0 (went (n.1, n.2) a (b ∷ t) l.0 (omega arith) s.0.2 s.0.1) s.0.3 s.1

pub judge_is_right_lem : JudgeIsRight
judge_is_right_lem K plan well sheet = says K (images_of plan) (lawful plan well.nonempty) (fitting plan) (fits plan well K) sheet
