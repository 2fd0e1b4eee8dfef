-- Wrong words, by their texts; and a sheet with no wrong word is right.
use Rattle.std.proofs.Common.{◌≡◌, ℕ, ◌<◌, Bool, true, false, ◌↔◌, List, [], ◌∷◌, ◌++◌, reverse, length, Some, None, Option, sym, refl, ◌∙◌, inl, inr, true≢false, arith}
use mathlib.Core.Bool.{beq, false≢true}
use mathlib.Core.List.{reverse-cons, reverse-reverse}
use lib.ListN.{length-reverse}
use Rattle.std.proofs.lemmas.Bool.{cases_eq}
use Rattle.pattern.specs.Fits.{rests, Fitting, fitting}
use Rattle.pattern.specs.Images.{Images, FittingLawful, images_of}
use Rattle.pattern.specs.Rows.{Letters}
use Rattle.pattern.specs.Words.{Word}
use Rattle.pattern.proofs.Laws.{fits}
use Rattle.automaton.specs.Automata.{Automaton, Right, led}
use Rattle.automaton.specs.Wrong.{WrongAt, stray, lost, marked, prefixed, Wrong, NoWrong, WrongText, WrongByTexts, BareSheetsAreRight}
use Rattle.automaton.specs.Judging.{NoWrongIsRight}
use Rattle.automaton.proofs.Automata.{none_some, led_is_reached_lem}

-- ---- letters of a turned word

pub letters_push : (K : ℕ) (t : List ℕ) (a : ℕ) → Letters K t → a < K → Letters K (t ++ (a ∷ []))
letters_push K [] a l h = (h, tt)
letters_push K (b ∷ t) a l h = (l.0, letters_push K t a l.1 h)

pub letters_turned : (K : ℕ) (t : List ℕ) → Letters K t → Letters K (reverse t)
letters_turned K [] l = tt
letters_turned K (a ∷ t) l = rw (reverse-cons a t) (letters_push K (reverse t) a (letters_turned K t l.1) l.0)

-- ---- a word and its text

module _ (images : Images) (sheet : Automaton) where
  pub wrong_text : (w : Word) → Wrong images sheet w → WrongText images sheet (reverse w)
  wrong_text w h = (rw (length-reverse w) h.0, rw (led_is_reached_lem sheet w) h.1)

  pub text_wrong : (w : Word) → WrongText images sheet (reverse w) → Wrong images sheet w
  text_wrong w h = (rw (length-reverse w) at h.0, rw (led_is_reached_lem sheet w) at h.1)

  -- the same from a text
  pub wrong_of : (t : List ℕ) → WrongText images sheet t → Wrong images sheet (reverse t)
  wrong_of t h = text_wrong (reverse t) (rw (reverse-reverse t) h)

pub wrong_by_texts_lem : WrongByTexts
wrong_by_texts_lem plan sheet w = (wrong_text (images_of plan) sheet w, text_wrong (images_of plan) sheet w)

-- no wrong word, no wrong text
pub no_wrong_text : (K : ℕ) (images : Images) (sheet : Automaton) → NoWrong K images sheet → (t : List ℕ) → Letters K t → WrongText images sheet t → ⊥
no_wrong_text K images sheet none t l h = none (reverse t) (letters_turned K t l) (wrong_of images sheet t h)

-- ---- no wrong word, and a right sheet

pub beq_same : (x y : Bool) → beq x y ≡ true → x ≡ y
beq_same true true h = refl
beq_same true false h = absurd (false≢true h)
beq_same false true h = absurd (false≢true h)
beq_same false false h = refl

pub beq_other : (x y : Bool) → beq x y ≡ false → x ≡ y → ⊥
beq_other true true h e = true≢false h
beq_other true false h e = true≢false e
beq_other false true h e = false≢true e
beq_other false false h e = true≢false h

pub truth_iff : (x y : Bool) → ((x ≡ true) → (y ≡ true)) → ((y ≡ true) → (x ≡ true)) → x ≡ y
truth_iff true y f g = sym (f refl)
truth_iff false true f g = g refl
truth_iff false false f g = refl

module _ (K : ℕ) (images : Images) (f : Fitting) (ok : FittingLawful K images f) (sheet : Automaton) (none : NoWrong K images sheet) where
  no_wrong : (t : List ℕ) → Letters K t → 0 < length t → WrongAt images sheet (led sheet t) t → ⊥
  no_wrong t l some h = no_wrong_text K images sheet none t l (some, h)

  right_fits : (t : List ℕ) (q : ℕ) → Letters K t → 0 < length t → led sheet t ≡ Some q → images.Factor t
  right_fits t q l some e = (ok.somewhere t some).1 (λ z. no_wrong t l some (stray q e (λ h. (ok.somewhere t some).0 h z)))

  right_reaches : (t : List ℕ) → Letters K t → 0 < length t → images.Factor t → (q : ℕ) × (led sheet t ≡ Some q)
  right_reaches t l some h = go (led sheet t) refl
    where
      go : (x : Option ℕ) → led sheet t ≡ x → (q : ℕ) × (led sheet t ≡ Some q)
      go None e = absurd (no_wrong t l some (lost e h))
      go (Some q) e = (q, e)

  right_marked : (t : List ℕ) (q : ℕ) → Letters K t → 0 < length t → led sheet t ≡ Some q → sheet.marks q ≡ images.marks t
  right_marked t q l some e = elim (cases_eq (sheet.marks q) (images.marks t)) [ inl same ↦ same | inr other ↦ absurd (no_wrong t l some (marked q e other)) ]

  right_prefixed : (t : List ℕ) (q : ℕ) → Letters K t → 0 < length t → led sheet t ≡ Some q → ((sheet.prefix q ≡ true) ↔ images.Proper t)
  right_prefixed t q l some e = go (beq (sheet.prefix q) (f.prefix (f.fits_of t))) refl
    where
      go : (b : Bool) → beq (sheet.prefix q) (f.prefix (f.fits_of t)) ≡ b → ((sheet.prefix q ≡ true) ↔ images.Proper t)
      go true b =
          let same = beq_same _ _ b in
          (λ h. (ok.prefixed t some).0 (sym same ∙ h), λ h. same ∙ (ok.prefixed t some).1 h)
      go false b = absurd (no_wrong t l some (prefixed q e (λ i. beq_other _ _ b (truth_iff _ _ (λ h. (ok.prefixed t some).1 (i.0 h)) (λ h. i.1 ((ok.prefixed t some).0 h))))))

  pub no_wrong_right : Right K images sheet
  no_wrong_right = record { fits = right_fits; reaches = right_reaches; marked = right_marked; prefixed = right_prefixed }

right_at : (K : ℕ) (images : Images) (sheet : Automaton) → Right K images sheet → (t : List ℕ) → Letters K t → 0 < length t → WrongAt images sheet (led sheet t) t → ⊥
right_at K images sheet r t l some (stray q e h) = h (r.fits t q l some e)
right_at K images sheet r t l some (lost e h) = none_some (sym e ∙ (r.reaches t l some h).1)
right_at K images sheet r t l some (marked q e h) = h (r.marked t q l some e)
right_at K images sheet r t l some (prefixed q e h) = h (r.prefixed t q l some e)

pub right_no_wrong : (K : ℕ) (images : Images) (sheet : Automaton) → Right K images sheet → NoWrong K images sheet
right_no_wrong K images sheet r w l h = let x = wrong_text images sheet w h in right_at K images sheet r (reverse w) (letters_turned K w l) x.0 x.1

pub no_wrong_is_right_lem : NoWrongIsRight
no_wrong_is_right_lem K plan well sheet = (no_wrong_right K (images_of plan) (fitting plan) (fits plan well K) sheet, right_no_wrong K (images_of plan) sheet)

-- ---- the plan without patterns

bare_led : (K : ℕ) (sheet : Automaton) → ((a : ℕ) → a < K → sheet.arrow 1 a ≡ None) → (t : List ℕ) → Letters K t → 0 < length t → led sheet t ≡ None
unfolding led
bare_led K sheet bare [] l some = absurd (omega arith)
bare_led K sheet bare (a ∷ []) l some = bare a l.0
bare_led K sheet bare (a ∷ (b ∷ t)) l some = rw (bare_led K sheet bare (b ∷ t) l.1 (omega arith))

bare_at : (sheet : Automaton) (t : List ℕ) → led sheet t ≡ None → WrongAt (images_of []) sheet (led sheet t) t → ⊥
unfolding rests
bare_at sheet t n (stray q e h) = none_some (sym n ∙ e)
bare_at sheet t n (lost e h) = elim h [ ]
bare_at sheet t n (marked q e h) = none_some (sym n ∙ e)
bare_at sheet t n (prefixed q e h) = none_some (sym n ∙ e)

pub bare_sheets_are_right_lem : BareSheetsAreRight
bare_sheets_are_right_lem K sheet bare w l h =
    let x = wrong_text (images_of []) sheet w h in
    bare_at sheet (reverse w) (bare_led K sheet bare (reverse w) (letters_turned K w l) x.0) x.1
