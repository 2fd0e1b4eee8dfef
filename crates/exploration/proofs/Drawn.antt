-- There is one drawn sheet.
use Rattle.std.proofs.Common.{◌≡◌, ℕ, zero, suc, ◌<◌, ◌≤◌, ◌⊎◌, List, [], ◌∷◌, ◌++◌, reverse, length, Some, None, Option, sym, refl, ap, ◌∙◌, subst, inl, inr, ⊎_elim, arith}
use lib.ListN.{length-reverse}
use Rattle.std.proofs.lemmas.Bool.{cases_order, cases_lt, cases_eq}
use Rattle.pattern.specs.Fits.{Fitting}
use Rattle.pattern.specs.Images.{Any, here, there, Images, FittingLawful}
use Rattle.pattern.specs.Rows.{Letters}
use Rattle.pattern.specs.Words.{Word, Precedes}
use Rattle.pattern.proofs.Words.{word_order}
use Rattle.automaton.specs.Automata.{Automaton, Right, led, reach, reach_from}
use Rattle.automaton.proofs.Automata.{some_inj, none_some, led_is_reached_lem, reach_push}
use Rattle.automaton.proofs.Wrong.{letters_push, letters_turned, no_wrong_right, truth_iff}
use Rattle.automaton.specs.Judging.{Node}
use Rattle.exploration.specs.Drawing.{Drawn, Same}
use Rattle.exploration.specs.Pairs.{with_fits, pair_of}

-- a word that reaches a state of one right sheet reaches one of the other
module _ (K : ℕ) (images : Images) (left right : Automaton) (l : Right K images left) (r : Right K images right) where
  pub both_reach : (w : Word) (q : ℕ) → Letters K w → reach left w ≡ Some q → (p : ℕ) × (reach right w ≡ Some p)
  unfolding reach_from
  both_reach [] q lw e = (1, refl)
  both_reach (a ∷ w) q lw e =
      let t : List ℕ = reverse (a ∷ w) in
      let lt : Letters K t = letters_turned K (a ∷ w) lw in
      let some : 0 < length t = rw (length-reverse (a ∷ w)) (omega arith) in
      let x = r.reaches t lt some (l.fits t q lt some (led_is_reached_lem left (a ∷ w) ∙ e)) in
      (x.0, sym (led_is_reached_lem right (a ∷ w)) ∙ x.1)

-- two words of one state have another in common, too
module _ (K : ℕ) (images : Images) (f : Fitting) (m n : ℕ) (left right : Automaton) (l : Drawn K images f m left) (r : Drawn K images f n right) where
  pub still_shared : (v w : Word) (q p p' : ℕ) → Letters K v → Letters K w → reach left v ≡ Some q → reach left w ≡ Some q → reach right v ≡ Some p → reach right w ≡ Some p' → p ≡ p'
  unfolding reach_from
  still_shared [] [] q p p' lv lw a b c d = some_inj (sym c ∙ d)
  still_shared [] (y ∷ w) q p p' lv lw a b c d = absurd (l.alone (y ∷ w) lw (omega arith) (b ∙ sym a))
  still_shared (x ∷ v) [] q p p' lv lw a b c d = absurd (l.alone (x ∷ v) lv (omega arith) (a ∙ sym b))
  still_shared (x ∷ v) (y ∷ w) q p p' lv lw a b c d =
      (r.shared (x ∷ v) (y ∷ w) p p' lv lw (omega arith) (omega arith) c d).1 ((l.shared (x ∷ v) (y ∷ w) q q lv lw (omega arith) (omega arith) a b).0 refl)

-- words of the states below n reach the same state of both
abbrev Agree : ℕ → ℕ → Automaton → Automaton → Type 0
Agree K n left right = (w : Word) (q : ℕ) → Letters K w → q < n → reach left w ≡ Some q → reach right w ≡ Some q

before_all : (u v w : Word) → Precedes u v → (v ≡ w) ⊎ Precedes v w → Precedes u w
before_all u v w h (inl e) = subst (Precedes u) e h
before_all u v w h (inr g) = word_order.transitive u v w h g

not_after : (u v : Word) → Precedes u v → (v ≡ u) ⊎ Precedes v u → ⊥
not_after u v h g = word_order.irreflexive u (before_all u v u h g)

module _ (K : ℕ) (images : Images) (f : Fitting) (ok : FittingLawful K images f) (m n : ℕ) (left right : Automaton) (l : Drawn K images f m left) (r : Drawn K images f n right) where
  right_left : Right K images left
  right_left = no_wrong_right K images f ok left l.well

  right_right : Right K images right
  right_right = no_wrong_right K images f ok right r.well

  -- one state more
  module _ (s : ℕ) (lr : Agree K s left right) (rl : Agree K s right left) where
    -- a state of the right sheet below s is the left sheet's too
    low : (w : Word) (q p : ℕ) → Letters K w → reach left w ≡ Some q → reach right w ≡ Some p → p < s → q ≡ p
    low w q p lw a b h = some_inj (sym a ∙ rl w p lw h b)

    low_left : (w : Word) (q p : ℕ) → Letters K w → reach left w ≡ Some q → reach right w ≡ Some p → q < s → q ≡ p
    low_left w q p lw a b h = some_inj (sym (lr w q lw h a) ∙ b)

    -- a word of state s on the left with a later state on the right: neither sheet's first word of s could be the first
    late : (w : Word) (p : ℕ) → Letters K w → reach left w ≡ Some s → reach right w ≡ Some p → s < p → ⊥
    late w p lw a b h = let at = both_reach K images right left right_right right_left t s lt bt in by_left at.0 at.1 (cases_order at.0 s)
      where
        some : 0 < s
        some = (l.ranged w s lw a).0

        of_left : s ≤ m
        of_left = (l.ranged w s lw a).1

        of_right : s ≤ n
        of_right = omega (arith, (r.ranged w p lw b).1)

        t : Word
        t = r.first s

        lt : Letters K (r.first s)
        lt = r.lettered s some of_right

        bt : reach right (r.first s) ≡ Some s
        bt = r.reached s some of_right

        v : Word
        v = l.first s

        lv : Letters K (l.first s)
        lv = l.lettered s some of_left

        av : reach left (l.first s) ≡ Some s
        av = l.reached s some of_left

        by_right : Precedes (l.first s) (r.first s) → (j : ℕ) → reach right (l.first s) ≡ Some j → (j ≡ s) ⊎ ((j < s) ⊎ (s < j)) → ⊥
        by_right o j bv (inl e) = not_after (l.first s) (r.first s) o (r.earliest s some of_right (l.first s) lv (bv ∙ ap Some e))
        by_right o j bv (inr (inl g)) = omega (arith, low (l.first s) s j lv av bv g)
        by_right o j bv (inr (inr g)) =
            let range : (0 < j) × (j ≤ n) = r.ranged (l.first s) j lv bv in
            not_after (l.first s) (r.first s) o (inr (before_all (r.first s) (r.first j) (l.first s) (r.numbered s j some g range.1) (r.earliest j range.0 range.1 (l.first s) lv bv)))

        by_left : (k : ℕ) → reach left (r.first s) ≡ Some k → (k ≡ s) ⊎ ((k < s) ⊎ (s < k)) → ⊥
        by_left k at (inl e) = omega (arith, still_shared K images f m n left right l r (r.first s) w s s p lt lw (at ∙ ap Some e) a bt b)
        by_left k at (inr (inl g)) = omega (arith, low_left (r.first s) k s lt at bt g)
        by_left k at (inr (inr g)) =
            let range : (0 < k) × (k ≤ m) = l.ranged (r.first s) k lt at in
            let o : Precedes (l.first s) (r.first s) = before_all (l.first s) (l.first k) (r.first s) (l.numbered s k some g range.1) (l.earliest k range.0 range.1 (r.first s) lt at) in
            let bv = both_reach K images left right right_left right_right (l.first s) s lv av in
            by_right o bv.0 bv.1 (cases_order bv.0 s)

    pub one_more : Agree K (suc s) left right
    one_more w q lw h a = go (cases_lt q s)
      where
        at : (p : ℕ) × (reach right w ≡ Some p)
        at = both_reach K images left right right_left right_right w q lw a

        same : q ≡ s → (p : ℕ) → reach right w ≡ Some p → (p ≡ s) ⊎ ((p < s) ⊎ (s < p)) → reach right w ≡ Some q
        same e p b (inl g) = b ∙ ap Some (g ∙ sym e)
        same e p b (inr (inl g)) = b ∙ ap Some (sym (low w q p lw a b g))
        same e p b (inr (inr g)) = absurd (late w p lw (a ∙ ap Some e) b g)

        go : (q < s) ⊎ (s ≤ q) → reach right w ≡ Some q
        go (inl g) = lr w q lw g a
        go (inr g) = same (omega arith) at.0 at.1 (cases_order at.0 s)

-- by induction over the states, in both directions at once
module _ (K : ℕ) (images : Images) (f : Fitting) (ok : FittingLawful K images f) (m n : ℕ) (left right : Automaton) (l : Drawn K images f m left) (r : Drawn K images f n right) where
  agree : (s : ℕ) → Agree K s left right × Agree K s right left
  agree zero = (λ w q lw h a. absurd (omega arith), λ w q lw h a. absurd (omega arith))
  agree (suc s) =
      let i = agree s in
      (one_more K images f ok m n left right l r s i.0 i.1, one_more K images f ok n m right left r l s i.1 i.0)

  pub same_reach : (w : Word) (q : ℕ) → Letters K w → reach left w ≡ Some q → reach right w ≡ Some q
  same_reach w q lw a = (agree (suc q)).0 w q lw (omega arith) a

  fewer : m ≤ n
  fewer = go m refl
    where
      go : (k : ℕ) → m ≡ k → m ≤ n
      go zero e = omega arith
      go (suc k) e =
          let lm : Letters K (l.first m) = l.lettered m (omega arith) (omega arith) in
          omega (arith, (r.ranged (l.first m) m lm (same_reach (l.first m) m lm (l.reached m (omega arith) (omega arith)))).1)

module _ (K : ℕ) (images : Images) (f : Fitting) (ok : FittingLawful K images f) (m n : ℕ) (left right : Automaton) (l : Drawn K images f m left) (r : Drawn K images f n right) where
  same_reached : (w : Word) → Letters K w → reach left w ≡ reach right w
  same_reached w lw = go (reach left w) (reach right w) refl refl
    where
      go : (x y : Option ℕ) → reach left w ≡ x → reach right w ≡ y → reach left w ≡ reach right w
      go None None a b = a ∙ sym b
      go None (Some q) a b = absurd (none_some (sym a ∙ same_reach K images f ok n m right left r l w q lw b))
      go (Some q) y a b = a ∙ sym (same_reach K images f ok m n left right l r w q lw a)

  module _ (q : ℕ) (some : 0 < q) (few : q ≤ m) where
    at_left : reach left (l.first q) ≡ Some q
    at_left = l.reached q some few

    at_right : reach right (l.first q) ≡ Some q
    at_right = sym (same_reached (l.first q) (l.lettered q some few)) ∙ at_left

    same_arrow : (a : ℕ) → a < K → left.arrow q a ≡ right.arrow q a
    same_arrow a la =
        sym (reach_push left (Some 1) (l.first q) a ∙ rw at_left)
        ∙ same_reached (l.first q ++ (a ∷ [])) (letters_push K (l.first q) a (l.lettered q some few) la)
        ∙ (reach_push right (Some 1) (l.first q) a ∙ rw at_right)

    -- a state after 1: what is said of a word that reaches it
    by_text : (left_ok : Right K images left) (right_ok : Right K images right) (w : Word) → Letters K w → 0 < length w → reach left w ≡ Some q → reach right w ≡ Some q → (left.marks q ≡ right.marks q) × (left.prefix q ≡ right.prefix q)
    by_text left_ok right_ok w lw long a b =
        let lt : Letters K (reverse w) = letters_turned K w lw in
        let some : 0 < length (reverse w) = rw (length-reverse w) long in
        let a₁ : led left (reverse w) ≡ Some q = led_is_reached_lem left w ∙ a in
        let b₁ : led right (reverse w) ≡ Some q = led_is_reached_lem right w ∙ b in
        let p = left_ok.prefixed (reverse w) q lt some a₁ in
        let p' = right_ok.prefixed (reverse w) q lt some b₁ in
        (left_ok.marked (reverse w) q lt some a₁ ∙ sym (right_ok.marked (reverse w) q lt some b₁), truth_iff (left.prefix q) (right.prefix q) (λ h. p'.1 (p.0 h)) (λ h. p.1 (p'.0 h)))

    same_marks : (left.marks q ≡ right.marks q) × (left.prefix q ≡ right.prefix q)
    unfolding reach_from
    same_marks = go (l.first q) (l.lettered q some few) at_left at_right
      where
        go : (w : Word) → Letters K w → reach left w ≡ Some q → reach right w ≡ Some q → (left.marks q ≡ right.marks q) × (left.prefix q ≡ right.prefix q)
        go [] lw a b =
            let e : 1 ≡ q = some_inj a in
            (subst (λ (z : ℕ). left.marks z ≡ right.marks z) e (l.bare.0 ∙ sym r.bare.0), subst (λ (z : ℕ). left.prefix z ≡ right.prefix z) e (l.bare.1 ∙ sym r.bare.1))
        go (x ∷ w) lw a b = by_text (no_wrong_right K images f ok left l.well) (no_wrong_right K images f ok right r.well) (x ∷ w) lw (omega arith) a b

  pub single : (m ≡ n) × Same K m left right
  single = (
    omega (arith, fewer K images f ok m n left right l r, fewer K images f ok n m right left r l),
    record { arrows = λ q a some few la. same_arrow q some few a la; marks = λ q some few. (same_marks q some few).0; prefixes = λ q some few. (same_marks q some few).1 },
  )

-- the pairs of a drawn sheet: one for each state
module _ (K : ℕ) (images : Images) (f : Fitting) (states : ℕ) (sheet : Automaton) (d : Drawn K images f states sheet) where
  -- the pair that a state shows by one of its words
  node_by : Word → ℕ → Node
  node_by [] q = (1, 0, 0)
  node_by (a ∷ w) q = (q, (f.fits_of (reverse (a ∷ w))).0, (f.fits_of (reverse (a ∷ w))).1)

  pub listed : ℕ → List Node
  listed zero = []
  listed (suc n) = node_by (d.first (suc n)) (suc n) ∷ listed n

  pub listed_length : (n : ℕ) → length (listed n) ≡ n
  unfolding listed
  listed_length zero = refl
  listed_length (suc n) = ap suc (listed_length n)

  in_listed : (q n : ℕ) → 0 < q → q ≤ n → Any (λ y. node_by (d.first q) q ≡ y) (listed n)
  unfolding listed
  in_listed q zero h l = absurd (omega arith)
  in_listed q (suc n) h l = ⊎_elim (λ (e : q ≡ suc n). rw e (here refl)) (λ g. there (in_listed q n h (omega arith))) (cases_eq q (suc n))

  -- another word of the state shows the same pair
  shown_by : (v : Word) (q a : ℕ) (w : Word) → Letters K v → Letters K (a ∷ w) → reach sheet v ≡ Some q → reach sheet (a ∷ w) ≡ Some q → node_by (a ∷ w) q ≡ node_by v q
  unfolding node_by reach_from
  shown_by [] q a w lv lw e g = absurd (d.alone (a ∷ w) lw (omega arith) (g ∙ sym e))
  shown_by (b ∷ v) q a w lv lw e g =
      let same = (d.shared (a ∷ w) (b ∷ v) q q lw lv (omega arith) (omega arith) g e).0 refl in
      ap (λ (x : ℕ × ℕ). (q, x.0, x.1)) same

  empty_by : (v : Word) → Letters K v → reach sheet v ≡ Some 1 → ◌≡◌ {A = Node} (1, 0, 0) (node_by v 1)
  unfolding node_by
  empty_by [] lv e = refl
  empty_by (b ∷ v) lv e = absurd (d.alone (b ∷ v) lv (omega arith) e)

  with_state : (o : Option ℕ) (y : ℕ × ℕ) (x : Node) → with_fits o y ≡ Some x → (q : ℕ) × (o ≡ Some q) × (x ≡ (q, y.0, y.1))
  with_state None y x e = absurd (none_some e)
  with_state (Some q) y x e = (q, refl, some_inj (sym e))

  pub all_listed : (w : Word) (x : Node) → Letters K w → pair_of f sheet w ≡ Some x → Any (λ y. x ≡ y) (listed states)
  unfolding node_by reach_from
  all_listed [] x lw e =
      let one = d.ranged [] 1 lw refl in
      let is : x ≡ node_by (d.first 1) 1 = some_inj (sym e) ∙ empty_by (d.first 1) (d.lettered 1 one.0 one.1) (d.reached 1 one.0 one.1) in
      rw is (in_listed 1 states one.0 one.1)
  all_listed (a ∷ w) x lw e =
      let at = with_state (reach sheet (a ∷ w)) (f.fits_of (reverse (a ∷ w))) x e in
      let q = at.0 in
      let in_range = d.ranged (a ∷ w) q lw at.1 in
      let is : x ≡ node_by (d.first q) q = at.2 ∙ shown_by (d.first q) q a w (d.lettered q in_range.0 in_range.1) lw (d.reached q in_range.0 in_range.1) at.1 in
      rw is (in_listed q states in_range.0 in_range.1)
