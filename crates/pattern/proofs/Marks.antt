-- The marks of a text, and whether it is a proper prefix, are read off its fits.
use Rattle.std.proofs.Common.{◌≡◌, ℕ, zero, suc, ◌+◌, ◌*◌, ◌<◌, ◌≤◌, Bool, true, false, cond, not, ◌&&◌, eqb, ◌↔◌, List, [], ◌∷◌, ◌++◌, map, length, get_or, take, sym, refl, ap, ◌∙◌, ap₂, inl, inr, zero-add, arith}
use mathlib.Core.Bool.{false≢true}
use lib.Bits.{bit_and, and_le_r}
use lib.Lanes.{mask_l}
use Rattle.std.specs.List.{range_with_len}
use Rattle.std.proofs.lemmas.List.{get_or-append-add, length-append, length-map, get_or-map, same_lists}
use Rattle.std.proofs.lemmas.List.FromFn.{length-map-range_with_len, get_or-map-range_with_len}
use Rattle.std.proofs.lemmas.Bool.{and_parts, and_from, cases_eq, both_ways, eq-eqb, ne_eqb}
use Rattle.pattern.specs.Patterns.{spells, marks_of}
use Rattle.pattern.specs.Fits.{bit, tails, rests, begins, closing_of, inner_of, opening, opens, first_step, Nonempty}
use Rattle.pattern.specs.Images.{Any, here, there}
use Rattle.pattern.proofs.Bitwise.{bit_and_lem, bit_mask_l', some_bit, no_bit}
use Rattle.pattern.proofs.Places.{rest_at, opens_at, bit_where, bit_in, length_opening, opens_lt}

-- a pattern stands where one opens
module _ (f : List ℕ → Bool) where
  pub opened_any : (plan : List (List ℕ)) (g : ℕ) → opens_at plan g ≡ true → f (rest_at plan g) ≡ true → Any (λ p. f p ≡ true) plan
  unfolding rest_at rests tails opens opening
  opened_any [] g o h = absurd (false≢true o)
  opened_any ([] ∷ ps) g o h = there (opened_any ps g o h)
  opened_any ((s ∷ ss) ∷ ps) zero o h = here h
  opened_any ((s ∷ ss) ∷ ps) (suc g) o h = there (past ss g o h (opened_any ps))
    where
      past : (ss : List ℕ) (g : ℕ) → get_or (map {B = Bool} (λ _. false) ss ++ opens ps) g false ≡ true → f (get_or (tails ss ++ rests ps) g []) ≡ true → ((g : ℕ) → opens_at ps g ≡ true → f (rest_at ps g) ≡ true → Any (λ p. f p ≡ true) ps) → Any (λ p. f p ≡ true) ps
      past [] g o h rest = rest g o h
      past (u ∷ us) zero o h rest = absurd (false≢true o)
      past (u ∷ us) (suc g) o h rest = past us g o h rest

  pub any_opened : (plan : List (List ℕ)) → f [] ≡ false → Any (λ p. f p ≡ true) plan → (g : ℕ) × (opens_at plan g ≡ true) × (f (rest_at plan g) ≡ true)
  unfolding rest_at rests tails opens opening
  any_opened [] none h = elim h [ ]
  any_opened ([] ∷ ps) none (here h) = absurd (both_ways (f []) none h)
  any_opened ((s ∷ ss) ∷ ps) none (here h) = (zero, refl, h)
  any_opened (p ∷ ps) none (there h) =
      let r = any_opened ps none h in (
        length (tails p) + r.0,
        (rw (← length_opening p) (get_or-append-add (opening p) (opens ps) r.0 false)) ∙ r.1,
        ap f (get_or-append-add (tails p) (rests ps) r.0 []) ∙ r.2,
      )

module _ (plan : List (List ℕ)) (few : length (rests plan) ≤ 64) (t : List ℕ) where
  abbrev both : ℕ
  both = bit_and (inner_of plan t) (mask_l (opens plan))

  at_both : (g : ℕ) → bit both g ≡ (begins (rest_at plan g) t && opens_at plan g)
  unfolding inner_of begins
  at_both g = bit_and_lem (inner_of plan t) (mask_l (opens plan)) g ∙ ap₂ ◌&&◌ (bit_where (λ r. begins r t) refl plan g) (bit_mask_l' (opens plan) g)

  -- an inner fit at a first step: a pattern begins with the text
  pub prefix_is : (not (eqb both 0) ≡ true) ↔ Any (λ p. begins p t ≡ true) plan
  unfolding begins
  prefix_is = (
    λ h. elim (cases_eq both 0) [
      | inl e ↦ absurd (both_ways (not (eqb both 0)) (ap not (eq-eqb both 0 e)) h)
      | inr ne ↦
          let r = some_bit 64 both (omega (arith, and_le_r (inner_of plan t) (mask_l (opens plan)), opens_lt plan few)) (omega arith) in
          let parts = and_parts (begins (rest_at plan r.0) t) (opens_at plan r.0) (sym (at_both r.0) ∙ r.1) in
          opened_any (λ p. begins p t) plan r.0 parts.1 parts.0
    ],
    λ h.
        let r = any_opened (λ p. begins p t) plan refl h in
        let b : bit both r.0 ≡ true = at_both r.0 ∙ and_from _ _ r.2 r.1 in
        ap not (ne_eqb both 0 (λ e. both_ways (bit both r.0) (ap (λ (n : ℕ). bit n r.0) e ∙ no_bit r.0) b)),
  )

-- ---- the first step of a pattern

pub first_lt : (plan : List (List ℕ)) (j : ℕ) → Nonempty plan → j < length plan → first_step plan j < length (rests plan)
unfolding first_step rests tails
first_lt [] j filled less = absurd (omega arith)
first_lt ([] ∷ ps) zero filled less = absurd (omega (arith, filled zero less))
first_lt ((s ∷ ss) ∷ ps) zero filled less = omega arith
first_lt (p ∷ ps) (suc j) filled less =
    let l : j < length ps = omega arith in
    simp length-append (omega (arith, first_lt ps j (λ i h. filled (suc i) (omega arith)) l))

pub rest_first : (plan : List (List ℕ)) (j : ℕ) → Nonempty plan → j < length plan → rest_at plan (first_step plan j) ≡ get_or plan j []
unfolding rest_at first_step rests tails
rest_first [] j filled less = absurd (omega arith)
rest_first ([] ∷ ps) zero filled less = absurd (omega (arith, filled zero less))
rest_first ((s ∷ ss) ∷ ps) zero filled less = refl
rest_first (p ∷ ps) (suc j) filled less =
    let l : j < length ps = omega arith in
    rw (length-append (tails p) (rests (take j ps)), get_or-append-add (tails p) (rests ps)) (rest_first ps j (λ i h. filled (suc i) (omega arith)) l)

pub marks_mask : (plan : List (List ℕ)) (t : List ℕ) → marks_of plan t ≡ mask_l (map (λ p. spells p t) plan)
unfolding marks_of
marks_mask [] t = refl
marks_mask (p ∷ ps) t = ap (λ (n : ℕ). cond (spells p t) 1 0 + 2 * n) (marks_mask ps t)

-- the bit of the closing fits at the first step of a pattern
pub closing_at : (plan : List (List ℕ)) (t : List ℕ) (j : ℕ) → Nonempty plan → j < length plan → bit (closing_of plan t) (first_step plan j) ≡ spells (get_or plan j []) t
unfolding closing_of
closing_at plan t j filled less = bit_in (λ r. spells r t) plan (first_step plan j) (first_lt plan j filled less) ∙ ap (λ (r : List ℕ). spells r t) (rest_first plan j filled less)

pub marks_read : (plan : List (List ℕ)) → Nonempty plan → (t : List ℕ) → mask_l (map (λ j. bit (closing_of plan t) (first_step plan j)) (range_with_len 0 (length plan))) ≡ marks_of plan t
marks_read plan filled t =
    ap mask_l (same_lists (map (λ j. bit (closing_of plan t) (first_step plan j)) (range_with_len 0 (length plan))) (map (λ p. spells p t) plan) (long ∙ sym (length-map plan (λ p. spells p t))) at) ∙ sym (marks_mask plan t)
  where
    long : length (map (λ j. bit (closing_of plan t) (first_step plan j)) (range_with_len 0 (length plan))) ≡ length plan
    long = length-map-range_with_len (λ j. bit (closing_of plan t) (first_step plan j)) 0 (length plan)

    at : (k : ℕ) (d : Bool) → k < length (map (λ j. bit (closing_of plan t) (first_step plan j)) (range_with_len 0 (length plan))) → get_or (map (λ j. bit (closing_of plan t) (first_step plan j)) (range_with_len 0 (length plan))) k d ≡ get_or (map (λ p. spells p t) plan) k d
    at k d less =
        let l : k < length plan = omega (arith, long) in
        get_or-map-range_with_len (λ j. bit (closing_of plan t) (first_step plan j)) 0 (length plan) k k d l (zero-add k)
        ∙ closing_at plan t k filled l
        ∙ sym (get_or-map (λ p. spells p t) plan k [] d l)
