-- A text is a factor of a plan exactly if it has a fit; no step is a closing and an inner fit.
use Rattle.std.proofs.Common.{◌≡◌, ℕ, ◌<◌, Bool, ◌↔◌, List, [], length, sym, refl, ap, ◌∙◌, inl, inr, arith}
use lib.Bits.{bit_and, and_le_r}
use Rattle.std.proofs.lemmas.Bool.{and_parts, cases_eq, cases_lt, both_ways}
use Rattle.pattern.specs.Patterns.{spells, longest}
use Rattle.pattern.specs.Fits.{bit, rests, steps_where, begins, closing_of, inner_of, fits_of}
use Rattle.pattern.specs.Images.{Any, FitsAt}
use Rattle.pattern.proofs.Bitwise.{bit_and_lem, bit_above, some_bit, no_bit}
use Rattle.pattern.proofs.Places.{rest_at, bit_where, bit_in, where_bound}
use Rattle.pattern.proofs.Extends.{spells_none}
use Rattle.pattern.proofs.Any.{any_at, any_place}
use Rattle.pattern.proofs.Spelling.{unfit, never_both, factor_length}

-- a set with no step in it
steps_none : (f : List ℕ → Bool) (plan : List (List ℕ)) → (0 < steps_where f plan → ⊥) → steps_where f plan ≡ 0
steps_none f plan h = elim (cases_eq (steps_where f plan) 0) [ inl e ↦ e | inr ne ↦ absurd (h (omega arith)) ]

module _ (plan : List (List ℕ)) (t : List ℕ) (some : 0 < length t) where
  at_step : (g : ℕ) → FitsAt t (rest_at plan g) → Any (FitsAt t) (rests plan)
  unfolding rest_at
  at_step g h = any_at [] (unfit t some) (rests plan) g h

  a_step : Any (FitsAt t) (rests plan) → (g : ℕ) × FitsAt t (rest_at plan g)
  unfolding rest_at
  a_step h = any_place [] (rests plan) h

  closing_factor : 0 < closing_of plan t → Any (FitsAt t) (rests plan)
  unfolding closing_of
  closing_factor h =
      let r = some_bit (length (rests plan)) (closing_of plan t) (where_bound (λ r. spells r t) plan) h in
      at_step r.0 (inl (sym (bit_where (λ r. spells r t) (spells_none t some) plan r.0) ∙ r.1))

  inner_factor : 0 < inner_of plan t → Any (FitsAt t) (rests plan)
  unfolding inner_of begins
  inner_factor h =
      let r = some_bit (length (rests plan)) (inner_of plan t) (where_bound (λ r. begins r t) plan) h in
      at_step r.0 (inr (sym (bit_where (λ r. begins r t) refl plan r.0) ∙ r.1))

  factor_some : Any (FitsAt t) (rests plan) → fits_of plan t ≡ (0, 0) → ⊥
  unfolding closing_of inner_of begins
  factor_some h none =
      let r = a_step h in
      let no_closing : closing_of plan t ≡ 0 = ap (λ (x : ℕ × ℕ). x.0) none in
      let no_inner : inner_of plan t ≡ 0 = ap (λ (x : ℕ × ℕ). x.1) none in
      elim r.1 [
        | inl x ↦ both_ways (bit (closing_of plan t) r.0) (ap (λ (n : ℕ). bit n r.0) no_closing ∙ no_bit r.0) (bit_where (λ r. spells r t) (spells_none t some) plan r.0 ∙ x)
        | inr x ↦ both_ways (bit (inner_of plan t) r.0) (ap (λ (n : ℕ). bit n r.0) no_inner ∙ no_bit r.0) (bit_where (λ r. begins r t) refl plan r.0 ∙ x)
      ]

  some_factor : (fits_of plan t ≡ (0, 0) → ⊥) → Any (FitsAt t) (rests plan)
  some_factor h =
      elim (cases_eq (closing_of plan t) 0) [
        | inl e ↦ inner_factor (elim (cases_eq (inner_of plan t) 0) [ inl e' ↦ absurd (h (λ i. (e i, e' i))) | inr ne ↦ omega arith ])
        | inr ne ↦ closing_factor (omega arith)
      ]

  pub somewhere : Any (FitsAt t) (rests plan) ↔ (fits_of plan t ≡ (0, 0) → ⊥)
  somewhere = (factor_some, some_factor)

pub nowhere : (plan : List (List ℕ)) (t : List ℕ) → longest plan < length t → fits_of plan t ≡ (0, 0)
unfolding closing_of inner_of
nowhere plan t long =
    let some : 0 < length t = omega arith in
    let closing : closing_of plan t ≡ 0 = steps_none (λ r. spells r t) plan (λ h. omega (arith, factor_length t plan (closing_factor plan t some h))) in
    let inner : inner_of plan t ≡ 0 = steps_none (λ r. begins r t) plan (λ h. omega (arith, factor_length t plan (inner_factor plan t some h))) in
    λ i. (closing i, inner i)

pub none_both : (plan : List (List ℕ)) (t : List ℕ) → bit_and (closing_of plan t) (inner_of plan t) ≡ 0
unfolding closing_of inner_of begins
none_both plan t =
    elim (cases_eq (bit_and (closing_of plan t) (inner_of plan t)) 0) [
      | inl e ↦ e
      | inr ne ↦
          let r = some_bit (length (rests plan)) (bit_and (closing_of plan t) (inner_of plan t)) (omega (arith, and_le_r (closing_of plan t) (inner_of plan t), where_bound (λ r. begins r t) plan)) (omega arith) in
          let parts = and_parts (bit (closing_of plan t) r.0) (bit (inner_of plan t) r.0) (sym (bit_and_lem (closing_of plan t) (inner_of plan t) r.0) ∙ r.1) in
          absurd (elim (cases_lt r.0 (length (rests plan))) [
            | inl less ↦ never_both (rest_at plan r.0) t (sym (bit_in (λ r. spells r t) plan r.0 less) ∙ parts.0) (sym (bit_in (λ r. begins r t) plan r.0 less) ∙ parts.1)
            | inr past ↦ both_ways (bit (inner_of plan t) r.0) (bit_above (length (rests plan)) (inner_of plan t) r.0 (where_bound (λ r. begins r t) plan) past) parts.1
          ])
    ]
