-- The fits of a text with one letter more, before it.
use Rattle.std.proofs.Common.{◌≡◌, ℕ, ◌-◌, ◌/◌, ◌^◌, ◌<◌, ◌≤◌, false, not, ◌&&◌, List, [], ◌∷◌, length, refl, arith}
use lib.Bits.{bit_and}
use lib.Lanes.{mask_l}
use Rattle.pattern.specs.Patterns.{spells}
use Rattle.pattern.specs.Fits.{rests, steps_where, begins, closing_of, inner_of, admits_first, is_last, opens}
use Rattle.pattern.proofs.Places.{tail, extended, where_and, where_and_not}

spells_more : (a : ℕ) (t r : List ℕ) → spells r (a ∷ t) ≡ (admits_first a r && spells (tail r) t)
unfolding spells admits_first
spells_more a t [] = refl
spells_more a t (s ∷ ss) = refl

pub spells_none : (t : List ℕ) → 0 < length t → spells [] t ≡ false
unfolding spells
spells_none [] h = absurd (omega arith)
spells_none (a ∷ t) h = refl

begins_more : (a : ℕ) (t r : List ℕ) → begins r (a ∷ t) ≡ (admits_first a r && begins (tail r) t)
unfolding begins admits_first
begins_more a t [] = refl
begins_more a t (s ∷ ss) = refl

spells_one : (a : ℕ) (r : List ℕ) → spells r (a ∷ []) ≡ (admits_first a r && is_last r)
unfolding spells admits_first is_last
spells_one a [] = refl
spells_one a (s ∷ []) = refl
spells_one a (s ∷ (u ∷ us)) = refl

begins_one : (a : ℕ) (r : List ℕ) → begins r (a ∷ []) ≡ (admits_first a r && not (is_last r))
unfolding begins admits_first is_last
begins_one a [] = refl
begins_one a (s ∷ []) = refl
begins_one a (s ∷ (u ∷ us)) = refl

module _ (plan : List (List ℕ)) (few : length (rests plan) ≤ 64) (a : ℕ) where
  pub closing_one : bit_and (steps_where (admits_first a) plan) (steps_where is_last plan) ≡ closing_of plan (a ∷ [])
  unfolding closing_of admits_first is_last
  closing_one = where_and plan few (admits_first a) is_last refl refl (λ r. spells r (a ∷ [])) (spells_one a)

  pub inner_one : bit_and (steps_where (admits_first a) plan) ((2 ^ 64 - 1) - steps_where is_last plan) ≡ inner_of plan (a ∷ [])
  unfolding inner_of admits_first is_last
  inner_one = where_and_not plan few (admits_first a) is_last refl refl (λ r. begins r (a ∷ [])) (begins_one a)

  pub closing_more : (t : List ℕ) → 0 < length t → bit_and (bit_and (closing_of plan t) ((2 ^ 64 - 1) - mask_l (opens plan)) / 2) (steps_where (admits_first a) plan) ≡ closing_of plan (a ∷ t)
  unfolding closing_of
  closing_more t some = extended plan few a (λ r. spells r t) (λ r. spells r (a ∷ t)) (spells_none t some) (spells_more a t)

  pub inner_more : (t : List ℕ) → bit_and (bit_and (inner_of plan t) ((2 ^ 64 - 1) - mask_l (opens plan)) / 2) (steps_where (admits_first a) plan) ≡ inner_of plan (a ∷ t)
  unfolding inner_of begins
  inner_more t = extended plan few a (λ r. begins r t) (λ r. begins r (a ∷ t)) refl (begins_more a t)
