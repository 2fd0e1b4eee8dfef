-- The steps of a plan by their numbers.
use Rattle.std.proofs.Common.{◌≡◌, ℕ, zero, suc, ◌+◌, ◌-◌, ◌/◌, ◌^◌, ◌<◌, ◌≤◌, Bool, true, false, cond, not, ◌&&◌, List, [], ◌∷◌, map, length, get_or, sym, refl, ap, ◌∙◌, ap₂, inl, inr, arith, pow_mono}
use lib.Bits.{bit_and, and_le_l, and_le_r}
use lib.Lanes.{mask_l}
use Rattle.std.proofs.lemmas.Simd.{mask_l-lt}
use Rattle.std.proofs.lemmas.List.{get_or-map, get_or_past, length-map, length-append}
use Rattle.std.proofs.lemmas.Bool.{cases_lt, and_right}
use Rattle.pattern.specs.Fits.{bit, tails, rests, steps_where, admits_first, opening, opens}
use Rattle.pattern.proofs.Bitwise.{bit_suc, bit_mask_l', bit_and_lem, and_not, same_bits}

-- the steps of its pattern from step g on
unfoldable pub rest_at : List (List ℕ) → ℕ → List ℕ
rest_at plan g = get_or (rests plan) g []

abbrev pub opens_at : List (List ℕ) → ℕ → Bool
opens_at plan g = get_or (opens plan) g false

abbrev pub tail : List ℕ → List ℕ
tail [] = []
tail (s ∷ ss) = ss

first_opens : (plan : List (List ℕ)) → cond (opens_at plan zero) [] (rest_at plan zero) ≡ []
unfolding rest_at rests tails opens opening
first_opens [] = refl
first_opens ([] ∷ ps) = first_opens ps
first_opens ((s ∷ ss) ∷ ps) = refl

-- after step g comes step g + 1, unless that opens a pattern
pub next_rest : (plan : List (List ℕ)) (g : ℕ) → cond (opens_at plan (suc g)) [] (rest_at plan (suc g)) ≡ tail (rest_at plan g)
unfolding rest_at rests tails opens opening
next_rest [] g = refl
next_rest (p ∷ ps) g = go p g (next_rest ps)
  where
    go : (p : List ℕ) (g : ℕ) → ((g : ℕ) → cond (opens_at ps (suc g)) [] (rest_at ps (suc g)) ≡ tail (rest_at ps g)) → cond (opens_at (p ∷ ps) (suc g)) [] (rest_at (p ∷ ps) (suc g)) ≡ tail (rest_at (p ∷ ps) g)
    go [] g rest = rest g
    go (s ∷ []) zero rest = first_opens ps
    go (s ∷ []) (suc g) rest = rest g
    go (s ∷ (u ∷ us)) zero rest = refl
    go (s ∷ (u ∷ us)) (suc g) rest = go (u ∷ us) g rest

-- a set of steps has a bit for each step of the plan
pub where_bound : (f : List ℕ → Bool) (plan : List (List ℕ)) → steps_where f plan < 2 ^ length (rests plan)
unfolding steps_where
where_bound f plan = rw (← length-map (rests plan) f) (mask_l-lt (map f (rests plan)))

module _ (plan : List (List ℕ)) (few : length (rests plan) ≤ 64) where
  pub where_lt : (f : List ℕ → Bool) → steps_where f plan < 2 ^ 64
  where_lt f = omega (arith, where_bound f plan, pow_mono few)

pub bit_in : (f : List ℕ → Bool) (plan : List (List ℕ)) (g : ℕ) → g < length (rests plan) → bit (steps_where f plan) g ≡ f (rest_at plan g)
unfolding steps_where rest_at
bit_in f plan g less = bit_mask_l' (map f (rests plan)) g ∙ get_or-map f (rests plan) g [] false less

-- step g is in the set where the rest from it on passes
pub bit_where : (f : List ℕ → Bool) → f [] ≡ false → (plan : List (List ℕ)) (g : ℕ) → bit (steps_where f plan) g ≡ f (rest_at plan g)
unfolding steps_where rest_at
bit_where f e plan g =
    bit_mask_l' (map f (rests plan)) g ∙ elim (cases_lt g (length (rests plan))) [
      | inl less ↦ get_or-map f (rests plan) g [] false less
      | inr past ↦ let l : length (map f (rests plan)) ≤ g = rw (length-map (rests plan) f) past in get_or_past (map f (rests plan)) g false l ∙ sym e ∙ ap f (sym (get_or_past (rests plan) g [] past))
    ]

pub length_opening : (p : List ℕ) → length (opening p) ≡ length (tails p)
unfolding tails opening
length_opening [] = refl
length_opening (s ∷ ss) = ap suc (more ss)
  where
    more : (ss : List ℕ) → length (map {B = Bool} (λ _. false) ss) ≡ length (tails ss)
    more [] = refl
    more (s ∷ ss) = ap suc (more ss)

pub length_opens : (plan : List (List ℕ)) → length (opens plan) ≡ length (rests plan)
unfolding rests opens
length_opens [] = refl
length_opens (p ∷ ps) = rw (length-append (opening p) (opens ps), length-append (tails p) (rests ps), length_opens ps) (ap (λ (x : ℕ). x + length (rests ps)) (length_opening p))

pub opens_bound : (plan : List (List ℕ)) → mask_l (opens plan) < 2 ^ length (rests plan)
opens_bound plan = rw (← length_opens plan) (mask_l-lt (opens plan))

pub opens_lt : (plan : List (List ℕ)) → length (rests plan) ≤ 64 → mask_l (opens plan) < 2 ^ 64
opens_lt plan few = omega (arith, opens_bound plan, pow_mono few)

and_true : (b : Bool) → (b && true) ≡ b
and_true true = refl
and_true false = refl

and_comm : (x y : Bool) → (x && y) ≡ (y && x)
and_comm true y = sym (and_true y)
and_comm false y = sym (and_right y false refl)

-- one letter more, before the text: f is the test of the text, f' that of the longer one
module _ (plan : List (List ℕ)) (few : length (rests plan) ≤ 64) (a : ℕ) (f f' : List ℕ → Bool) (none : f [] ≡ false) (steps : (r : List ℕ) → f' r ≡ (admits_first a r && f (tail r))) where
  at_next : (g : ℕ) → (f (rest_at plan (suc g)) && not (opens_at plan (suc g))) ≡ f (tail (rest_at plan g))
  at_next g = rw (← next_rest plan g) (go (opens_at plan (suc g)) (rest_at plan (suc g)))
    where
      go : (b : Bool) (r : List ℕ) → (f r && not b) ≡ f (cond b [] r)
      go true r = and_right (f r) false refl ∙ sym none
      go false r = and_true (f r)

  abbrev set : ℕ
  set = steps_where f plan

  abbrev kept : ℕ
  kept = bit_and set ((2 ^ 64 - 1) - mask_l (opens plan))

  abbrev admitting : ℕ
  admitting = steps_where (admits_first a) plan

  pub extended : bit_and (bit_and (steps_where f plan) ((2 ^ 64 - 1) - mask_l (opens plan)) / 2) (steps_where (admits_first a) plan) ≡ steps_where f' plan
  unfolding admits_first
  extended = same_bits 64 _ _ below (where_lt plan few f') at
    where
      below : bit_and (kept / 2) admitting < 2 ^ 64
      below = omega (arith, and_le_r (kept / 2) admitting, where_lt plan few (admits_first a))

      at : (g : ℕ) → g < 64 → bit (bit_and (kept / 2) admitting) g ≡ bit (steps_where f' plan) g
      at g less =
          bit_and_lem (kept / 2) admitting g
          ∙ ap₂ ◌&&◌ (sym (bit_suc kept g) ∙ and_not 64 set (mask_l (opens plan)) (suc g) (where_lt plan few f) (opens_lt plan few) ∙ ap₂ (λ (x y : Bool). x && not y) (bit_where f none plan (suc g)) (bit_mask_l' (opens plan) (suc g)) ∙ at_next g) (bit_where (admits_first a) refl plan g)
          ∙ and_comm (f (tail (rest_at plan g))) (admits_first a (rest_at plan g))
          ∙ sym (steps (rest_at plan g))
          ∙ sym (bit_where f' (steps []) plan g)

-- a table cut by another, or by what the other has not
module _ (plan : List (List ℕ)) (few : length (rests plan) ≤ 64) (f h : List ℕ → Bool) (f_none : f [] ≡ false) (h_none : h [] ≡ false) where
  pub where_and : (f' : List ℕ → Bool) → ((r : List ℕ) → f' r ≡ (f r && h r)) → bit_and (steps_where f plan) (steps_where h plan) ≡ steps_where f' plan
  where_and f' is =
      same_bits 64 _ _ (omega (arith, and_le_r (steps_where f plan) (steps_where h plan), where_lt plan few h)) (where_lt plan few f')
      (λ g less. bit_and_lem (steps_where f plan) (steps_where h plan) g ∙ ap₂ ◌&&◌ (bit_where f f_none plan g) (bit_where h h_none plan g) ∙ sym (is (rest_at plan g)) ∙ sym (bit_where f' (is [] ∙ ap (λ (x : Bool). x && h []) f_none) plan g))

  pub where_and_not : (f' : List ℕ → Bool) → ((r : List ℕ) → f' r ≡ (f r && not (h r))) → bit_and (steps_where f plan) ((2 ^ 64 - 1) - steps_where h plan) ≡ steps_where f' plan
  where_and_not f' is =
      same_bits 64 _ _ (omega (arith, and_le_l (steps_where f plan) ((2 ^ 64 - 1) - steps_where h plan), where_lt plan few f)) (where_lt plan few f')
      (λ g less. and_not 64 (steps_where f plan) (steps_where h plan) g (where_lt plan few f) (where_lt plan few h) ∙ ap₂ (λ (x y : Bool). x && not y) (bit_where f f_none plan g) (bit_where h h_none plan g) ∙ sym (is (rest_at plan g)) ∙ sym (bit_where f' (is [] ∙ ap (λ (x : Bool). x && not (h [])) f_none) plan g))
