-- Where a text fits in a plan, as two sets of steps, and the tables by which they are found.
-- The steps of a plan are numbered through all its patterns, one after the other, from 0. A set of steps is a number: bit g is
-- set where step g is in the set.
use Rattle.std.specs.Prelude.{◌≡◌, ℕ, ◌+◌, ◌-◌, ◌/◌, ◌%◌, ◌^◌, ◌<◌, ◌≤◌, Bool, true, false, not, ◌&&◌, List, [], ◌∷◌, ◌++◌, map, length, take, drop, ◌==◌, bit_and, slice_index, slice_index_or}
use Rattle.std.specs.Simd.Lanes.{mask_l}
use Rattle.std.specs.List.{range_with_len}
use Rattle.pattern.specs.Patterns.{admits, spells}

-- the ends of a pattern that have a step, the whole pattern first
unfoldable pub tails : List ℕ → List (List ℕ)
tails [] = []
tails (s ∷ ss) = (s ∷ ss) ∷ tails ss

-- for each step of the plan, in their order: the steps of its pattern from it on
unfoldable pub rests : List (List ℕ) → List (List ℕ)
rests [] = []
rests (p ∷ ps) = tails p ++ rests ps

-- the set of the steps from which on the pattern passes the test
unfoldable pub steps_where : (List ℕ → Bool) → List (List ℕ) → ℕ
steps_where test plan = mask_l (map test (rests plan))

-- some of the steps, from the first on, but not all, spell the text
unfoldable pub begins : List ℕ → List ℕ → Bool
begins [] t = false
begins (s ∷ ss) [] = true
begins (s ∷ ss) (a ∷ t) = admits s a && begins ss t

-- the closing fits of a text: the steps from which on the rest of the pattern spells it
unfoldable pub closing_of : List (List ℕ) → List ℕ → ℕ
closing_of plan t = steps_where (λ r. spells r t) plan

-- its inner fits: the steps from which on it is spelt, with a step of the pattern left over
unfoldable pub inner_of : List (List ℕ) → List ℕ → ℕ
inner_of plan t = steps_where (λ r. begins r t) plan

-- the fits of a text, closing and inner
abbrev pub fits_of : List (List ℕ) → List ℕ → ℕ × ℕ
fits_of plan t = (closing_of plan t, inner_of plan t)

-- bit i of n
unfoldable pub bit : ℕ → ℕ → Bool
bit n i = (n / (2 ^ i)) % 2 == 1

-- ---- the tables

-- the first of the steps admits the letter
unfoldable pub admits_first : ℕ → List ℕ → Bool
admits_first a [] = false
admits_first a (s ∷ ss) = admits s a

-- there is one step
unfoldable pub is_last : List ℕ → Bool
is_last [] = false
is_last (s ∷ []) = true
is_last (s ∷ (u ∷ us)) = false

-- for each step of a pattern, and of the plan: whether it is the first of its pattern
unfoldable pub opening : List ℕ → List Bool
opening [] = []
opening (s ∷ ss) = true ∷ map (λ _. false) ss

unfoldable pub opens : List (List ℕ) → List Bool
opens [] = []
opens (p ∷ ps) = opening p ++ opens ps

-- the number of the first step of pattern j
unfoldable pub first_step : List (List ℕ) → ℕ → ℕ
first_step plan j = length (rests (take j plan))

-- pattern j: so many steps, from its first one on
abbrev pub pattern_at : List ℕ → List ℕ → List ℕ → ℕ → List ℕ
pattern_at firsts lengths steps j = take (slice_index lengths j) (drop (slice_index firsts j) steps)

-- the plan of so many patterns, with these first steps, lengths and steps
abbrev pub plan_of : ℕ → List ℕ → List ℕ → List ℕ → List (List ℕ)
plan_of patterns firsts lengths steps = map (pattern_at firsts lengths steps) (range_with_len 0 patterns)

-- what the tables hold: for each letter the steps that admit it; for each pattern its first step
abbrev pub Admit : List (List ℕ) → ℕ → List ℕ → Type 0
Admit plan letters admit = (a : ℕ) → a < letters → slice_index admit a ≡ steps_where (admits_first a) plan

abbrev pub Firsts : List (List ℕ) → List ℕ → Type 0
Firsts plan firsts = (j : ℕ) → j < length plan → slice_index firsts j ≡ first_step plan j

-- the patterns lie in the first so many steps
abbrev pub Inside : ℕ → List ℕ → List ℕ → ℕ → Type 0
Inside patterns firsts lengths count = (j : ℕ) → j < patterns → slice_index firsts j + slice_index lengths j ≤ count

-- every pattern has a step
abbrev pub Nonempty : List (List ℕ) → Type 0
Nonempty plan = (j : ℕ) → j < length plan → 0 < length (slice_index_or plan j [])

-- ---- fits as all others see them: what has to be remembered of a text

-- the fits of a text; those of one letter; those of a text with one letter more before it, from its own; the marks of a text,
-- and whether it is a proper prefix, from its fits
pub record Fitting : Type 0 where
  pub fits_of : List ℕ → ℕ × ℕ
  pub first : ℕ → ℕ × ℕ
  pub extend : ℕ × ℕ → ℕ → ℕ × ℕ
  pub marks : ℕ × ℕ → ℕ
  pub prefix : ℕ × ℕ → Bool

-- the steps of the plan that admit the letter; those that end a pattern; those that open one
abbrev pub admit_of : List (List ℕ) → ℕ → ℕ
admit_of plan a = steps_where (admits_first a) plan

abbrev pub ends_of : List (List ℕ) → ℕ
ends_of plan = steps_where is_last plan

abbrev pub starts_of : List (List ℕ) → ℕ
starts_of plan = mask_l (opens plan)

-- one letter more: from each step but those that open a pattern to the step before it, if that admits the letter
abbrev pub shifted : List (List ℕ) → ℕ → ℕ → ℕ
shifted plan set a = bit_and (bit_and set ((2 ^ 64 - 1) - starts_of plan) / 2) (admit_of plan a)

-- a plan of at most 64 steps
abbrev pub fitting : List (List ℕ) → Fitting
fitting plan =
    record {
      fits_of = fits_of plan;
      first = λ a. (bit_and (admit_of plan a) (ends_of plan), bit_and (admit_of plan a) ((2 ^ 64 - 1) - ends_of plan));
      extend = λ f a. (shifted plan f.0 a, shifted plan f.1 a);
      marks = λ f. mask_l (map (λ j. bit f.0 (first_step plan j)) (range_with_len 0 (length plan)));
      prefix = λ f. not (bit_and f.1 (starts_of plan) == 0);
    }
