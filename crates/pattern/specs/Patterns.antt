-- Letters, steps, patterns and plans.
-- A letter is a number. A step is a set of letters, as a number: bit a is set where the letter a is admitted.
-- A pattern is a list of steps, and a plan is a list of patterns. A text is a list of letters in log order, the oldest first.
use Rattle.std.specs.Prelude.{ℕ, ◌+◌, ◌*◌, ◌/◌, ◌%◌, ◌^◌, ◌<◌, min, max, Bool, true, false, cond, ◌&&◌, List, [], ◌∷◌, length, ◌==◌, slice_index, slice_index_or}

-- bit a of the step
unfoldable pub admits : ℕ → ℕ → Bool
admits step a = (step / (2 ^ a)) % 2 == 1

-- the text is an image of the steps: one letter for each step, which admits it
unfoldable pub spells : List ℕ → List ℕ → Bool
spells [] [] = true
spells [] (a ∷ t) = false
spells (s ∷ ss) [] = false
spells (s ∷ ss) (a ∷ t) = admits s a && spells ss t

-- the marks of a text: bit j is set for each pattern j, from 0, that has it as image
unfoldable pub marks_of : List (List ℕ) → List ℕ → ℕ
marks_of [] t = 0
marks_of (p ∷ ps) t = cond (spells p t) 1 0 + 2 * marks_of ps t

-- the length of the shortest pattern, 0 where there is none
unfoldable pub shortest : List (List ℕ) → ℕ
shortest [] = 0
shortest (p ∷ []) = length p
shortest (p ∷ (q ∷ qs)) = min (length p) (shortest (q ∷ qs))

-- the length of the longest pattern, 0 where there is none
unfoldable pub longest : List (List ℕ) → ℕ
longest [] = 0
longest (p ∷ ps) = max (length p) (longest ps)

-- every step admits a letter: no step is the empty set
abbrev pub Filled : List (List ℕ) → Type 0
Filled plan = (j i : ℕ) → i < length (slice_index_or plan j []) → 0 < slice_index (slice_index_or plan j []) i
