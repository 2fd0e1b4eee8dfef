-- What the steps of a plan are as sets of letters.
use Rattle.std.specs.Prelude.{ℕ, ◌^◌, ◌<◌, List, [], length, slice_index, slice_index_or}

-- each step is a set that has a letter, and only letters below K
abbrev pub Steps : ℕ → List ℕ → Type 0
Steps K p = (i : ℕ) → i < length p → (0 < slice_index p i) × (slice_index p i < 2 ^ K)

-- every step of the plan admits only letters below K
abbrev pub Within : ℕ → List (List ℕ) → Type 0
Within K plan = (j i : ℕ) → i < length (slice_index_or plan j []) → slice_index (slice_index_or plan j []) i < 2 ^ K
