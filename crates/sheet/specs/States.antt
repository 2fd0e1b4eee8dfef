-- What always holds of the states in a sheet, of the state at every place.
use Rattle.std.specs.Prelude.{◌≡◌, ℕ, ◌^◌, ◌<◌, ◌≤◌, false, List, length, replicate, slice_index, slice_index_or}
use Rattle.sheet.specs.Tables.{most_letters}
use Rattle.sheet.specs.declared.states.State.{State}

-- a state that is not there: no marks and no arrows
abbrev pub absent : State
absent = record { marks = 0; prefix = false; arrows = replicate most_letters 0 }

abbrev pub Each : (State → Type 0) → List State → Type 0
Each P states = (k : ℕ) → P (slice_index_or states k absent)

-- the marks take 32 bits
abbrev pub HasMarks : State → Type 0
HasMarks s = s.marks < 2 ^ 32

-- there is room for an arrow by each letter of the largest alphabet
abbrev pub IsWide : State → Type 0
IsWide s = length s.arrows ≡ most_letters

-- no arrow leads past the last of so many states
abbrev pub IsInside : ℕ → State → Type 0
IsInside states s = (a : ℕ) → slice_index s.arrows a ≤ states

-- there is no arrow by a letter that is not below the number of letters
abbrev pub IsBare : ℕ → State → Type 0
IsBare letters s = (a : ℕ) → letters ≤ a → slice_index s.arrows a ≡ 0

-- a state that a sheet of so many letters and states may hold
pub record Good (letters states : ℕ) (s : State) : Type 0 where
  pub marks : HasMarks s
  pub wide : IsWide s
  pub inside : IsInside states s
  pub bare : IsBare letters s
