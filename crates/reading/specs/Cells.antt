-- What a search and an inspection see of a row.
--   letter_in, letters_in   the letters of a row, none where a cell is damaged: all that a search sees of it
--   numbered                a trace's answer, with the number of the cell beside its fault
--   inspected               what inspecting a cell answers
use Rattle.std.specs.Prelude.{ℕ, List, [], ◌∷◌, Some, None, Ok, Err, Option, Result}
use Rattle.trace.specs.declared.fault.Fault.{Fault}
use Rattle.trace.specs.Cells.{cell_at}
use Rattle.reading.specs.declared.cell_fault.CellFault.{CellFault}

abbrev pub letter_in : {D : Type 0} → Result ℕ D → Option ℕ
letter_in (Ok a) = Some a
letter_in (Err d) = None

abbrev pub letters_in : {D : Type 0} → List (Result ℕ D) → List (Option ℕ)
letters_in [] = []
letters_in (x ∷ xs) = letter_in x ∷ letters_in xs

abbrev pub numbered : {D : Type 0} → ℕ → Result ℕ (Fault D) → Result ℕ (CellFault D)
numbered i (Ok a) = Ok a
numbered i (Err f) = Err (record { cell = i; fault = f })

abbrev pub inspected : {D : Type 0} → List (Result ℕ D) → ℕ → Result ℕ (CellFault D)
inspected row i = numbered i (cell_at row i)
