-- A row of cells, what asking for one of them answers, and what every trace's row keeps.
--   shown      a cell as it is answered
--   cell_at    the answer for each number of a cell, past the end too
--   Below      a cell's letter, if it has one, is below n
--   Lettered   so is every letter of a row
--   Lawful     from 1 to 32 letters, every letter of the row one of them, at most 2 ^ 24 cells
-- Assumes nothing.
use Rattle.std.specs.Prelude.{ℕ, zero, suc, ◌<◌, ◌≤◌, List, [], ◌∷◌, length, Ok, Err, Result}
use Rattle.std.specs.List.{AllByRecursion}
use Rattle.trace.specs.declared.fault.Fault.{Fault}
use Rattle.trace.specs.declared.fault.Fault.TheVariants.{NoSuchCell, Damaged}

abbrev pub shown : {D : Type 0} → Result ℕ D → Result ℕ (Fault D)
shown (Ok n) = Ok n
shown (Err d) = Err (Damaged d)

abbrev pub cell_at : {D : Type 0} → List (Result ℕ D) → ℕ → Result ℕ (Fault D)
cell_at [] i = Err NoSuchCell
cell_at (x ∷ xs) zero = shown x
cell_at (x ∷ xs) (suc i) = cell_at xs i

abbrev pub Below : {D : Type 0} → ℕ → Result ℕ D → Type 0
Below n (Ok l) = l < n
Below n (Err d) = Unit {0}

abbrev pub Lettered : {D : Type 0} → ℕ → List (Result ℕ D) → Type 0
Lettered n xs = AllByRecursion (Below n) xs

pub record Lawful {D : Type 0} (n : ℕ) (xs : List (Result ℕ D)) : Type 0 where
  pub some_letter : 1 ≤ n
  pub few_letters : n ≤ 32
  pub lettered : Lettered n xs
  pub short : length xs ≤ 16777216
