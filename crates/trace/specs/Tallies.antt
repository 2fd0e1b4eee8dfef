-- The tally of a row: how many of its cells are letters, and how many are not; and the line that tells it, each character by its code.
-- Assumes nothing.
use Rattle.std.specs.Prelude.{ℕ, List, ◌++◌, is_ok, is_err, count_by, codes, decimal, Result}
use Rattle.trace.specs.declared.tally.Tally.{Tally}

abbrev pub tally_of : {D : Type 0} → List (Result ℕ D) → Tally
tally_of row = record { letters = count_by is_ok row; damaged = count_by is_err row }

abbrev pub tally_text : Tally → List ℕ
tally_text tally = codes "LETTERS " ++ (decimal tally.letters ++ (codes " DAMAGED " ++ decimal tally.damaged))
