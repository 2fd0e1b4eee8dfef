-- The table is sound at each stage; rows rise.
use Rattle.std.proofs.Common.{◌-◌, ◌<◌, ◌≤◌, length}
use Rattle.exploration.specs.Cells.{Sound}
use Rattle.judge.specs.Tables.{words_in, Same}
use Rattle.judge.proofs.table.Table.explore.Given as goal

abbrev pub invariant-loop-letter : goal.invariant-loop-letter
invariant-loop-letter g l = record { sound : Sound l.self.letters (g.M.Machine.meaning l.machine) (words_in l.self) l.self.size l.row l.letter; entry : l.row < l.self.size; same : Same l.fn.self l.self }

abbrev pub invariant-loop-row : goal.invariant-loop-row
invariant-loop-row g l = record { sound : Sound l.self.letters (g.M.Machine.meaning l.machine) (words_in l.self) l.self.size l.row 0; row : l.row ≤ l.self.size; same : Same l.fn.self l.self }

abbrev pub decreases-loop-row : goal.decreases-loop-row
decreases-loop-row g l = length l.self.entries.now - l.row
