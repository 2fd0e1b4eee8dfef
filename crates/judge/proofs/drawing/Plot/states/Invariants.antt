-- The states of the entries so far.
use Rattle.std.proofs.Common.{◌+◌}
use Rattle.judge.specs.Tables.{words_in}
use Rattle.judge.specs.Plots.{Bare}
use Rattle.sheet.specs.Views.{table_of}
use Rattle.judge.proofs.drawing.Plot.states.Given as goal

abbrev pub invariant-loop-entry : goal.invariant-loop-entry
invariant-loop-entry l = Bare l.self.plan.now (words_in l.self.table.now) (l.entry-index + 1) (table_of l.sheet)
