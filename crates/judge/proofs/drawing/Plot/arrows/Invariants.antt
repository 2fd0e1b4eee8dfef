-- The arrows of the rows so far, and of the letters so far.
use Rattle.judge.specs.Plots.{PlottedFor}
use Rattle.sheet.specs.Views.{table_of}
use Rattle.judge.proofs.drawing.Plot.arrows.Given as goal

abbrev pub invariant-loop-row : goal.invariant-loop-row
invariant-loop-row l = PlottedFor l.self l.row 0 (table_of l.sheet)

abbrev pub invariant-loop-letter : goal.invariant-loop-letter
invariant-loop-letter l = PlottedFor l.self l.row l.letter (table_of l.sheet)
