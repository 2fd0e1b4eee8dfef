-- The step of the drawing machine.
use Rattle.std.proofs.Common.{sym, ◌∙◌}
use Rattle.judge.specs.Moves.{node_of}
use Rattle.judge.proofs.Entries.{drawn_dead, drawn_to_lem}
use Rattle.judge.proofs.drawing.DrawingMachine.step.Goals as goal

pub returns-then-is_nowhere : goal.returns-then-is_nowhere
returns-then-is_nowhere c = record { answer = drawn_dead _ (node_of c.args.node) c.args.letter c.grown-fits.result c.grown-fits.ensures.answer (sym c.if-is_nowhere.true ∙ c.is_nowhere.ensures.answer) }

pub returns : goal.returns
returns c = record { answer = drawn_to_lem _ (node_of c.args.node) c.args.letter c.grown-fits.result c.grown-fits.ensures.answer (sym c.if-is_nowhere.false ∙ c.is_nowhere.ensures.answer) }
