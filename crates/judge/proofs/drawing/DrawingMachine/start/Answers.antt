-- The empty word has no fits.
use Rattle.std.proofs.Common.{refl}
use Rattle.exploration.specs.Drawing.{drawing}
use Rattle.judge.proofs.drawing.DrawingMachine.start.Goals as goal

pub returns : goal.returns
unfolding drawing
returns c = record { answer = refl; none = refl }
