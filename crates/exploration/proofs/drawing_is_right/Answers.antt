-- `drawing_is_right`: the theorem of proofs/Drawing.
use Rattle.exploration.proofs.Drawing.{drawing_is_right_lem}
use Rattle.exploration.proofs.drawing_is_right.Goals as goal

pub returns : goal.returns
returns c = drawing_is_right_lem
