-- `drawn_sheets_hold`: the theorem of proofs/Drawing.
use Rattle.exploration.proofs.Drawing.{drawn_sheets_hold_lem}
use Rattle.exploration.proofs.drawn_sheets_hold.Goals as goal

pub returns : goal.returns
returns c = drawn_sheets_hold_lem
