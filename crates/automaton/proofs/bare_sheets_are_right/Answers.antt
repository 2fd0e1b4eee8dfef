-- `bare_sheets_are_right`: the theorem of proofs/Wrong.
use Rattle.automaton.proofs.Wrong.{bare_sheets_are_right_lem}
use Rattle.automaton.proofs.bare_sheets_are_right.Goals as goal

pub returns : goal.returns
returns c = bare_sheets_are_right_lem
