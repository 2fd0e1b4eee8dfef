-- `tagged_sheets_are_right`: the theorem of proofs/Tagged.
use Rattle.automaton.proofs.Tagged.{tagged_sheets_are_right_lem}
use Rattle.automaton.proofs.tagged_sheets_are_right.Goals as goal

pub returns : goal.returns
returns c = tagged_sheets_are_right_lem
