-- `no_wrong_is_right`: the theorem of proofs/Wrong.
use Rattle.automaton.proofs.Wrong.{no_wrong_is_right_lem}
use Rattle.automaton.proofs.no_wrong_is_right.Goals as goal

pub returns : goal.returns
returns c = no_wrong_is_right_lem
