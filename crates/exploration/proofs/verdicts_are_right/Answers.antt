-- `verdicts_are_right`: the theorem of proofs/Pairs.
use Rattle.exploration.proofs.Pairs.{verdicts_are_right_lem}
use Rattle.exploration.proofs.verdicts_are_right.Goals as goal

pub returns : goal.returns
returns c = verdicts_are_right_lem
