-- `judgements_hold`: the theorem of proofs/Examples.
use Rattle.exploration.proofs.Examples.{judgements}
use Rattle.exploration.proofs.judgements_hold.Goals as goal

pub returns : goal.returns
returns c = judgements
