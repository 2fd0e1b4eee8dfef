-- `explores_rightly`: the theorem of proofs/Explore.
use Rattle.exploration.proofs.Explore.{explores}
use Rattle.exploration.proofs.explores_rightly.Goals as goal

pub returns : goal.returns
returns c = explores
