-- `plans_are_lawful`: the theorem of proofs/Laws.
use Rattle.pattern.proofs.Laws.{laws}
use Rattle.pattern.proofs.plans_are_lawful.Goals as goal

pub returns : goal.returns
returns c = laws
