-- `examples_hold`: the theorem of proofs/Examples.
use Rattle.pattern.proofs.Examples.{examples}
use Rattle.pattern.proofs.examples_hold.Goals as goal

pub returns : goal.returns
returns c = examples
