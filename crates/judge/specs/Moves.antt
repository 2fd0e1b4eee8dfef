-- What the code's nodes and answers about a letter mean.
use Rattle.std.specs.Prelude.{Some, None, Option, Ok, Err, Result}
use Rattle.automaton.specs.Machines.{Outcome, dead, wrong, to}
use Rattle.automaton.specs.Judging.{Node}
use Rattle.judge.specs.declared.machine.Node.{Node as NodeInCode}
use Rattle.judge.specs.declared.machine.Wrong.{Wrong}

abbrev pub node_of : NodeInCode → Node
node_of n = (n.state, n.fits.0, n.fits.1)

abbrev pub outcome : Result (Option NodeInCode) Wrong → Outcome Node
outcome (Ok None) = dead
outcome (Ok (Some n)) = to (node_of n)
outcome (Err _) = wrong
