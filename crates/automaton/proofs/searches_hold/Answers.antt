-- `searches_hold`: the theorem of proofs/Examples.
use Rattle.automaton.proofs.Examples.{searches}
use Rattle.automaton.proofs.searches_hold.Goals as goal

pub returns : goal.returns
returns c = searches
