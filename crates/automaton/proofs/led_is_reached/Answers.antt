-- `led_is_reached`: the theorem of proofs/Automata.
use Rattle.automaton.proofs.Automata.{led_is_reached_lem}
use Rattle.automaton.proofs.led_is_reached.Goals as goal

pub returns : goal.returns
returns c = led_is_reached_lem
