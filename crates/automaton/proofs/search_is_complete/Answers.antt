-- `search_is_complete`: the theorem of proofs/Search.
use Rattle.automaton.proofs.Search.{search_is_complete_lem}
use Rattle.automaton.proofs.search_is_complete.Goals as goal

pub returns : goal.returns
returns c = search_is_complete_lem
