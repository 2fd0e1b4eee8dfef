-- The worked examples hold by computation.
use Rattle.std.proofs.Common.{refl}
use Rattle.automaton.specs.Automata.{reach_from}
use Rattle.automaton.specs.Search.{following, tick, ticks}
use Rattle.automaton.specs.Examples.{Searches}

pub searches : Searches
unfolding reach_from following tick ticks
searches = record { word_ba = refl; word_ab = refl; word_bb = refl; overlapping = refl; too_short = refl; damaged = refl }
