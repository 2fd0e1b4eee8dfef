-- `next`: what holds at each turn of both loops, and what falls.
use Rattle.std.proofs.Common.{◌≡◌, ◌<◌, None}
use Rattle.automaton.specs.Search.{left}
use Rattle.sheet.specs.Views.{automaton_of}
use Rattle.reading.specs.Cells.{letters_in}
use Rattle.reading.specs.Spots.{conf_of, Onward}
use Rattle.reading.proofs.states.Search.next.Given as goal

abbrev pub invariant-loop-at : goal.invariant-loop-at
invariant-loop-at g l =
    (l.at.p < l.len)
    × (l.found ≡ None)
    × Onward (automaton_of l.self.reading.sheet) l.least (letters_in (g.T.Trace.row l.self.reading.trace)) l.initial.at l.at

abbrev pub decreases-loop-at : goal.decreases-loop-at
decreases-loop-at g l = left (letters_in (g.T.Trace.row l.self.reading.trace)) (conf_of l.at)

abbrev pub invariant-places : goal.invariant-places
invariant-places g l =
    (l.found ≡ None)
    × Onward (automaton_of l.self.reading.sheet) l.least (letters_in (g.T.Trace.row l.self.reading.trace)) l.initial.at l.at

abbrev pub decreases-places : goal.decreases-places
decreases-places g l = left (letters_in (g.T.Trace.row l.self.reading.trace)) (conf_of l.at)
