-- `list_hits`: the search is begun, and each hit leaves one less.
use Rattle.reading.specs.Sessions.{trace_of}
use Rattle.logsearch.specs.Searches.{Begun, left}
use Rattle.logsearch.proofs.list_hits.Given as goal

abbrev pub invariant-loop-found : goal.invariant-loop-found
invariant-loop-found g l = Begun g.T.Trace.alphabet (g.T.Trace.row (trace_of l.session)) l.session

abbrev pub decreases-loop-found : goal.decreases-loop-found
decreases-loop-found g l = left (g.T.Trace.row (trace_of l.session)) l.session
