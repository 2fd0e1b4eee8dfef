-- `resume`: the calls so far were answered, and keep the law.
use Rattle.std.proofs.Common.{◌≡◌, ◌++◌, length, vec_items}
use Rattle.reading.specs.Sessions.{trace_of, Continues}
use Rattle.reading.proofs.driver.resume.Given as goal

abbrev pub invariant-loop-call : goal.invariant-loop-call
invariant-loop-call g l =
    (trace_of l.session ≡ trace_of l.initial.session)
    × (l.yielded ++ l.call-iterator.rest.items ≡ l.initial.call-iterator.rest.items)
    × (length (vec_items l.answers) ≡ length l.yielded)
    × Continues g.T.Trace.alphabet (g.T.Trace.row (trace_of l.initial.session)) l.initial.session l.yielded (vec_items l.answers) l.session
