-- `resume`: one call more, and the end.
use Rattle.std.proofs.Common.{◌≡◌, List, [], ◌∷◌, ◌++◌, length, vec_items, sym, ap, ◌∙◌, subst, arith, length-append, rules}
use Rattle.reading.specs.declared.calls.Call.{Call}
use Rattle.reading.specs.Sessions.{trace_of, Continues}
use Rattle.reading.proofs.Performing.{continues_more, of_trace, came_more, came_all}
use Rattle.reading.proofs.driver.resume.Goals as goal

pub loop-call-preserved : goal.loop-call-preserved
loop-call-preserved g c =
    let i = c.loop-call.invariant in
    let m = c.make-next in
    let pushed : vec_items c.push.new.self ≡ vec_items c.loop-call.answers ++ m.result.1 ∷ [] = search rules in (
      m.ensures.kept ∙ i.0,
      came_more c.loop-call.yielded _ _ _ c.in-Some.call i.1 c.in-Some.ensures.steps.0,
      omega (arith, i.2, ap length pushed, length-append (vec_items c.loop-call.answers) (m.result.1 ∷ []), length-append c.loop-call.yielded (c.in-Some.call ∷ [])),
      continues_more _ _ c.args.session c.loop-call.session m.result.0 c.loop-call.yielded _ _ c.in-Some.call m.result.1 i.2 pushed i.3 (of_trace _ g.T.Trace.row _ _ c.loop-call.session m.result.0 c.in-Some.call m.result.1 i.0 m.ensures.law),
    )

pub returns-clause-law : goal.returns-clause-law
returns-clause-law g c =
    let i = c.loop-call.invariant in
    let all : c.loop-call.yielded ≡ vec_items c.args.calls = came_all _ c.loop-call.call-iterator.rest.items _ i.1 (sym c.loop-call.call-iterator.rest.ok.0 ∙ c.in-None.ensures.steps.0) ∙ c.into_iter-call-iterator.ensures.into_iter_gives.0 in
    subst (λ (calls : List Call). Continues g.T.Trace.alphabet (g.T.Trace.row (trace_of c.args.session)) c.args.session calls (vec_items c.loop-call.answers) c.loop-call.session) all i.3
