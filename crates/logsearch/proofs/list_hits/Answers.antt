-- `list_hits`: after each call the search is begun, and a hit leaves one less.
use Rattle.logsearch.proofs.Searching.{is_found, answered, one_less}
use Rattle.logsearch.proofs.list_hits.Goals as goal

pub unreachable-requires : goal.unreachable-requires
unreachable-requires g c =
    let m = c.make-next in
    let d = (answered g.T.Trace.alphabet g.T.Trace.row _ _ _ c.loop-found.invariant m.ensures.kept m.ensures.law).1 in
    c.in_default.not-Found d.held d.is

pub loop-found-preserved : goal.loop-found-preserved
loop-found-preserved g c =
    let m = c.make-next in
    (answered g.T.Trace.alphabet g.T.Trace.row _ _ _ c.loop-found.invariant m.ensures.kept m.ensures.law).0

pub returns-in_default-found : goal.returns-in_default-found
returns-in_default-found g c =
    let m = c.make-next in
    record { begun = (answered g.T.Trace.alphabet g.T.Trace.row _ _ _ c.loop-found.invariant m.ensures.kept m.ensures.law).0 }

pub loop-found-smaller : goal.loop-found-smaller
loop-found-smaller g c =
    let m = c.make-next in
    one_less g.T.Trace.alphabet g.T.Trace.row _ _ _ c.in-Some.hit c.loop-found.invariant m.ensures.kept m.ensures.law (is_found m.result.1 c.in-Found.found c.in-Some.hit c.in-Found.is c.in-Some.is)
