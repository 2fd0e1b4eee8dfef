-- `admit`: outside a search, with the buffers that come back.
use Rattle.std.proofs.Common.{◌≡◌, length, rules}
use Rattle.reading.proofs.Lending.{admitted_back, wiped_back}
use Rattle.reading.proofs.Turning.{judged, replaced_trace, made}
use Rattle.reading.proofs.sessions.Session.admit.Goals as goal

pub returns-in-Idle : goal.returns-in-Idle
returns-in-Idle g c =
    let K = g.T.Trace.alphabet in
    let r = c.in-Idle.reading in
    let row = g.T.Trace.row r.trace in
    let plan = c.args.plan in
    let sheet = c.args.sheet in
    let m = c.as_mut_slice.ensures in
    let w = c.as_mut_slice-in-Idle.ensures in
    let v = c.admit-verdict in
    let kept : length v.new.word ≡ length c.as_mut_slice-in-Idle.result.now = search rules in
    made K g.T.Trace.row _ _ _ _ _ c.in-Idle.is (replaced_trace K row r v.new.self plan sheet v.result v.ensures.held)
    (judged K row r v.new.self plan sheet c.args.memory c.args.word _ _ v.result
    (admitted_back K plan sheet _ _ _ _ v.new.word _ _ v.result m.value w.value w.len kept v.ensures.answer)
    (wiped_back _ _ _ _ _ m.value m.len v.ensures.wiped)
    v.ensures.held)
