-- `begun`: each call is in its turn, so its answer is of its kind.
use Rattle.logsearch.proofs.Searching.{fresh, drew, asked, opened}
use Rattle.logsearch.proofs.search.begun.Goals as goal

pub unreachable-requires : goal.unreachable-requires
unreachable-requires g c =
    let made = c.in_ok-session.ensures.answer in
    let f = fresh g.T.Trace.alphabet g.T.Trace.row _ _ made.0 made.1 in
    let m = c.make-session in
    let d = (drew g.T.Trace.alphabet g.T.Trace.row _ _ c.args.plan c.in_ok-memory.memory _ f m.ensures.kept m.ensures.law).1 in
    c.in_default.not-Drawn d.held.0 d.held.1 d.is

pub unreachable-requires-in_default-judged : goal.unreachable-requires-in_default-judged
unreachable-requires-in_default-judged g c =
    let made = c.in_ok-session.ensures.answer in
    let f = fresh g.T.Trace.alphabet g.T.Trace.row _ _ made.0 made.1 in
    let m = c.make-session in
    let f1 = (drew g.T.Trace.alphabet g.T.Trace.row _ _ c.args.plan c.in_ok-memory.memory _ f m.ensures.kept m.ensures.law).0 in
    let n = c.make-session-2 in
    let d = (asked g.T.Trace.alphabet g.T.Trace.row _ _ c.args.plan c.in_ok-sheet.sheet c.in-Drawn.memory c.in_ok-word.word _ f1 n.ensures.kept n.ensures.law).1 in
    c.in_default-judged.not-Judged d.held.0 d.held.1 d.held.2 d.is

pub returns : goal.returns
returns g c =
    let made = c.in_ok-session.ensures.answer in
    let f = fresh g.T.Trace.alphabet g.T.Trace.row _ _ made.0 made.1 in
    let m = c.make-session in
    let f1 = (drew g.T.Trace.alphabet g.T.Trace.row _ _ c.args.plan c.in_ok-memory.memory _ f m.ensures.kept m.ensures.law).0 in
    let n = c.make-session-2 in
    let f2 = (asked g.T.Trace.alphabet g.T.Trace.row _ _ c.args.plan c.in_ok-sheet.sheet c.in-Drawn.memory c.in_ok-word.word _ f1 n.ensures.kept n.ensures.law).0 in
    let o = c.make-session-3 in
    record { begun = opened g.T.Trace.alphabet g.T.Trace.row _ _ _ _ f2 o.ensures.kept o.ensures.law }
