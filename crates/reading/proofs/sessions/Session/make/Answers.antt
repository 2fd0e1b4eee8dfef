-- `make`: drawing, with the memory that comes back.
use Rattle.std.proofs.Common.{refl}
use Rattle.reading.proofs.Lending.{drawn_back}
use Rattle.reading.proofs.Turning.{of_call, drawn, made}
use Rattle.reading.specs.Sessions.{trace_of}
use Rattle.reading.proofs.sessions.Session.make.Goals as goal

pub returns-in-Draw : goal.returns-in-Draw
returns-in-Draw g c =
    let K = g.T.Trace.alphabet in
    let s = c.args.self in
    let row = g.T.Trace.row (trace_of s) in
    let m = c.as_mut_slice.ensures in
    made K g.T.Trace.row s s _ _ _ refl refl (of_call K row _ _ _ _ _ c.in-Draw.is (drawn K row s c.in-Draw.plan c.in-Draw.memory _ c.draw-sheet.result (drawn_back _ _ _ _ _ _ _ m.value m.len c.draw-sheet.ensures.drawn)))
