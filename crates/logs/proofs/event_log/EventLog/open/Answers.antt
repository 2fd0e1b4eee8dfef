use Rattle.std.proofs.Common.{arith, length-set}
use Rattle.logs.proofs.EventLogs.{judged_chunk}
use Rattle.logs.proofs.event_log.EventLog.open.Goals as goal

pub loop-place-preserved : goal.loop-place-preserved
loop-place-preserved c =
    let of = c.as_chunks.ensures in
    (simp length-set c.loop-place.invariant.0, judged_chunk c.args.bytes.now c.loop-place.verdicts c.loop-place.place c.judge.result c.as_chunks.result.0.now (omega arith) c.loop-place.invariant.1 of.front of.front_len (omega arith) c.judge.ensures)
