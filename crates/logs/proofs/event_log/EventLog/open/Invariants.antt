use Rattle.std.proofs.Common.{◌≡◌, length}
use Rattle.logs.specs.EventLogs.{Judged}
use Rattle.logs.proofs.event_log.EventLog.open.Given as goal

abbrev pub invariant-loop-place : goal.invariant-loop-place
invariant-loop-place l = (length l.verdicts ≡ 128) × Judged l.bytes l.verdicts l.place
