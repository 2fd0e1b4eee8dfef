use Rattle.std.proofs.Common.{sym, ◌∙◌}
use Rattle.logs.specs.EventLaws.{cell_events}
use Rattle.logs.proofs.event_log.EventLogTrace.cell.Goals as goal

pub returns : goal.returns
returns c =
    let log = c.args.self.now in
    c.cell_in.ensures ∙ sym (cell_events log.bytes.now log.verdicts log.cells log.judged log.counted c.args.i c.if-i-self.false)
