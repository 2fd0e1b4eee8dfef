-- `perform`: from the fresh reading.
use Rattle.reading.proofs.Performing.{performed}
use Rattle.reading.proofs.driver.perform.Goals as goal

pub returns : goal.returns
returns g c =
    let fresh = c.in_ok-session.ensures.answer in
    let done = c.in_ok-answers.ensures in
    record { law = performed g.T.Trace.alphabet g.T.Trace.row c.args.trace _ _ _ _ fresh.0 fresh.1 done.all done.law }
