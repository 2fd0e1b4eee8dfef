use Rattle.std.proofs.Common.{arith, rules, tests, is_ok}
use Rattle.std.proofs.lemmas.Iterator.{YieldsList-from_range}
use Rattle.std.proofs.lemmas.Iterator.Consumers.{YieldsList-from_filter, count_from_yields_List}
use Rattle.trace.specs.Cells.{cell_at}
use Rattle.trace.proofs.Tallies.{tally_whole}
use Rattle.trace.proofs.tally.tally_of.Goals as goal

pub returns : goal.returns
returns g c =
    let len = c.len-len.result in
    let row = g.T.Trace.row c.args.trace.now in
    tally_whole row _ len c.len-len.ensures (count_from_yields_List c.filter.result _ c.count-letters.ensures.ran (YieldsList-from_filter _ (λ i. is_ok (cell_at row i)) (YieldsList-from_range 0 len len c.filter.ensures.source (omega arith)) c.filter.ensures.closure (λ x b q k. search (rules, tests))))
