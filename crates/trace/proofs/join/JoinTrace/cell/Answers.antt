use Rattle.std.proofs.Common.{rules, ◌∙◌, ap}
use Rattle.trace.specs.declared.fault.Origin.TheVariants.{Second}
use Rattle.trace.specs.Rows.{rows}
use Rattle.trace.specs.Layers.{reanswer}
use Rattle.trace.proofs.Faults.{reanswered}
use Rattle.trace.proofs.join.JoinTrace.cell.Goals as goal

pub returns-else-i-n : goal.returns-else-i-n
returns-else-i-n g c =
    reanswered Second _ (λ x y h. search rules) c.cell-else-i-n.result c.map_err.result c.map_err.ensures.cases
    ∙ ap (reanswer Second) c.cell-else-i-n.ensures ∙ search (rules, rows)
