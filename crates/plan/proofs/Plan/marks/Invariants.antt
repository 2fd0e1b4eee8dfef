-- The marks of the patterns from this one on have been found.
use Rattle.std.proofs.Common.{◌≡◌, drop, map}
use lib.Lanes.{mask_l}
use Rattle.pattern.specs.Fits.{bit}
use Rattle.plan.specs.Spans.{items}
use Rattle.plan.specs.declared.span.Span.{Span}
use Rattle.plan.proofs.Plan.marks.Given as goal

abbrev pub invariant-loop-j : goal.invariant-loop-j
invariant-loop-j l = l.marks ≡ mask_l (drop l.j (map (λ (s : Span). bit l.closing s.first) (items l.self.spans)))
