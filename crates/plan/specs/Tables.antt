-- What the tables of a plan hold.
use Rattle.std.specs.Prelude.{◌≡◌, ℕ, List, length}
use Rattle.std.specs.Simd.Lanes.{mask_l}
use Rattle.pattern.specs.Patterns.{Filled, shortest as shortest_of, longest as longest_of}
use Rattle.pattern.specs.Fits.{rests, opens, steps_where, is_last, Inside, Nonempty, Admit, Firsts}
use Rattle.plan.specs.declared.span.Span.{Span}
use Rattle.plan.specs.Spans.{firsts_of, lengths_of, plan_in}
use Rattle.plan.specs.Sets.{Within}

-- the patterns that lie so in the steps are those of a plan over K letters, and the tables are theirs
pub record Tables (K : ℕ) (spans : List Span) (steps : List ℕ) (shortest longest : ℕ) (admit : List ℕ) (starts ends : ℕ) : Type 0 where
  pub inside : Inside (length spans) (firsts_of spans) (lengths_of spans) (length steps)
  pub counted : length (rests (plan_in spans steps)) ≡ length steps
  pub nonempty : Nonempty (plan_in spans steps)
  pub filled : Filled (plan_in spans steps)
  pub within : Within K (plan_in spans steps)
  pub least : shortest ≡ shortest_of (plan_in spans steps)
  pub most : longest ≡ longest_of (plan_in spans steps)
  pub placed : Firsts (plan_in spans steps) (firsts_of spans)
  pub admits : Admit (plan_in spans steps) K admit
  pub opened : starts ≡ mask_l (opens (plan_in spans steps))
  pub ended : ends ≡ steps_where is_last (plan_in spans steps)
