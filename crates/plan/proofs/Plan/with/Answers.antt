-- A plan with one pattern more has its tables right.
use Rattle.std.proofs.Common.{refl, ◌∙◌, arith, true-eqb, false-eqb}
use Rattle.plan.specs.Spans.{items}
use Rattle.plan.proofs.Building.{Grown, view, more_spans, more_steps, inside_new, counted_new, nonempty_new, filled_new, within_new, least_first, least_more, most_new, placed_new, admits_new, opened_new, ended_new}
use Rattle.plan.proofs.Plan.with.Goals as goal
use Rattle.plan.proofs.Plan.with.Goals.{After-columns, then-is_empty, else-is_empty}

grown : (c : After-columns) → Grown c.args.self.now c.args.pattern.now c.len-from.result (items c.extend.new.self) (items c.push.new.self)
grown c =
    record {
      room = c.requires;
      behind = c.len-from.ensures.value;
      span = _;
      first = refl;
      long = refl;
      steps_are = c.extend.ensures;
      spans_are = c.push.ensures;
    }

pub invariant_of-result : goal.invariant_of-result
invariant_of-result c =
    let g = grown (goal.at.invariant_of-result c).After-columns in
    record {
      tables = record {
        inside = inside_new _ _ _ _ _ g;
        counted = counted_new _ _ _ _ _ g;
        nonempty = nonempty_new _ _ _ _ _ g;
        filled = filled_new _ _ _ _ _ g;
        within = within_new _ _ _ _ _ g;
        least =
            elim c.if-is_empty.branch [
              | then-is_empty w ↦ w.result-is ∙ least_first _ _ _ _ _ g (omega (arith, true-eqb _ 0 w.if-is_empty.ensures))
              | else-is_empty w ↦ w.result-is ∙ w.min.ensures ∙ least_more _ _ _ _ _ g (omega (arith, false-eqb _ 0 w.if-is_empty.ensures))
            ];
        most = c.max.ensures ∙ most_new _ _ _ _ _ g;
        placed = placed_new _ _ _ _ _ g;
        admits = admits_new _ _ _ _ _ g c.columns.result c.columns.ensures;
        opened = opened_new _ _ _ _ _ g;
        ended = ended_new _ _ _ _ _ g;
      };
    }

pub returns : goal.returns
returns c =
    let g = grown (goal.at.returns c).After-columns in
    record { letters = refl; patterns = more_spans _ _ _ _ _ g; count = more_steps _ _ _ _ _ g; more = view _ _ _ _ _ g }
