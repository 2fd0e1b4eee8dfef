-- The plan without patterns has its tables right.
use Rattle.std.proofs.Common.{ℕ, List, length, sym, refl, ap, ◌∙◌, subst, arith}
use Rattle.std.proofs.lemmas.List.{get_or-replicate}
use Rattle.pattern.specs.Patterns.{Filled, shortest, longest}
use Rattle.pattern.specs.Fits.{rests, opens, steps_where, Nonempty, Firsts}
use Rattle.plan.specs.Spans.{items, firsts_of}
use Rattle.plan.specs.Sets.{Within}
use Rattle.plan.proofs.Building.{plan_none}
use Rattle.plan.proofs.Plan.bare.Goals as goal

pub invariant_of-result : goal.invariant_of-result
unfolding rests opens steps_where shortest longest
invariant_of-result c =
    let none = plan_none _ _ c.new-2.ensures in
    record {
      tables = record {
        inside = λ j h. absurd (omega (arith, ap length c.new-2.ensures));
        counted = rw (none, c.new.ensures) refl;
        nonempty = subst Nonempty (sym none) (λ j h. absurd (omega arith));
        filled = subst Filled (sym none) (λ j i h. absurd (omega arith));
        within = subst (Within c.args.alphabet.letters) (sym none) (λ j i h. absurd (omega arith));
        least = rw none refl;
        most = rw none refl;
        placed = subst (λ (x : List (List ℕ)). Firsts x (firsts_of (items c.new-2.result))) (sym none) (λ j h. absurd (omega arith));
        admits = λ a h. get_or-replicate 32 a 0 0 (omega (arith, c.args.alphabet.few)) ∙ rw none refl;
        opened = rw none refl;
        ended = rw none refl;
      };
    }
