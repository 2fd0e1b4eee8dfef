-- `new`: the plan without patterns is never refused, and a sheet without arrows has no wrong word for it.
use Rattle.std.proofs.Common.{sym, refl, ap, ◌∙◌, arith}
use Rattle.plan.specs.Views.{planned}
use Rattle.plan.proofs.Reading.{emptied}
use Rattle.sheet.specs.Tables.{Table}
use Rattle.reading.proofs.Fresh.{always_planned, single_table, fresh_right, fresh_least}
use Rattle.reading.proofs.states.Reading.new.Goals as goal

pub unwrap-plan-requires : goal.unwrap-plan-requires
unwrap-plan-requires g c =
    let l = g.met.T.Trace.lawful c.args.trace in
    always_planned planned (λ x. refl) c.letters-letters.result _ _ c.empty.ensures.answer (omega (arith, l.some_letter)) (omega (arith, l.few_letters))

pub invariant_of-result : goal.invariant_of-result
invariant_of-result g c =
    let none = (emptied c.letters-letters.result _ (rw c.unwrap-plan.ensures at c.empty.ensures.answer)).1 in
    let one = single_table c.letters-letters.result _ c.in-Ok.ensures.answer in
    record {
      right = fresh_right c.unwrap-plan.result c.in-Ok.sheet c.letters-letters.result none one;
      lettered = ap (λ (t : Table). t.letters) one ∙ sym (rw c.unwrap-plan.ensures at c.empty.ensures.letters);
      least = fresh_least _ _ c.letters-letters.result none one;
    }
