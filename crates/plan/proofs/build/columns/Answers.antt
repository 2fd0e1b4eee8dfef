use Rattle.std.proofs.Common.{◌∙◌, arith}
use Rattle.std.proofs.lemmas.List.{length-take, get_or-take}
use Rattle.plan.proofs.build.columns.Goals as goal

pub loop-letter-init : goal.loop-letter-init
loop-letter-init c =
    let few = c.args.alphabet.few in (
      length-take c.from-letters.result c.args.admit ∙ omega arith,
      (λ k h. absurd (omega arith)),
      (λ k l h. get_or-take c.from-letters.result c.args.admit k 0 h),
    )
