use Rattle.std.proofs.Common.{refl, arith}
use Rattle.sheet.proofs.Goods.{no_arrow}
use Rattle.sheet.proofs.reading.arrows_of.Goals as goal

pub loop-a-init : goal.loop-a-init
loop-a-init c = (refl, (λ k h. absurd (omega arith)), (λ k h. no_arrow k))
