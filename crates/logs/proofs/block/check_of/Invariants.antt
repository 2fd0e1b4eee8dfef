use Rattle.std.proofs.Common.{◌≡◌, ◌+◌, ◌%◌, ◌^◌}
use Rattle.logs.specs.Blocks.{weighted}
use Rattle.logs.proofs.block.check_of.Given as goal

abbrev pub invariant-loop-w : goal.invariant-loop-w
invariant-loop-w l = l.sum ≡ (1 + weighted l.block l.w) % 2 ^ 32
