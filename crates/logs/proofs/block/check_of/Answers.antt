use Rattle.std.proofs.Common.{List, ℕ, arith, length-take}
use Rattle.logs.proofs.Blocks.{check_more, word_of_chunk}
use Rattle.logs.proofs.block.check_of.Goals as goal

pub loop-w-preserved : goal.loop-w-preserved
loop-w-preserved c =
    simp (c.loop-w.invariant, c.from_be_bytes.ensures, c.as_chunks.ensures.front, c.told-block, word_of_chunk c.args.block.now 127 128 c.loop-w.w (omega (arith, length-take {A = List ℕ})) (omega (arith, length-take {A = List ℕ}))) (check_more c.args.block.now c.loop-w.w)
