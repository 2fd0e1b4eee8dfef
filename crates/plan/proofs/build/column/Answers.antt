-- The steps of a pattern that admit a letter.
use Rattle.std.proofs.Common.{◌≡◌, ◌*◌, ◌/◌, ◌%◌, ◌^◌, ◌∙◌, rules}
use mathlib.Core.List.{reverse}
use lib.Bits.{bit_and, bit_or}
use Rattle.std.specs.List.{fold}
use Rattle.plan.proofs.Columns.{column}
use Rattle.plan.proofs.build.column.Goals as goal

pub returns : goal.returns
returns c =
    let run : c.fold.result ≡ fold (λ m s. bit_or ((m * 2) % 2 ^ 64) (bit_and (s / 2 ^ c.args.letter) 1)) 0 (reverse c.args.pattern.now) = search rules in
    run ∙ column c.args.letter c.args.pattern.now c.requires.short
