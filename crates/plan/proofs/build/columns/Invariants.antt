-- The letters before this one have the pattern's steps too, and the plan's others are as they were.
use Rattle.std.proofs.Common.{◌≡◌, ℕ, ◌*◌, ◌%◌, ◌^◌, ◌<◌, ◌≤◌, [], ◌∷◌, length, get_or}
use lib.Bits.{bit_or}
use Rattle.pattern.specs.Fits.{steps_where, admits_first}
use Rattle.plan.proofs.build.columns.Given as goal

abbrev pub invariant-loop-letter : goal.invariant-loop-letter
invariant-loop-letter l =
    (length l.steps-items ≡ l.letters)
    × ((k : ℕ) → k < l.letter → get_or l.steps-items k 0 ≡ bit_or (get_or l.fn.admit k 0) ((steps_where (admits_first k) (l.pattern ∷ []) * 2 ^ l.from) % 2 ^ 64))
    × ((k : ℕ) → l.letter ≤ k → k < l.letters → get_or l.steps-items k 0 ≡ get_or l.fn.admit k 0)
