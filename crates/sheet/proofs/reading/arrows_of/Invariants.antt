use Rattle.std.proofs.Common.{◌≡◌, ℕ, ◌<◌, ◌≤◌, length, get_or}
use Rattle.sheet.proofs.reading.arrows_of.Given as goal

-- the first arrows are there, and no others
abbrev pub invariant-loop-a : goal.invariant-loop-a
invariant-loop-a l =
    (length l.arrows ≡ 32)
    × ((k : ℕ) → k < l.a → get_or l.arrows k 0 ≡ get_or l.bytes k 0)
    × ((k : ℕ) → l.a ≤ k → get_or l.arrows k 0 ≡ 0)
