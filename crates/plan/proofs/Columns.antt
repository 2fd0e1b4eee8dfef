-- The steps of a pattern that admit a letter.
use Rattle.std.proofs.Common.{◌≡◌, ℕ, ◌*◌, ◌/◌, ◌%◌, ◌^◌, ◌≤◌, Bool, cond, List, [], ◌∷◌, map, length, refl, ap, ◌∙◌, append-nil}
use mathlib.Core.List.{reverse}
use lib.Bits.{bit_and, bit_or}
use lib.Lanes.{mask_l}
use Rattle.std.specs.List.{fold}
use Rattle.pattern.specs.Patterns.{admits}
use Rattle.pattern.specs.Fits.{bit, tails, rests, steps_where, admits_first}
use Rattle.pattern.proofs.Bitwise.{bit_number}
use Rattle.plan.proofs.Pushing.{pushed}

low : (a s : ℕ) → (s / 2 ^ a) % 2 ≡ cond (admits s a) 1 0
unfolding admits bit
low a s = bit_number s a

all : (a : ℕ) (p : List ℕ) → mask_l (map (λ s. admits s a) p) ≡ steps_where (admits_first a) (p ∷ [])
unfolding steps_where rests tails admits_first
all a p = ap mask_l (rw (append-nil (tails p)) (go p))
  where
    go : (p : List ℕ) → map (λ s. admits s a) p ≡ map (admits_first a) (tails p)
    go [] = refl
    go (s ∷ ss) = ap {B = List Bool} (λ x. admits s a ∷ x) (go ss)

pub column : (a : ℕ) (p : List ℕ) → length p ≤ 64 → fold (λ m s. bit_or ((m * 2) % 2 ^ 64) (bit_and (s / 2 ^ a) 1)) 0 (reverse p) ≡ steps_where (admits_first a) (p ∷ [])
column a p short = pushed 64 (λ s. s / 2 ^ a) (λ s. admits s a) (low a) p short ∙ all a p
