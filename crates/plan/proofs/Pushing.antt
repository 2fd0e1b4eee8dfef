-- A fold that pushes one bit for each item, the last item first, finds a set.
use Rattle.std.proofs.Common.{◌≡◌, ℕ, ◌*◌, ◌%◌, ◌^◌, ◌≤◌, Bool, cond, List, [], ◌∷◌, map, length, refl, ap, ◌∙◌, arith}
use mathlib.Core.List.{reverse}
use lib.Bits.{bit_and, bit_or}
use lib.Lanes.{mask_l}
use Rattle.std.specs.List.{fold}
use Rattle.std.proofs.lemmas.List.{length-map, reverse-append}
use Rattle.std.proofs.lemmas.List.Sums.{fold-append}
use Rattle.pattern.proofs.Bitwise.{push_bit}

module _ {A : Type 0} (w : ℕ) (f : A → ℕ) (b : A → Bool) (is : (x : A) → f x % 2 ≡ cond (b x) 1 0) where
  abbrev pub push : ℕ → A → ℕ
  push m x = bit_or ((m * 2) % 2 ^ w) (bit_and (f x) 1)

  pub pushed : (xs : List A) → length xs ≤ w → fold push 0 (reverse xs) ≡ mask_l (map b xs)
  pushed [] short = refl
  pushed (x ∷ xs) short =
      let n : length (map b xs) ≡ length xs = length-map xs b in
      ap (fold push 0) (reverse-append (x ∷ []) xs)
      ∙ fold-append push 0 (reverse xs) (x ∷ [])
      ∙ ap (λ (m : ℕ). push m x) (pushed xs (omega arith))
      ∙ push_bit w (map b xs) (f x) (b x) (omega arith) (is x)
