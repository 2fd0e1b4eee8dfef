-- Sets of letters, letter by letter: what a set admits is a bit of its number.
use Rattle.std.proofs.Common.{◌≡◌, ℕ, zero, suc, ◌-◌, ◌*◌, ◌/◌, ◌%◌, ◌^◌, ◌<◌, max, false, not, ◌||◌, eqb, ◌⊎◌, sym, refl, ap, ◌∙◌, inl, inr, pow-suc, arith}
use lib.Dec.{eqb-suc-suc, eqb-suc-zero, eqb-zero-suc}
use lib.Bits.{bit_or, or_step, or_shr}
use Rattle.std.proofs.lemmas.Bool.{cases_lt}
use Rattle.pattern.specs.Patterns.{admits}
use Rattle.pattern.specs.Fits.{bit}
use Rattle.pattern.proofs.Bitwise.{bit_zero, bit_suc, bit_not, no_bit, same_bits}

is_bit : (n a : ℕ) → admits n a ≡ bit n a
unfolding admits bit
is_bit n a = refl

-- the low bit is 0 or 1
low : (n : ℕ) → (n % 2 ≡ 0) ⊎ (n % 2 ≡ 1)
low n = elim (cases_lt (n % 2) 1) [ inl h ↦ inl (omega arith) | inr h ↦ inr (omega arith) ]

low_or : (a b : ℕ) → eqb (bit_or a b % 2) 1 ≡ (eqb (a % 2) 1 || eqb (b % 2) 1)
low_or a b =
    let m : bit_or a b % 2 ≡ max (a % 2) (b % 2) = omega (arith, or_step a b) in
    rw m (by_low (a % 2) (b % 2) (low a) (low b))
  where
    by_low : (x y : ℕ) → (x ≡ 0) ⊎ (x ≡ 1) → (y ≡ 0) ⊎ (y ≡ 1) → eqb (max x y) 1 ≡ (eqb x 1 || eqb y 1)
    by_low x y (inl e) (inl f) = rw (e, f)
    by_low x y (inl e) (inr f) = rw (e, f)
    by_low x y (inr e) (inl f) = rw (e, f)
    by_low x y (inr e) (inr f) = rw (e, f)

pub admits_or : (m n a : ℕ) → admits (bit_or m n) a ≡ (admits m a || admits n a)
unfolding admits
admits_or m n a = rw (or_shr m n a) (low_or (m / 2 ^ a) (n / 2 ^ a))

pub admits_zero : (a : ℕ) → admits 0 a ≡ false
admits_zero a = is_bit 0 a ∙ no_bit a

pub admits_not : (k n a : ℕ) → n < 2 ^ k → a < k → admits ((2 ^ k - 1) - n) a ≡ not (admits n a)
admits_not k n a h l = is_bit ((2 ^ k - 1) - n) a ∙ bit_not k n a h l ∙ ap not (sym (is_bit n a))

pub admits_one : (a b : ℕ) → admits (2 ^ a) b ≡ eqb b a
admits_one a b = is_bit (2 ^ a) b ∙ go a b
  where
    go : (a b : ℕ) → bit (2 ^ a) b ≡ eqb b a
    go zero zero = bit_zero 1
    go zero (suc b) = bit_suc 1 b ∙ no_bit b ∙ sym (eqb-suc-zero b)
    go (suc a) zero =
        let p : 2 ^ suc a ≡ 2 ^ a * 2 = pow-suc 2 a in
        let q : 2 ^ suc a % 2 ≡ 0 = omega arith in
        bit_zero (2 ^ suc a) ∙ ap (λ (x : ℕ). eqb x 1) q ∙ sym (eqb-zero-suc a)
    go (suc a) (suc b) =
        let p : 2 ^ suc a ≡ 2 ^ a * 2 = pow-suc 2 a in
        let q : 2 ^ suc a / 2 ≡ 2 ^ a = omega arith in
        bit_suc (2 ^ suc a) b ∙ ap (λ (x : ℕ). bit x b) q ∙ go a b ∙ sym (eqb-suc-suc b a)

-- sets with the same letters are the same
pub same_sets : (k m n : ℕ) → m < 2 ^ k → n < 2 ^ k → ((a : ℕ) → a < k → admits m a ≡ admits n a) → m ≡ n
same_sets k m n h l e = same_bits k m n h l (λ a less. sym (is_bit m a) ∙ e a less ∙ is_bit n a)
