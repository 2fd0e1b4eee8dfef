-- Numbers bit by bit.
use Rattle.std.proofs.Common.{◌≡◌, ℕ, zero, suc, ◌+◌, ◌-◌, ◌*◌, ◌/◌, ◌%◌, ◌^◌, ◌<◌, ◌≤◌, min, Bool, true, false, cond, not, ◌&&◌, eqb, ◌⊎◌, List, [], ◌∷◌, ◌++◌, length, get_or, sym, refl, ap, ◌∙◌, inl, inr, mul_assoc, mul_comm, pow-suc, div-one, one-add, arith, pow_mono}
use native.Mathlib.Nat.{div-eq_of_lt}
use lib.Bits.{bit_and, bit_or, and_step, and_shr, and_mask, or_shifted, or_shifted_r}
use lib.Lanes.{mask_l}
use Rattle.pattern.specs.Fits.{bit}
use Rattle.std.proofs.lemmas.Nat.{shr-shr, shl_whole}
use Rattle.std.proofs.lemmas.Simd.{bit_mask_l, mask_l-lt}
use Rattle.std.proofs.lemmas.Bool.{cases_lt, eq-eqb, ne_eqb, both_ways}

pub bit_zero : (n : ℕ) → bit n zero ≡ eqb (n % 2) 1
unfolding bit
bit_zero n = rw (div-one n)

pub bit_suc : (n i : ℕ) → bit n (suc i) ≡ bit (n / 2) i
unfolding bit
bit_suc n i = ap (λ (x : ℕ). eqb (x % 2) 1) (ap (λ (x : ℕ). n / 2 ^ x) (sym (one-add i)) ∙ sym (shr-shr n 1 i))

pub bit_mask_l' : (ms : List Bool) (i : ℕ) → bit (mask_l ms) i ≡ get_or ms i false
unfolding bit
bit_mask_l' ms i = rw (bit_mask_l ms i) (by_case (get_or ms i false))
  where
    by_case : (b : Bool) → eqb (cond b 1 0) 1 ≡ b
    by_case true = refl
    by_case false = refl

-- the low bit is 0 or 1
low : (n : ℕ) → (n % 2 ≡ 0) ⊎ (n % 2 ≡ 1)
low n = elim (cases_lt (n % 2) 1) [ inl h ↦ inl (omega arith) | inr h ↦ inr (omega arith) ]

pub bit_number : (n i : ℕ) → (n / (2 ^ i)) % 2 ≡ cond (bit n i) 1 0
unfolding bit
bit_number n i = elim (low (n / (2 ^ i))) [ inl e ↦ rw e | inr e ↦ rw e ]

low_and : (a b : ℕ) → eqb (bit_and a b % 2) 1 ≡ (eqb (a % 2) 1 && eqb (b % 2) 1)
low_and a b =
    let m : bit_and a b % 2 ≡ min (a % 2) (b % 2) = omega (arith, and_step a b) in
    rw m (by_low (a % 2) (b % 2) (low a) (low b))
  where
    by_low : (x y : ℕ) → (x ≡ 0) ⊎ (x ≡ 1) → (y ≡ 0) ⊎ (y ≡ 1) → eqb (min x y) 1 ≡ (eqb x 1 && eqb y 1)
    by_low x y (inl e) (inl f) = rw (e, f)
    by_low x y (inl e) (inr f) = rw (e, f)
    by_low x y (inr e) (inl f) = rw (e, f)
    by_low x y (inr e) (inr f) = rw (e, f)

pub bit_and_lem : (a b i : ℕ) → bit (bit_and a b) i ≡ (bit a i && bit b i)
unfolding bit
bit_and_lem a b i = rw (and_shr a b i) (low_and (a / 2 ^ i) (b / 2 ^ i))

-- above its length a number has no bit
pub bit_above : (k n i : ℕ) → n < 2 ^ k → k ≤ i → bit n i ≡ false
unfolding bit
bit_above k n i h l =
    let less : n < 2 ^ i = omega (arith, pow_mono l) in
    ap (λ (x : ℕ). eqb (x % 2) 1) (div-eq_of_lt less)

low_not : (m n : ℕ) → m + n ≡ 1 → eqb m 1 ≡ not (eqb n 1)
low_not m n e = elim (cases_lt m 1) [
  | inl h ↦ let p : m ≡ 0 = omega arith in let q : n ≡ 1 = omega arith in rw (p, q)
  | inr h ↦ let p : m ≡ 1 = omega arith in let q : n ≡ 0 = omega arith in rw (p, q)
]

pub bit_not : (k n i : ℕ) → n < 2 ^ k → i < k → bit ((2 ^ k - 1) - n) i ≡ not (bit n i)
bit_not zero n i h l = absurd (omega arith)
bit_not (suc k) n zero h l =
    let p : 2 ^ suc k ≡ 2 ^ k * 2 = pow-suc 2 k in
    rw (bit_zero ((2 ^ suc k - 1) - n), bit_zero n) (low_not (((2 ^ suc k - 1) - n) % 2) (n % 2) (omega arith))
bit_not (suc k) n (suc i) h l =
    let p : 2 ^ suc k ≡ 2 ^ k * 2 = pow-suc 2 k in
    let q : ((2 ^ suc k - 1) - n) / 2 ≡ (2 ^ k - 1) - n / 2 = omega arith in
    bit_suc ((2 ^ suc k - 1) - n) i ∙ ap (λ (x : ℕ). bit x i) q ∙ bit_not k (n / 2) i (omega arith) (omega arith) ∙ ap not (sym (bit_suc n i))

pub and_not : (k a b i : ℕ) → a < 2 ^ k → b < 2 ^ k → bit (bit_and a ((2 ^ k - 1) - b)) i ≡ (bit a i && not (bit b i))
and_not k a b i h l =
    elim (cases_lt i k) [
      | inl less ↦ rw (bit_and_lem, bit_not k b i l less)
      | inr past ↦ rw (bit_and_lem, bit_above k a i h past)
    ]

low_same : (m n : ℕ) → bit m zero ≡ bit n zero → m % 2 ≡ n % 2
low_same m n e = go (low m) (low n)
  where
    f : eqb (m % 2) 1 ≡ eqb (n % 2) 1
    f = sym (bit_zero m) ∙ e ∙ bit_zero n

    go : (m % 2 ≡ 0) ⊎ (m % 2 ≡ 1) → (n % 2 ≡ 0) ⊎ (n % 2 ≡ 1) → m % 2 ≡ n % 2
    go (inl p) (inl q) = omega arith
    go (inl p) (inr q) = absurd (both_ways (eqb (m % 2) 1) (ne_eqb (m % 2) 1 (λ x. omega arith)) (f ∙ eq-eqb (n % 2) 1 q))
    go (inr p) (inl q) = absurd (both_ways (eqb (m % 2) 1) (f ∙ ne_eqb (n % 2) 1 (λ x. omega arith)) (eq-eqb (m % 2) 1 p))
    go (inr p) (inr q) = omega arith

-- numbers with the same bits are the same
pub same_bits : (k m n : ℕ) → m < 2 ^ k → n < 2 ^ k → ((i : ℕ) → i < k → bit m i ≡ bit n i) → m ≡ n
same_bits zero m n h l e = omega arith
same_bits (suc k) m n h l e =
    let p : 2 ^ suc k ≡ 2 ^ k * 2 = pow-suc 2 k in
    let q : m % 2 ≡ n % 2 = low_same m n (e zero (omega arith)) in
    let r : m / 2 ≡ n / 2 = same_bits k (m / 2) (n / 2) (omega arith) (omega arith) (λ i less. sym (bit_suc m i) ∙ e (suc i) (omega arith) ∙ bit_suc n i) in
    omega arith

-- a number that is not 0 has a bit
pub some_bit : (k n : ℕ) → n < 2 ^ k → 0 < n → (i : ℕ) × (bit n i ≡ true)
some_bit zero n h l = absurd (omega arith)
some_bit (suc k) n h l =
    let p : 2 ^ suc k ≡ 2 ^ k * 2 = pow-suc 2 k in
    elim (low n) [
      | inl e ↦ let r = some_bit k (n / 2) (omega arith) (omega arith) in (suc r.0, bit_suc n r.0 ∙ r.1)
      | inr e ↦ (zero, bit_zero n ∙ eq-eqb (n % 2) 1 e)
    ]

pub no_bit : (i : ℕ) → bit 0 i ≡ false
no_bit i = bit_above 0 0 i (omega arith) (omega arith)

-- one bit more, below the others: `(m << 1) | (x & 1)` at a type of w bits
pub push_bit : (w : ℕ) (ms : List Bool) (x : ℕ) (b : Bool) → length ms < w → x % 2 ≡ cond b 1 0 → bit_or ((mask_l ms * 2) % 2 ^ w) (bit_and x 1) ≡ mask_l (b ∷ ms)
push_bit w ms x b less is =
    let kept : (mask_l ms * 2) % 2 ^ w ≡ mask_l ms * 2 = shl_whole (mask_l ms) (length ms) 1 w (mask_l-lt ms) (omega arith) in
    let low : bit_and x 1 ≡ cond b 1 0 = and_mask x 1 ∙ is in
    rw (kept, low) (or_shifted (mask_l ms) 1 (cond b 1 0) (one b) ∙ omega arith)
  where
    one : (b : Bool) → cond b 1 0 < 2 ^ 1
    one true = omega arith
    one false = omega arith

-- a set above another: `x | y << k` at a type of w bits
pub or_above : (w k m x y : ℕ) → x < 2 ^ k → y < 2 ^ m → m + k ≤ w → bit_or x ((y * 2 ^ k) % 2 ^ w) ≡ x + 2 ^ k * y
or_above w k m x y h l fits = rw (shl_whole y m k w l fits) (or_shifted_r y k x h ∙ omega (arith, mul_comm y (2 ^ k)))

pub mask_l_append : (xs ys : List Bool) → mask_l (xs ++ ys) ≡ mask_l xs + 2 ^ length xs * mask_l ys
mask_l_append [] ys = omega arith
mask_l_append (x ∷ xs) ys =
    let e : 2 ^ suc (length xs) * mask_l ys ≡ 2 * (2 ^ length xs * mask_l ys) = rw (pow-suc 2 (length xs), mul_comm (2 ^ length xs) 2) (mul_assoc 2 (2 ^ length xs) (mask_l ys)) in
    omega (arith, mask_l_append xs ys)
