-- What is known of a byte by its sign.
use Rattle.std.proofs.Common.{◌≡◌, ℕ, ◌+◌, ◌-◌, ◌<◌, ◌≤◌, Bool, true, false, cond, eqb, ltb, refl, arith}
use Rattle.std.proofs.lemmas.Bool.{ltb-true, ltb-false}
use Rattle.std.proofs.lemmas.Bool.Decides.{nat_tests}
use Rattle.notation.specs.declared.Sign.{Sign}
use Rattle.notation.specs.declared.Sign.TheVariants.{Letter, Dot, Open, Close, Caret, Other}
use Rattle.notation.specs.Reading.{between, letter_sign, sign_of}
use Rattle.notation.specs.Grammar.{byte_of}

abbrev Means : ℕ → ℕ → Sign → Type 0
Means K b (Letter a) = (a < K) × (b ≡ byte_of a)
Means K b Dot = b ≡ 46
Means K b Open = b ≡ 91
Means K b Close = b ≡ 93
Means K b Caret = b ≡ 94
Means K b Other = Unit {0}

by_letter : (K b a : ℕ) (t : Bool) → ltb a K ≡ t → b ≡ byte_of a → Means K b (cond t (Letter a) Other)
by_letter K b a true e h = (ltb-true a K e, h)
by_letter K b a false e h = tt

by_rest : (K b : ℕ) (t₁ t₂ t₃ t₄ : Bool) → eqb b 46 ≡ t₁ → eqb b 91 ≡ t₂ → eqb b 93 ≡ t₃ → eqb b 94 ≡ t₄ → Means K b (cond t₁ Dot (cond t₂ Open (cond t₃ Close (cond t₄ Caret Other))))
by_rest K b true t₂ t₃ t₄ e₁ e₂ e₃ e₄ = grind (arith, nat_tests)
by_rest K b false true t₃ t₄ e₁ e₂ e₃ e₄ = grind (arith, nat_tests)
by_rest K b false false true t₄ e₁ e₂ e₃ e₄ = grind (arith, nat_tests)
by_rest K b false false false true e₁ e₂ e₃ e₄ = grind (arith, nat_tests)
by_rest K b false false false false e₁ e₂ e₃ e₄ = tt

by_range : (K b : ℕ) (t u : Bool) → between 65 90 b ≡ t → between 97 102 b ≡ u → Means K b (cond t (letter_sign K (b - 65)) (cond u (letter_sign K (b - 97 + 26)) (cond (eqb b 46) Dot (cond (eqb b 91) Open (cond (eqb b 93) Close (cond (eqb b 94) Caret Other))))))
by_range K b true u e f = by_letter K b (b - 65) (ltb (b - 65) K) refl (grind (arith, nat_tests))
by_range K b false true e f = by_letter K b (b - 97 + 26) (ltb (b - 97 + 26) K) refl (grind (arith, nat_tests))
by_range K b false false e f = by_rest K b (eqb b 46) (eqb b 91) (eqb b 93) (eqb b 94) refl refl refl refl

pub meaning : (K b : ℕ) → Means K b (sign_of K b)
unfolding sign_of
meaning K b = by_range K b (between 65 90 b) (between 97 102 b) refl refl

pub letter_means : (K b a : ℕ) → Letter a ≡ sign_of K b → (a < K) × (b ≡ byte_of a)
letter_means K b a e = rw (← e) at (meaning K b)

pub dot_means : (K b : ℕ) → Dot ≡ sign_of K b → b ≡ 46
dot_means K b e = rw (← e) at (meaning K b)

pub open_means : (K b : ℕ) → Open ≡ sign_of K b → b ≡ 91
open_means K b e = rw (← e) at (meaning K b)

pub close_means : (K b : ℕ) → Close ≡ sign_of K b → b ≡ 93
close_means K b e = rw (← e) at (meaning K b)

-- and back
pub letter_sign_lem : (K a : ℕ) → a < K → K ≤ 32 → sign_of K (byte_of a) ≡ Letter a
unfolding sign_of
letter_sign_lem K a h l = by_case (ltb a 26) refl
  where
    by_case : (t : Bool) → ltb a 26 ≡ t → sign_of K (cond t (65 + a) (97 + (a - 26))) ≡ Letter a
    by_case true e = let p : 65 + a - 65 ≡ a = omega arith in grind (arith, nat_tests)
    by_case false e = let p : 97 + (a - 26) - 97 + 26 ≡ a = omega (arith, ltb-false a 26 e) in grind (arith, nat_tests)

pub dot_sign : (K : ℕ) → sign_of K 46 ≡ Dot
unfolding sign_of
dot_sign K = refl

pub open_sign : (K : ℕ) → sign_of K 91 ≡ Open
unfolding sign_of
open_sign K = refl

pub close_sign : (K : ℕ) → sign_of K 93 ≡ Close
unfolding sign_of
close_sign K = refl
