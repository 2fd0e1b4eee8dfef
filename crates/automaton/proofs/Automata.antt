-- What a text leads to, and what its word reaches.
use Rattle.std.proofs.Common.{◌≡◌, ℕ, List, [], ◌∷◌, ◌++◌, reverse, Some, None, Option, sym, refl, ap, ◌∙◌, arith}
use mathlib.Core.List.{reverse-cons, reverse-reverse}
use Rattle.automaton.specs.Automata.{Automaton, onward, led, reach_from, reach, LedIsReached}

pub some_inj : {A : Type 0} {x y : A} → Some x ≡ Some y → x ≡ y
some_inj h = cc

pub none_some : {A : Type 0} {x : A} → None ≡ Some x → ⊥
none_some h = let z : ◌≡◌ {A = ℕ} 0 1 = cc in omega arith

pub led_none : (sheet : Automaton) → led sheet [] ≡ Some 1
unfolding led
led_none sheet = refl

pub led_more : (sheet : Automaton) (a : ℕ) (t : List ℕ) → led sheet (a ∷ t) ≡ onward sheet (led sheet t) a
unfolding led
led_more sheet a t = refl

-- by words
reach_none : (sheet : Automaton) (x : Option ℕ) → reach_from sheet x [] ≡ x
unfolding reach_from
reach_none sheet None = refl
reach_none sheet (Some q) = refl

pub reach_push : (sheet : Automaton) (x : Option ℕ) (w : List ℕ) (a : ℕ) → reach_from sheet x (w ++ (a ∷ [])) ≡ onward sheet (reach_from sheet x w) a
unfolding reach_from
reach_push sheet None w a = refl
reach_push sheet (Some q) [] a = reach_none sheet (sheet.arrow q a)
reach_push sheet (Some q) (b ∷ w) a = reach_push sheet (sheet.arrow q b) w a

led_turned : (sheet : Automaton) (t : List ℕ) → led sheet t ≡ reach sheet (reverse t)
unfolding led reach_from
led_turned sheet [] = refl
led_turned sheet (a ∷ t) = ap (λ (x : Option ℕ). onward sheet x a) (led_turned sheet t) ∙ rw (reverse-cons a t) (sym (reach_push sheet (Some 1) (reverse t) a))

pub led_is_reached_lem : LedIsReached
led_is_reached_lem sheet w = led_turned sheet (reverse w) ∙ rw (reverse-reverse w)
