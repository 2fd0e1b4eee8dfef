-- The machine that finds the wrong texts: it keeps a state and two sets of fits, and never looks at patterns.
use Rattle.std.specs.Prelude.{◌≡◌, ℕ, ◌<◌, Bool, false, cond, ◌&&◌, ◌⊎◌, ◌↔◌, List, [], ◌∷◌, length, Some, None, Option, ◌==◌}
use Rattle.std.specs.Bool.{beq}
use Rattle.pattern.specs.Fits.{Fitting, fitting}
use Rattle.pattern.specs.Images.{Images, images_of}
use Rattle.pattern.specs.Laws.{Wellformed}
use Rattle.pattern.specs.Rows.{Letters}
use Rattle.automaton.specs.Automata.{Automaton, led, Right}
use Rattle.automaton.specs.Wrong.{WrongText, NoWrong}
use Rattle.automaton.specs.Machines.{Outcome, dead, wrong, to, Machine, run}

-- a state, and closing and inner fits
abbrev pub Node : Type 0
Node = ℕ × ℕ × ℕ

abbrev pub nowhere : ℕ × ℕ → Bool
nowhere x = x.0 == 0 && x.1 == 0

-- one letter more. A text that reaches a state and fits nowhere is wrong, so at a node no fits mean the empty text
abbrev pub grown : Fitting → ℕ × ℕ → ℕ → ℕ × ℕ
grown f x a = cond (nowhere x) (f.first a) (f.extend x a)

-- what a text with these fits comes to, where it reaches this state or none
abbrev pub settled : Fitting → Automaton → Option ℕ → ℕ × ℕ → Outcome Node
settled f sheet None x = cond (nowhere x) dead wrong
settled f sheet (Some q) x = cond (nowhere x) wrong (cond (sheet.marks q == f.marks x && beq (sheet.prefix q) (f.prefix x)) (to (q, x.0, x.1)) wrong)

-- the empty text stands in state 1, with no fits: a node that no other text has
unfoldable pub judge : Fitting → Automaton → Machine Node
judge f sheet = record { start = (1, 0, 0); step = λ n a. settled f sheet (sheet.arrow n.0 a) (grown f (n.1, n.2) a) }

-- ---- what the machine says of a text

-- one of its shorter ends is wrong
abbrev pub WrongEnd : Images → Automaton → List ℕ → Type 0
WrongEnd images sheet [] = ⊥
WrongEnd images sheet (a ∷ t) = WrongText images sheet t ⊎ WrongEnd images sheet t

-- its node is the state that it reaches, with its fits
abbrev pub NodeOf : Images → Fitting → Automaton → List ℕ → Node → Type 0
NodeOf images f sheet [] n = n ≡ (1, 0, 0)
NodeOf images f sheet (a ∷ t) n = (led sheet (a ∷ t) ≡ Some n.0) × (◌≡◌ {A = ℕ × ℕ} (n.1, n.2) (f.fits_of (a ∷ t))) × (nowhere (n.1, n.2) ≡ false) × (WrongText images sheet (a ∷ t) → ⊥)

abbrev pub Says : Images → Fitting → Automaton → List ℕ → Outcome Node → Type 0
Says images f sheet t dead = WrongEnd images sheet t ⊎ ((led sheet t ≡ None) × (f.fits_of t ≡ (0, 0)) × (0 < length t) × (WrongText images sheet t → ⊥) × (WrongEnd images sheet t → ⊥))
Says images f sheet t wrong = WrongText images sheet t × (WrongEnd images sheet t → ⊥)
Says images f sheet t (to n) = NodeOf images f sheet t n × (WrongEnd images sheet t → ⊥)

-- (the proofs have both of any lawful images and fits)
abbrev pub JudgeIsRight : Type 0
JudgeIsRight = (K : ℕ) (plan : List (List ℕ)) → Wellformed plan → (sheet : Automaton) (t : List ℕ) → Letters K t → Says (images_of plan) (fitting plan) sheet t (run (judge (fitting plan) sheet) t)

-- what the judge finds is what the search asks for
abbrev pub NoWrongIsRight : Type 0
NoWrongIsRight = (K : ℕ) (plan : List (List ℕ)) → Wellformed plan → (sheet : Automaton) → NoWrong K (images_of plan) sheet ↔ Right K (images_of plan) sheet
