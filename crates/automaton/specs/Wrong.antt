-- Wrong words: what is asked of a sheet, over all words.
use Rattle.std.specs.Prelude.{◌≡◌, ℕ, ◌<◌, true, ◌↔◌, List, [], reverse, length, Some, None, Option, ◌≢◌}
use Rattle.pattern.specs.Images.{Images, images_of}
use Rattle.pattern.specs.Rows.{Letters}
use Rattle.pattern.specs.Words.{Word}
use Rattle.automaton.specs.Automata.{Automaton, reach, led}

-- what may be wrong where a text reaches a state, or none:
-- - it reaches a state and fits nowhere, or the reverse;
-- - it reaches a state whose marks are not those of the patterns that have it as image;
-- - it reaches a state whose prefix mark is not set exactly where it is a proper prefix of an image
pub data WrongAt (images : Images) (sheet : Automaton) (at : Option ℕ) (t : List ℕ) : Type 0 where
  stray : (q : ℕ) → at ≡ Some q → (images.Factor t → ⊥) → WrongAt images sheet at t
  lost : at ≡ None → images.Factor t → WrongAt images sheet at t
  marked : (q : ℕ) → at ≡ Some q → (sheet.marks q ≢ images.marks t) → WrongAt images sheet at t
  prefixed : (q : ℕ) → at ≡ Some q → (((sheet.prefix q ≡ true) ↔ images.Proper t) → ⊥) → WrongAt images sheet at t

-- a word of one letter or more is wrong for a sheet by the state that it reaches and the text that it is, turned into log order;
-- the empty word is never wrong
abbrev pub Wrong : Images → Automaton → Word → Type 0
Wrong images sheet w = (0 < length w) × WrongAt images sheet (reach sheet w) (reverse w)

-- no word of letters below K is wrong: at most one proof, so that a type may carry it
abbrev pub NoWrong : ℕ → Images → Automaton → Type 0
NoWrong K images sheet = (w : Word) → Letters K w → Wrong images sheet w → ⊥

-- ---- the same by texts, for proofs

abbrev pub WrongText : Images → Automaton → List ℕ → Type 0
WrongText images sheet t = (0 < length t) × WrongAt images sheet (led sheet t) t

-- (the proof has it of any images)
abbrev pub WrongByTexts : Type 0
WrongByTexts = (plan : List (List ℕ)) (sheet : Automaton) (w : Word) → Wrong (images_of plan) sheet w ↔ WrongText (images_of plan) sheet (reverse w)

-- ---- the plan without patterns: a sheet whose state 1 has no arrow has no wrong word for it
abbrev pub BareSheetsAreRight : Type 0
BareSheetsAreRight = (K : ℕ) (sheet : Automaton) → ((a : ℕ) → a < K → sheet.arrow 1 a ≡ None) → NoWrong K (images_of []) sheet
