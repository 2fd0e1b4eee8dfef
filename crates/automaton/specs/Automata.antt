-- A sheet as an automaton that reads backwards: arrows from state to state, from state 1 on, and two marks of each state.
use Rattle.std.specs.Prelude.{◌≡◌, ℕ, ◌<◌, Bool, true, ◌↔◌, List, [], ◌∷◌, reverse, length, Some, None, Option}
use Rattle.pattern.specs.Images.{Images}
use Rattle.pattern.specs.Rows.{Letters}
use Rattle.pattern.specs.Words.{Word}

-- for a state and a letter the next state, if there is an arrow; for a state which images end the reading there, and whether it
-- is marked as a proper prefix
pub record Automaton : Type 0 where
  pub arrow : ℕ → ℕ → Option ℕ
  pub marks : ℕ → ℕ
  pub prefix : ℕ → Bool

-- one arrow more
abbrev pub onward : Automaton → Option ℕ → ℕ → Option ℕ
onward sheet None a = None
onward sheet (Some q) a = sheet.arrow q a

-- the state that a word leads to, letter by letter, from an optional state
unfoldable pub reach_from : Automaton → Option ℕ → Word → Option ℕ
reach_from sheet None w = None
reach_from sheet (Some q) [] = Some q
reach_from sheet (Some q) (a ∷ w) = reach_from sheet (sheet.arrow q a) w

-- the state that a word reaches: it is read from state 1 on, in reading order
abbrev pub reach : Automaton → Word → Option ℕ
reach sheet w = reach_from sheet (Some 1) w

-- the same by texts in log order, which are read from their end: one letter more stands before the others
unfoldable pub led : Automaton → List ℕ → Option ℕ
led sheet [] = Some 1
led sheet (a ∷ t) = onward sheet (led sheet t) a

abbrev pub LedIsReached : Type 0
LedIsReached = (sheet : Automaton) (w : Word) → led sheet (reverse w) ≡ reach sheet w

-- the sheet does what it should for every text of letters below K: what the search asks of it
pub record Right (K : ℕ) (images : Images) (sheet : Automaton) : Type 0 where
  pub fits : (t : List ℕ) (q : ℕ) → Letters K t → 0 < length t → led sheet t ≡ Some q → images.Factor t
  pub reaches : (t : List ℕ) → Letters K t → 0 < length t → images.Factor t → (q : ℕ) × (led sheet t ≡ Some q)
  pub marked : (t : List ℕ) (q : ℕ) → Letters K t → 0 < length t → led sheet t ≡ Some q → sheet.marks q ≡ images.marks t
  pub prefixed : (t : List ℕ) (q : ℕ) → Letters K t → 0 < length t → led sheet t ≡ Some q → ((sheet.prefix q ≡ true) ↔ images.Proper t)
