-- The pairs that the words of a sheet show, and what an exploration of the judging machine says of words, sheet and plan.
use Rattle.std.specs.Prelude.{◌≡◌, ℕ, ◌<◌, ◌≤◌, ◌⊎◌, ◌↔◌, List, [], ◌∷◌, reverse, length, Some, None, Option, ◌≢◌}
use Rattle.pattern.specs.Fits.{Fitting, fitting}
use Rattle.pattern.specs.Images.{Any, Images, images_of}
use Rattle.pattern.specs.Laws.{Wellformed}
use Rattle.pattern.specs.Rows.{Letters}
use Rattle.pattern.specs.Words.{Word, Precedes}
use Rattle.automaton.specs.Automata.{Automaton, reach}
use Rattle.automaton.specs.Wrong.{Wrong, NoWrong}
use Rattle.automaton.specs.Machines.{to, run}
use Rattle.automaton.specs.Judging.{Node, judge}
use Rattle.exploration.specs.Stage.{Table}
use Rattle.exploration.specs.Verdicts.{AllFound, FirstFault, More}

-- a state with fits, if there is a state
abbrev pub with_fits : Option ℕ → ℕ × ℕ → Option Node
with_fits None x = None
with_fits (Some q) x = Some (q, x.0, x.1)

-- the pair of a word: the state that it reaches, with its fits (none where it reaches no state). The empty word has a pair of its
-- own: state 1 with no fits, which no other word has that reaches a state and is not wrong
abbrev pub pair_of : Fitting → Automaton → Word → Option Node
pair_of f sheet [] = Some (1, 0, 0)
pair_of f sheet (a ∷ w) = with_fits (reach sheet (a ∷ w)) (f.fits_of (reverse (a ∷ w)))

-- the words in question show at most so many pairs: a list of that many holds the pair of each
pub record ShowAtMost (most : ℕ) (f : Fitting) (sheet : Automaton) (InQuestion : Word → Type 0) : Type 0 where
  pub pairs : List Node
  pub few : length pairs ≤ most
  pub all : (w : Word) (x : Node) → InQuestion w → pair_of f sheet w ≡ Some x → Any (λ y. x ≡ y) pairs

-- the words of letters below K that come before each wrong word: those before the first wrong one, and all where none is wrong
pub record Early (K : ℕ) (images : Images) (sheet : Automaton) (w : Word) : Type 0 where
  pub lettered : Letters K w
  pub before : (v : Word) → Letters K v → Wrong images sheet v → Precedes w v

-- w is the first wrong word
pub record FirstWrong (K : ℕ) (images : Images) (sheet : Automaton) (w : Word) : Type 0 where
  pub lettered : Letters K w
  pub wrong : Wrong images sheet w
  pub first : (v : Word) → Letters K v → Wrong images sheet v → (v ≡ w) ⊎ Precedes w v

-- for a plan: the words before the first wrong one (all words if none is wrong) show at most so many pairs
abbrev pub HoldsPairs : ℕ → ℕ → List (List ℕ) → Automaton → Type 0
HoldsPairs most K plan sheet = ShowAtMost most (fitting plan) sheet (Early K (images_of plan) sheet)

-- which words are early: all if no word is wrong, else those before the first wrong one; and none but the empty word has its pair
pub record EarlyWords (K : ℕ) (plan : List (List ℕ)) (sheet : Automaton) : Type 0 where
  pub all : NoWrong K (images_of plan) sheet → (w : Word) → Letters K w → Early K (images_of plan) sheet w
  pub before : (v : Word) → FirstWrong K (images_of plan) sheet v → (w : Word) → Letters K w → Early K (images_of plan) sheet w ↔ Precedes w v
  pub apart : (w : Word) → Early K (images_of plan) sheet w → 0 < length w → pair_of (fitting plan) sheet w ≢ pair_of (fitting plan) sheet []

-- what an exploration of the judging machine says (the proofs have it of any lawful images and fits)
pub record VerdictsTell (K : ℕ) (plan : List (List ℕ)) (sheet : Automaton) : Type 0 where
  -- it comes to an end with a table: no word is wrong, and all words show exactly as many pairs as the table has entries
  pub complete : (T : Table Node) → AllFound K (judge (fitting plan) sheet) T → NoWrong K (images_of plan) sheet × ((most : ℕ) → HoldsPairs most K plan sheet ↔ (T.size ≤ most))
  -- it finds a first fault: that is the first wrong word, and the words before it show no more pairs than the table has entries
  pub fault : (T : Table Node) (t : List ℕ) → FirstFault K (judge (fitting plan) sheet) T t → FirstWrong K (images_of plan) sheet (reverse t) × ((most : ℕ) → T.size ≤ most → HoldsPairs most K plan sheet)
  -- it finds more nodes than there is room for: the words before the first wrong one show more pairs than that
  pub overflow : (most : ℕ) (t : List ℕ) → More K (judge (fitting plan) sheet) most t → HoldsPairs most K plan sheet → ⊥
  pub early : EarlyWords K plan sheet
  -- a text that leads to a node has at most 64 letters
  pub short : (t : List ℕ) (n : Node) → Letters K t → run (judge (fitting plan) sheet) t ≡ to n → length t ≤ 64

abbrev pub VerdictsAreRight : Type 0
VerdictsAreRight = (K : ℕ) (plan : List (List ℕ)) → Wellformed plan → (sheet : Automaton) → VerdictsTell K plan sheet
