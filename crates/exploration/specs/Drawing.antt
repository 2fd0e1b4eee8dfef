-- The sheet of a plan: what it is to be drawn, that there is one such sheet, and how it is read off an exploration.
use Rattle.std.specs.Prelude.{◌≡◌, ℕ, suc, ◌<◌, ◌≤◌, false, cond, ◌⊎◌, ◌↔◌, List, reverse, length, Some, None, Option, ◌≢◌}
use Rattle.pattern.specs.Fits.{Fitting, fitting}
use Rattle.pattern.specs.Images.{Images, images_of}
use Rattle.pattern.specs.Laws.{Wellformed}
use Rattle.pattern.specs.Rows.{Letters}
use Rattle.pattern.specs.Words.{Word, Precedes}
use Rattle.automaton.specs.Automata.{Automaton, reach}
use Rattle.automaton.specs.Wrong.{NoWrong}
use Rattle.automaton.specs.Machines.{Outcome, dead, wrong, to, Machine}
use Rattle.automaton.specs.Judging.{Node, nowhere, grown}
use Rattle.exploration.specs.Stage.{Table}
use Rattle.exploration.specs.Verdicts.{AllFound, More}
use Rattle.exploration.specs.Pairs.{HoldsPairs}

-- a sheet of so many states is drawn for the letters below K, the images and the fits
pub record Drawn (K : ℕ) (images : Images) (f : Fitting) (states : ℕ) (sheet : Automaton) : Type 0 where
  -- no word is wrong; state 1 has no marks
  pub well : NoWrong K images sheet
  pub bare : (sheet.marks 1 ≡ 0) × (sheet.prefix 1 ≡ false)
  -- words that fit share a state exactly if their fits are the same; the empty word has state 1 to itself
  pub shared : (v w : Word) (q r : ℕ) → Letters K v → Letters K w → 0 < length v → 0 < length w → reach sheet v ≡ Some q → reach sheet w ≡ Some r → (q ≡ r) ↔ (f.fits_of (reverse v) ≡ f.fits_of (reverse w))
  pub alone : (w : Word) → Letters K w → 0 < length w → reach sheet w ≢ Some 1
  -- the states are numbered from 1, each has a first word, and these rise in word order
  pub ranged : (w : Word) (q : ℕ) → Letters K w → reach sheet w ≡ Some q → (0 < q) × (q ≤ states)
  pub first : ℕ → Word
  pub lettered : (q : ℕ) → 0 < q → q ≤ states → Letters K (first q)
  pub reached : (q : ℕ) → 0 < q → q ≤ states → reach sheet (first q) ≡ Some q
  pub earliest : (q : ℕ) → 0 < q → q ≤ states → (w : Word) → Letters K w → reach sheet w ≡ Some q → (first q ≡ w) ⊎ Precedes (first q) w
  pub numbered : (q r : ℕ) → 0 < q → q < r → r ≤ states → Precedes (first q) (first r)

-- two sheets are the same over the states 1 to `states` and the letters below K
pub record Same (K states : ℕ) (left right : Automaton) : Type 0 where
  pub arrows : (q a : ℕ) → 0 < q → q ≤ states → a < K → left.arrow q a ≡ right.arrow q a
  pub marks : (q : ℕ) → 0 < q → q ≤ states → left.marks q ≡ right.marks q
  pub prefixes : (q : ℕ) → 0 < q → q ≤ states → left.prefix q ≡ right.prefix q

-- so many states suffice: a drawn sheet has no more
pub record Suffices (most K : ℕ) (images : Images) (f : Fitting) : Type 0 where
  pub states : ℕ
  pub sheet : Automaton
  pub drawn : Drawn K images f states sheet
  pub few : states ≤ most

-- ---- drawing by exploration

-- the machine that is explored: a node for the empty text and for all fits that texts have; the part for a state is not used
abbrev pub drawn_to : ℕ × ℕ → Outcome Node
drawn_to x = cond (nowhere x) dead (to (0, x.0, x.1))

unfoldable pub drawing : Fitting → Machine Node
drawing f = record { start = (0, 0, 0); step = λ n a. drawn_to (grown f (n.1, n.2) a) }

-- the arrow that stands for an outcome: none, or to the state of the entry with the node
abbrev pub Leads : Table Node → Outcome Node → Option ℕ → Type 0
Leads T dead arrow = arrow ≡ None
Leads T wrong arrow = arrow ≡ None
Leads T (to n) arrow = (j : ℕ) × (j < T.size) × (T.node j ≡ n) × (arrow ≡ Some (suc j))

-- the sheet is read off the table: entry k is state k + 1
pub record ReadOff (K : ℕ) (f : Fitting) (T : Table Node) (sheet : Automaton) : Type 0 where
  pub arrows : (k a : ℕ) → k < T.size → a < K → Leads T ((drawing f).step (T.node k) a) (sheet.arrow (suc k) a)
  pub bare : (sheet.marks 1 ≡ 0) × (sheet.prefix 1 ≡ false)
  pub marks : (k : ℕ) → 0 < k → k < T.size → sheet.marks (suc k) ≡ f.marks ((T.node k).1, (T.node k).2)
  pub prefixes : (k : ℕ) → 0 < k → k < T.size → sheet.prefix (suc k) ≡ f.prefix ((T.node k).1, (T.node k).2)

-- for a plan (the proofs have it of any lawful images and fits)
pub record Draws (K : ℕ) (plan : List (List ℕ)) : Type 0 where
  -- there is one drawn sheet
  pub single : (m n : ℕ) (left right : Automaton) → Drawn K (images_of plan) (fitting plan) m left → Drawn K (images_of plan) (fitting plan) n right → (m ≡ n) × Same K m left right
  -- a complete table draws it
  pub complete : (T : Table Node) (sheet : Automaton) → AllFound K (drawing (fitting plan)) T → ReadOff K (fitting plan) T sheet → Drawn K (images_of plan) (fitting plan) T.size sheet
  -- more nodes than there is room for: so many states do not suffice
  pub overflow : (most : ℕ) (t : List ℕ) → More K (drawing (fitting plan)) most t → Suffices most K (images_of plan) (fitting plan) → ⊥

abbrev pub DrawingIsRight : Type 0
DrawingIsRight = (K : ℕ) (plan : List (List ℕ)) → Wellformed plan → Draws K plan

-- a drawn sheet shows no more pairs than it has states
abbrev pub DrawnSheetsHold : Type 0
DrawnSheetsHold = (K : ℕ) (plan : List (List ℕ)) → Wellformed plan → (states most : ℕ) (sheet : Automaton) → Drawn K (images_of plan) (fitting plan) states sheet → states ≤ most → HoldsPairs most K plan sheet
