-- How far a sheet has been read off the table of an exploration: entry k of the table is state k + 1.
use Rattle.std.specs.Prelude.{◌≡◌, ℕ, zero, suc, ◌+◌, ◌*◌, ◌<◌, ◌≤◌, false, ◌⊎◌, List, length, Some, None, Option, slice_index, slice_index_or}
use Rattle.pattern.specs.Patterns.{shortest}
use Rattle.pattern.specs.Fits.{fitting}
use Rattle.exploration.specs.Stage.{Done}
use Rattle.exploration.specs.Links.{node_at, cells}
use Rattle.exploration.specs.Drawing.{drawing, Leads}
use Rattle.plan.specs.declared.Plan.{Plan}
use Rattle.plan.specs.Views.{letters_of, patterns_of}
use Rattle.sheet.specs.Tables.{Entry, Table, blank, plain, arrow_of}
use Rattle.judge.specs.Tables.{words_in}
use Rattle.judge.specs.Exploring.{Completes}
use Rattle.judge.specs.declared.drawing.Plot.{Plot}

-- the fits of entry k
abbrev pub fits_at : List ℕ → ℕ → ℕ × ℕ
fits_at c k = (slice_index c (4 * k + 2), slice_index c (4 * k + 3))

-- the state of entry k, without arrows: both marks of state 1 are 0, those of others are read off the fits
abbrev pub bare : Plan → List ℕ → ℕ → Entry
bare plan c zero = plain (letters_of plan) 0 false
bare plan c (suc k) = plain (letters_of plan) ((fitting (patterns_of plan)).marks (fits_at c (suc k))) ((fitting (patterns_of plan)).prefix (fits_at c (suc k)))

-- a state of a table, from 0 on
abbrev pub state : Table → ℕ → Entry
state t k = slice_index_or t.states k blank

-- the table has the states of the first `count` entries, without arrows
pub record Bare (plan : Plan) (c : List ℕ) (count : ℕ) (t : Table) : Type 0 where
  pub letters : t.letters ≡ letters_of plan
  pub shortest : t.shortest ≡ shortest (patterns_of plan)
  pub size : length t.states ≡ count
  pub states : (k : ℕ) → k < count → state t k ≡ bare plan c k

-- letter b of entry k is still to come at stage (i, a)
abbrev pub Later : ℕ → ℕ → ℕ → ℕ → Type 0
Later i a k b = (i < k) ⊎ ((k ≡ i) × (a ≤ b))

-- the table has the states of all entries, and the arrows of the entries below i and of the letters below a of entry i
pub record Plotted (plan : Plan) (c : List ℕ) (count i a : ℕ) (t : Table) : Type 0 where
  pub letters : t.letters ≡ letters_of plan
  pub shortest : t.shortest ≡ shortest (patterns_of plan)
  pub size : length t.states ≡ count
  pub marks : (k : ℕ) → k < count → (state t k).marks ≡ (bare plan c k).marks
  pub prefixes : (k : ℕ) → k < count → (state t k).prefix ≡ (bare plan c k).prefix
  pub wide : (k : ℕ) → k < count → length (state t k).arrows ≡ letters_of plan
  pub done : (k b : ℕ) → k < count → b < letters_of plan → Done i a k b → Leads (cells (letters_of plan) c count) ((drawing (fitting (patterns_of plan))).step (node_at c k) b) (arrow_of (slice_index (state t k).arrows b))
  pub later : (k b : ℕ) → k < count → b < letters_of plan → Later i a k b → slice_index (state t k).arrows b ≡ 0

-- the arrow to an entry's state, if there is an entry
abbrev pub arrow_to : Option ℕ → Option ℕ
arrow_to None = None
arrow_to (Some k) = Some (suc k)

-- an entry is one of so many
abbrev pub Inside : ℕ → Option ℕ → Type 0
Inside count None = Unit {0}
Inside count (Some k) = k < count

-- ---- the same of a plot, a plan with a table

-- the table is complete, with at most as many entries as a sheet can have states
pub record Complete (p : Plot) : Type 0 where
  pub few : p.table.now.size ≤ 255
  pub all : Completes (letters_of p.plan.now) (drawing (fitting (patterns_of p.plan.now))) (words_in p.table.now) p.table.now.size

abbrev pub BareFor : Plot → Table → Type 0
BareFor p t = Bare p.plan.now (words_in p.table.now) p.table.now.size t

abbrev pub PlottedFor : Plot → ℕ → ℕ → Table → Type 0
PlottedFor p i a t = Plotted p.plan.now (words_in p.table.now) p.table.now.size i a t

-- the letter a of entry i leads to this arrow
abbrev pub LeadsFor : Plot → ℕ → ℕ → Option ℕ → Type 0
LeadsFor p i a x = Leads (cells (letters_of p.plan.now) (words_in p.table.now) p.table.now.size) ((drawing (fitting (patterns_of p.plan.now))).step (node_at (words_in p.table.now) i) a) x
