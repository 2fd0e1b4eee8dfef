-- What a walk keeps that holds the table in a slice, in groups of four cells.
use Rattle.std.specs.Prelude.{◌≡◌, ℕ, ◌+◌, ◌*◌, ◌<◌, ◌≤◌, ◌≢◌, List, ◌∷◌, length}
use Rattle.automaton.specs.Machines.{dead, wrong, to, Machine}
use Rattle.exploration.specs.Stage.{Stage}
use Rattle.exploration.specs.Verdicts.{AllFound, FirstFault, More}
use Rattle.exploration.specs.Links.{spell, Linked, parent_at, letter_at, node_at, cells, written}
use Rattle.automaton.specs.Judging.{Node}

-- the text of entry i
abbrev pub text_at : ℕ → List ℕ → ℕ → List ℕ
text_at K c i = spell (parent_at K c) (letter_at K c) i i

-- the first m groups of c are the table at stage (i, a)
pub record Sound (K : ℕ) (M : Machine Node) (c : List ℕ) (m i a : ℕ) : Type 0 where
  pub stage : Stage K M (cells K c m) i a
  pub links : Linked (parent_at K c) m
  pub fits : 4 * m ≤ length c

-- the text of entry i can be read back from the cells
pub record Traceable (K : ℕ) (c : List ℕ) (i : ℕ) : Type 0 where
  pub links : Linked (parent_at K c) (i + 1)
  pub within : 4 * i + 4 ≤ length c

-- one of the first m groups has the node, or none
abbrev pub Among : List ℕ → ℕ → Node → Type 0
Among c m n = (k : ℕ) × (k < m) × (node_at c k ≡ n)

abbrev pub NotAmong : List ℕ → ℕ → Node → Type 0
NotAmong c m n = (k : ℕ) → k < m → node_at c k ≢ n

-- the steps of such a walk, for any machine: it begins with the start's entry; a letter of entry i is dead, a fault, leads to an
-- entry, or to a new one, for which there may be no room; a row of letters ends; all entries are done
pub record Walk (K : ℕ) (M : Machine Node) (c : List ℕ) : Type 0 where
  pub begins : 4 ≤ length c → Sound K M (written K c 0 0 0 M.start) 1 0 0
  pub row_ends : (m i a : ℕ) → Sound K M c m i a → i < m → K ≤ a → Sound K M c m (i + 1) 0
  pub all_done : (m i a : ℕ) → Sound K M c m i a → m ≤ i → AllFound K M (cells K c m)
  pub goes_nowhere : (m i a : ℕ) → Sound K M c m i a → i < m → M.step (node_at c i) a ≡ dead → Sound K M c m i (a + 1)
  pub faults : (m i a : ℕ) → Sound K M c m i a → i < m → a < K → M.step (node_at c i) a ≡ wrong → FirstFault K M (cells K c m) (a ∷ text_at K c i)
  pub finds_known : (m i a : ℕ) (n : Node) → Sound K M c m i a → i < m → a < K → M.step (node_at c i) a ≡ to n → Among c m n → Sound K M c m i (a + 1)
  pub finds_new : (m i a : ℕ) (n : Node) → Sound K M c m i a → i < m → a < K → M.step (node_at c i) a ≡ to n → NotAmong c m n → 4 * m + 4 ≤ length c → Sound K M (written K c m i a n) (m + 1) i (a + 1)
  pub finds_no_room : (m i a : ℕ) (n : Node) → Sound K M c m i a → i < m → a < K → M.step (node_at c i) a ≡ to n → NotAmong c m n → (r : ℕ) → r ≤ m → More K M r (a ∷ text_at K c i)

abbrev pub WalksAreSound : Type 0
WalksAreSound = (K : ℕ) (M : Machine Node) (c : List ℕ) → Walk K M c
