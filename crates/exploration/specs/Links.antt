-- A table whose entries say where they come from: entry k > 0 has a parent below k and a letter, and its text is its parent's with
-- that letter, read last, before it.
use Rattle.std.specs.Prelude.{ℕ, zero, suc, ◌+◌, ◌*◌, ◌/◌, ◌%◌, ◌<◌, List, [], ◌∷◌, slice_index, slice_set}
use Rattle.automaton.specs.Judging.{Node}
use Rattle.exploration.specs.Stage.{Table}

-- the text of entry k, in at most `fuel` letters: k letters are enough, since each parent is below its child
abbrev pub spell : (ℕ → ℕ) → (ℕ → ℕ) → ℕ → ℕ → List ℕ
spell parent letter zero k = []
spell parent letter (suc fuel) zero = []
spell parent letter (suc fuel) (suc k) = letter (suc k) ∷ spell parent letter fuel (parent (suc k))

-- the table of nodes, parents and letters
abbrev pub linked : {N : Type 0} → (ℕ → N) → (ℕ → ℕ) → (ℕ → ℕ) → ℕ → Table N
linked node parent letter m = record { node = node; text = λ k. spell parent letter k k; size = m }

-- each parent comes before its child
abbrev pub Linked : (ℕ → ℕ) → ℕ → Type 0
Linked parent m = (k : ℕ) → 0 < k → k < m → parent k < k

-- ---- cells in groups of four: a link, a state and two sets; the link of an entry is parent * K + letter

abbrev pub link_at : List ℕ → ℕ → ℕ
link_at c k = slice_index c (4 * k)

abbrev pub parent_at : ℕ → List ℕ → ℕ → ℕ
parent_at K c k = link_at c k / K

abbrev pub letter_at : ℕ → List ℕ → ℕ → ℕ
letter_at K c k = link_at c k % K

abbrev pub node_at : List ℕ → ℕ → Node
node_at c k = (slice_index c (4 * k + 1), slice_index c (4 * k + 2), slice_index c (4 * k + 3))

-- the table of the first m groups of the cells c
abbrev pub cells : ℕ → List ℕ → ℕ → Table Node
cells K c m = linked (node_at c) (parent_at K c) (letter_at K c) m

-- the cells with group m written
abbrev pub written : ℕ → List ℕ → ℕ → ℕ → ℕ → Node → List ℕ
written K c m i a n = slice_set (slice_set (slice_set (slice_set c (4 * m) (i * K + a)) (4 * m + 1) n.0) (4 * m + 2) n.1) (4 * m + 3) n.2
