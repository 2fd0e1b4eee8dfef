-- The table of an exploration as the code holds it: entries of four words.
use Rattle.std.specs.Prelude.{◌≡◌, ℕ, ◌<◌, List, [], ◌∷◌, length, slice_index, Some, None, Option}
use Rattle.automaton.specs.Judging.{Node}
use Rattle.exploration.specs.Links.{node_at}
use Rattle.exploration.specs.Cells.{NotAmong}
use Rattle.judge.specs.declared.table.Table.{Table}

-- the words of the entries, one after another
abbrev pub words_of : List (List ℕ) → List ℕ
words_of [] = []
words_of (e ∷ es) = slice_index e 0 ∷ slice_index e 1 ∷ slice_index e 2 ∷ slice_index e 3 ∷ words_of es

abbrev pub words_in : Table → List ℕ
words_in t = words_of t.entries.now

-- the node of an entry
abbrev pub node_in : List ℕ → Node
node_in e = (slice_index e 1, slice_index e 2, slice_index e 3)

-- as many letters, and as many entries in use or free
pub record Same (t u : Table) : Type 0 where
  pub letters : u.letters ≡ t.letters
  pub groups : length u.entries.now ≡ length t.entries.now

-- the entry of the node n among the first `size` of the cells, or none
abbrev pub Finds : List ℕ → ℕ → Node → Option ℕ → Type 0
Finds c size n (Some k) = (k < size) × (node_at c k ≡ n)
Finds c size n None = NotAmong c size n
