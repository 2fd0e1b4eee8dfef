-- The table of an exploration of a machine in word order, and what holds of it when the entries below i are done, and the letters
-- below a of entry i. All is said of texts, whose order is that of their words.
use Rattle.std.specs.Prelude.{◌≡◌, ℕ, ◌+◌, ◌<◌, ◌≢◌, ◌⊎◌, List, [], ◌∷◌}
use Rattle.pattern.specs.Rows.{Letters}
use Rattle.pattern.specs.Words.{◌≺◌, ◌≼◌}
use Rattle.automaton.specs.Machines.{wrong, to, Machine, run}

-- entry k has a node and the first text that leads there; past `size` the two functions say nothing
pub record Table (N : Type 0) : Type 0 where
  pub node : ℕ → N
  pub text : ℕ → List ℕ
  pub size : ℕ

-- an entry has the node n, with a text no later than w
abbrev pub Found : {N : Type 0} → Table N → N → List ℕ → Type 0
Found T n w = (t : ℕ) × (t < T.size) × (T.node t ≡ n) × (T.text t ≼ w)

-- no entry has the node n
abbrev pub Absent : {N : Type 0} → Table N → N → Type 0
Absent T n = (k : ℕ) → k < T.size → T.node k ≢ n

-- letter b of entry k is done at stage (i, a)
abbrev pub Done : ℕ → ℕ → ℕ → ℕ → Type 0
Done i a k b = (k < i) ⊎ ((k ≡ i) × (b < a))

-- the entries are apart, each is reached by its text, and these rise; what is done has no fault, and all that it leads to is found
pub record Stage {N : Type 0} (K : ℕ) (M : Machine N) (T : Table N) (i a : ℕ) : Type 0 where
  pub filled : 0 < T.size
  pub first_node : T.node 0 ≡ M.start
  pub first_text : T.text 0 ≡ []
  pub apart : (j k : ℕ) → j < k → k < T.size → T.node j ≢ T.node k
  pub reached : (k : ℕ) → k < T.size → run M (T.text k) ≡ to (T.node k)
  pub lettered : (k : ℕ) → k < T.size → Letters K (T.text k)
  pub rising : (j k : ℕ) → j < k → k < T.size → T.text j ≺ T.text k
  -- what is in the table was found before this stage
  pub behind : i < T.size → (k : ℕ) → k < T.size → T.text k ≺ (a ∷ T.text i)
  pub faultless : (k b : ℕ) → k < T.size → b < K → Done i a k b → M.step (T.node k) b ≢ wrong
  pub known : (k b : ℕ) → k < T.size → b < K → Done i a k b → (n : N) → M.step (T.node k) b ≡ to n → Found T n (b ∷ T.text k)

-- U is T with one more entry, the node n with the text w
pub record Extends {N : Type 0} (T U : Table N) (n : N) (w : List ℕ) : Type 0 where
  pub longer : U.size ≡ T.size + 1
  pub nodes_kept : (k : ℕ) → k < T.size → U.node k ≡ T.node k
  pub texts_kept : (k : ℕ) → k < T.size → U.text k ≡ T.text k
  pub new_node : U.node T.size ≡ n
  pub new_text : U.text T.size ≡ w
