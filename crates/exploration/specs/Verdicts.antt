-- What an exploration can find out about a machine over K letters.
use Rattle.std.specs.Prelude.{◌≡◌, ℕ, ◌<◌, ◌≤◌, ◌≢◌, List}
use Rattle.pattern.specs.Rows.{Letters}
use Rattle.pattern.specs.Words.{◌≺◌, ◌≼◌}
use Rattle.automaton.specs.Machines.{wrong, to, Machine, run}
use Rattle.exploration.specs.Stage.{Table, Found}

-- the table has each node that a text leads to, once, with the first text that leads there; and no text is faulty
pub record AllFound {N : Type 0} (K : ℕ) (M : Machine N) (T : Table N) : Type 0 where
  pub every : (u : List ℕ) (n : N) → Letters K u → run M u ≡ to n → Found T n u
  pub apart : (j k : ℕ) → j < k → k < T.size → T.node j ≢ T.node k
  pub lettered : (k : ℕ) → k < T.size → Letters K (T.text k)
  pub reached : (k : ℕ) → k < T.size → run M (T.text k) ≡ to (T.node k)
  pub rising : (j k : ℕ) → j < k → k < T.size → T.text j ≺ T.text k
  pub least : (k : ℕ) → k < T.size → (u : List ℕ) → Letters K u → run M u ≡ to (T.node k) → T.text k ≼ u
  pub faultless : (u : List ℕ) → Letters K u → run M u ≢ wrong

-- w is the first faulty text, and the table has each node that a text before it leads to
pub record FirstFault {N : Type 0} (K : ℕ) (M : Machine N) (T : Table N) (w : List ℕ) : Type 0 where
  pub lettered : Letters K w
  pub faulty : run M w ≡ wrong
  pub first : (u : List ℕ) → Letters K u → run M u ≡ wrong → w ≼ u
  pub every : (u : List ℕ) (n : N) → Letters K u → u ≺ w → run M u ≡ to n → Found T n u

-- the texts up to w lead to more than m nodes, no two the same, and none of them is faulty
pub record More {N : Type 0} (K : ℕ) (M : Machine N) (m : ℕ) (w : List ℕ) : Type 0 where
  pub node : ℕ → N
  pub text : ℕ → List ℕ
  pub apart : (j k : ℕ) → j < k → k ≤ m → node j ≢ node k
  pub lettered : (k : ℕ) → k ≤ m → Letters K (text k)
  pub reached : (k : ℕ) → k ≤ m → run M (text k) ≡ to (node k)
  pub early : (k : ℕ) → k ≤ m → text k ≼ w
  pub faultless : (u : List ℕ) → Letters K u → u ≼ w → run M u ≢ wrong
