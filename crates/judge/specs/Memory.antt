-- The working memory: what it holds after use.
use Rattle.std.specs.Prelude.{◌≡◌, ℕ, ◌/◌, List, length, replicate}

-- `after` is a memory as long as `before`, all zeros
abbrev pub Wiped : List ℕ → List ℕ → Type 0
Wiped before after = after ≡ replicate (length before) 0

-- an entry takes a group of four words: how many groups a memory has
abbrev pub groups_in : List ℕ → ℕ
groups_in memory = length memory / 4
