-- A deterministic machine that reads texts from their end, and what becomes of a text.
use Rattle.std.specs.Prelude.{ℕ, List, [], ◌∷◌}

-- a letter at a node: no move, a fault, or a move
pub data Outcome (N : Type 0) : Type 0 where
  dead : Outcome N
  wrong : Outcome N
  to : N → Outcome N

pub record Machine (N : Type 0) : Type 0 where
  pub start : N
  pub step : N → ℕ → Outcome N

-- what a letter makes of an outcome: past a fault there is nothing
abbrev pub after : {N : Type 0} → (N → ℕ → Outcome N) → Outcome N → ℕ → Outcome N
after s dead a = dead
after s wrong a = dead
after s (to n) a = s n a

-- `run M t ≡ to n`: every letter of t, from its end, is a move, and n is where it ends. `run M t ≡ wrong`: its first letter, which
-- is read last, is a fault
abbrev pub run : {N : Type 0} → Machine N → List ℕ → Outcome N
run M [] = to M.start
run M (a ∷ t) = after M.step (run M t) a
