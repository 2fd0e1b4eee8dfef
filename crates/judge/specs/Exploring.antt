-- What an exploration answers about a machine M over K letters, with its table in the cells c.
use Rattle.std.specs.Prelude.{ℕ, ◌+◌, ◌*◌, ◌<◌, ◌≤◌, List, ◌∷◌, length, Ok, Err, Result}
use Rattle.automaton.specs.Machines.{Machine}
use Rattle.automaton.specs.Judging.{Node}
use Rattle.exploration.specs.Verdicts.{AllFound, FirstFault, More}
use Rattle.exploration.specs.Links.{cells}
use Rattle.exploration.specs.Cells.{text_at, Sound, Traceable}
use Rattle.judge.specs.Memory.{groups_in}
use Rattle.judge.specs.declared.explore.Stop.{Stop}
use Rattle.judge.specs.declared.explore.Stop.TheVariants.{Faulty, Full}

-- the letter a of entry i is the first fault; `size` entries were found before it
pub record Fails (K : ℕ) (M : Machine Node) (c : List ℕ) (i a : ℕ) : Type 0 where
  pub size : ℕ
  pub room : 4 * size ≤ length c
  pub letter : a < K
  pub first : FirstFault K M (cells K c size) (a ∷ text_at K c i)
  pub traceable : Traceable K c i

-- the table is complete, with so many entries
pub record Completes (K : ℕ) (M : Machine Node) (c : List ℕ) (size : ℕ) : Type 0 where
  pub room : 4 * size ≤ length c
  pub all : AllFound K M (cells K c size)

-- some text leads to one node more than the cells have room for
pub record Overflows (K : ℕ) (M : Machine Node) (c : List ℕ) : Type 0 where
  pub text : List ℕ
  pub more : More K M (groups_in c) text

-- what an exploration that stops has found
abbrev pub Stops : ℕ → Machine Node → List ℕ → Stop → Type 0
Stops K M c (Faulty i a) = Fails K M c i a
Stops K M c Full = Overflows K M c

-- after the letter a of entry i, with so many entries
abbrev pub After : ℕ → Machine Node → List ℕ → ℕ → ℕ → ℕ → Result (Unit {0}) Stop → Type 0
After K M c size i a (Ok _) = Sound K M c size i (a + 1) × (i < size)
After K M c size i a (Err stop) = Stops K M c stop

-- at the end, with so many entries
abbrev pub Explored : ℕ → Machine Node → List ℕ → ℕ → Result (Unit {0}) Stop → Type 0
Explored K M c size (Ok _) = Completes K M c size
Explored K M c size (Err stop) = Stops K M c stop
