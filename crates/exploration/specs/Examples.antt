-- Worked examples: sheets of the pattern ABA over 26 letters, drawn and judged.
use Rattle.std.specs.Prelude.{ℕ, Bool, true, false, ◌&&◌, [], ◌∷◌, ◌==◌}
use Rattle.pattern.specs.Examples.{aba}
use Rattle.pattern.specs.Fits.{fitting}
use Rattle.pattern.specs.Images.{images_of}
use Rattle.automaton.specs.Automata.{Automaton}
use Rattle.automaton.specs.Wrong.{NoWrong}
use Rattle.automaton.specs.Examples.{sheet_of, aba_sheet}
use Rattle.automaton.specs.Machines.{Machine}
use Rattle.automaton.specs.Judging.{Node}
use Rattle.exploration.specs.Drawing.{Drawn}
use Rattle.exploration.specs.Explore.{Task}
use Rattle.exploration.specs.Pairs.{FirstWrong, HoldsPairs}

-- two nodes are the same
abbrev pub same_node : Node → Node → Bool
same_node x y = x.0 == y.0 && (x.1 == y.1 && x.2 == y.2)

-- to explore a machine over K letters, with room for so many nodes
abbrev pub exploring : ℕ → Machine Node → ℕ → Task Node
exploring K machine room = record { machine = machine; same = same_node; letters = K; capacity = room }

-- the sheet of ABA without the prefix mark of state 2
abbrev pub unmarked : Automaton
unmarked =
    sheet_of (
    ((2 ∷ 3 ∷ []), 0, false) ∷ ((0 ∷ 4 ∷ []), 0, false) ∷ ((5 ∷ 0 ∷ []), 0, false) ∷ ((6 ∷ 0 ∷ []), 0, false) ∷ ([], 0, true) ∷ ([], 1, false) ∷ []
    )

-- and without the arrow from state 3 by A
abbrev pub unlinked : Automaton
unlinked =
    sheet_of (
    ((2 ∷ 3 ∷ []), 0, false) ∷ ((0 ∷ 4 ∷ []), 0, true) ∷ ([], 0, false) ∷ ((6 ∷ 0 ∷ []), 0, false) ∷ ([], 0, true) ∷ ([], 1, false) ∷ []
    )

pub record Judgements : Type 0 where
  -- the plan ABA draws the sheet with six states
  pub draws : Drawn 26 (images_of aba) (fitting aba) 6 aba_sheet
  -- the sheet of ABA has no wrong word, and its words show 6 pairs
  pub well : NoWrong 26 (images_of aba) aba_sheet
  pub six : HoldsPairs 6 26 aba aba_sheet
  pub not_five : HoldsPairs 5 26 aba aba_sheet → ⊥
  -- without the prefix mark of state 2 the word A is the first wrong one; without the arrow from 3 by A the word B A, and the
  -- words before it show 4 pairs
  pub wrong_a : FirstWrong 26 (images_of aba) unmarked (0 ∷ [])
  pub wrong_ba : FirstWrong 26 (images_of aba) unlinked (1 ∷ 0 ∷ [])
  pub four : HoldsPairs 4 26 aba unlinked
  pub not_three : HoldsPairs 3 26 aba unlinked → ⊥
