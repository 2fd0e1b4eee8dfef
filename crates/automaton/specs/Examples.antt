-- Worked examples, by computation: the sheet of the pattern ABA, and searches with it.
use Rattle.std.specs.Prelude.{◌≡◌, ℕ, zero, suc, ◌-◌, Bool, true, false, List, [], ◌∷◌, Some, None, Option, slice_index, slice_index_or}
use Rattle.pattern.specs.Examples.{hit}
use Rattle.automaton.specs.Automata.{Automaton, reach}
use Rattle.automaton.specs.Search.{start, ticks}

-- a state: its arrows, one for each letter, where 0 is none; its marks; whether it is a proper prefix
abbrev pub State : Type 0
State = List ℕ × ℕ × Bool

abbrev pub arrow_to : ℕ → Option ℕ
arrow_to zero = None
arrow_to (suc q) = Some (suc q)

abbrev pub state_at : List State → ℕ → State
state_at states q = slice_index_or states (q - 1) ([], 0, false)

-- the sheet of a list of states, the first of them state 1
abbrev pub sheet_of : List State → Automaton
sheet_of states = record { arrow = λ q a. arrow_to (slice_index (state_at states q).0 a); marks = λ q. (state_at states q).1; prefix = λ q. (state_at states q).2 }

-- the sheet of the pattern ABA; the letters A and B are 0 and 1
abbrev pub aba_sheet : Automaton
aba_sheet =
    sheet_of (
    ((2 ∷ 3 ∷ []), 0, false) ∷ ((0 ∷ 4 ∷ []), 0, true) ∷ ((5 ∷ 0 ∷ []), 0, false) ∷ ((6 ∷ 0 ∷ []), 0, false) ∷ ([], 0, true) ∷ ([], 1, false) ∷ []
    )

-- the sheet of the pattern A
abbrev pub a_sheet : Automaton
a_sheet = sheet_of (((2 ∷ []), 0, false) ∷ ([], 1, false) ∷ [])

pub record Searches : Type 0 where
  -- the words B A and A B reach states, B B none
  pub word_ba : reach aba_sheet (1 ∷ 0 ∷ []) ≡ Some 5
  pub word_ab : reach aba_sheet (0 ∷ 1 ∷ []) ≡ Some 4
  pub word_bb : reach aba_sheet (1 ∷ 1 ∷ []) ≡ None
  -- ABA over ABABA: two hits, 7 cells fetched
  pub overlapping : ticks aba_sheet 3 (Some 0 ∷ Some 1 ∷ Some 0 ∷ Some 1 ∷ Some 0 ∷ []) 20 (start 3) ≡ (hit 0 2 1 ∷ hit 2 4 1 ∷ [], record { p = 6; o = 0; q = 1; c = 0; fetches = 7; damaged = None })
  -- ABA over AB: the end, and no cell fetched
  pub too_short : ticks aba_sheet 3 (Some 0 ∷ Some 1 ∷ []) 20 (start 3) ≡ ([], start 3)
  -- A over A, damage, A: two hits, 4 cells fetched, the first damaged one is cell 1
  pub damaged : ticks a_sheet 1 (Some 0 ∷ None ∷ Some 0 ∷ []) 20 (start 1) ≡ (hit 0 0 1 ∷ hit 2 2 1 ∷ [], record { p = 3; o = 0; q = 1; c = 0; fetches = 4; damaged = Some 1 })
