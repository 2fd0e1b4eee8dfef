-- Twelve examples that were worked out by hand: plans, sheets, searches and logs. But for the sixth to the tenth they have 26 letters.
--   row_of              the letters of the sign log of these bytes
--   block               a block of 512 bytes: its first eight bytes, zeros, and the four of its check
--   Draws, Searches,    what a plan draws; the hits and the counts of a search; the first wrong word of a sheet, with the number
--   Refused             of the refusal
use Rattle.std.specs.Prelude.{◌≡◌, ℕ, ◌*◌, ◌+◌, List, [], ◌∷◌, ◌++◌, replicate, Some, None, Ok, Err, Option, codes}
use Rattle.pattern.specs.Examples.{aba, ab_and_b, hit}
use Rattle.pattern.specs.Fits.{fitting}
use Rattle.pattern.specs.Images.{images_of}
use Rattle.pattern.specs.Rows.{Hit, full}
use Rattle.automaton.specs.Automata.{Automaton}
use Rattle.automaton.specs.Wrong.{NoWrong}
use Rattle.automaton.specs.Examples.{aba_sheet, a_sheet}
use Rattle.automaton.specs.Search.{start, ticks}
use Rattle.exploration.specs.Drawing.{Drawn}
use Rattle.exploration.specs.Examples.{unmarked, unlinked}
use Rattle.exploration.specs.Pairs.{FirstWrong, HoldsPairs}
use Rattle.notation.specs.declared.LineFault.TheVariants.{NoLetter}
use Rattle.notation.specs.declared.PlanRefusal.TheVariants.{Text, Line}
use Rattle.notation.specs.Numbers.{number_of as plan_number}
use Rattle.notation.specs.Reading.{read_plan}
use Rattle.logs.specs.declared.cause.Cause.TheVariants.{Check}
use Rattle.logs.specs.Blocks.{check_of}
use Rattle.logs.specs.Causes.{cause_number}
use Rattle.logs.specs.EventLogs.{event_row}
use Rattle.logs.specs.Records.{damage_of}
use Rattle.logs.specs.SignLogs.{sign_row}
use Rattle.judge.specs.declared.refusals.JudgeRefusal.TheVariants.{Pairs, Word}
use Rattle.judge.specs.Memory.{groups_in}
use Rattle.judge.specs.Refusals.{number_of as judge_number}
use Rattle.reading.specs.Cells.{letters_in}

abbrev pub row_of : List ℕ → List (Option ℕ)
row_of bytes = letters_in (sign_row bytes)

abbrev pub block : List ℕ → List ℕ → List ℕ
block front check = front ++ (replicate 500 0 ++ check)

-- with the one event at minute 60: dim, to level 200
abbrev pub one_event : List ℕ
one_event = block (0 ∷ 0 ∷ 1 ∷ 0 ∷ 0 ∷ 60 ∷ 2 ∷ 200 ∷ []) (0 ∷ 180 ∷ 9 ∷ 89 ∷ [])

abbrev pub zeros : List ℕ → List ℕ
zeros check = block (replicate 8 0) check

-- a search with a sheet over a row, and where it has come to
abbrev pub Searches : Automaton → ℕ → List (Option ℕ) → List Hit → ℕ → ℕ → Option ℕ → Type 0
Searches sheet least row hits end fetches damaged = ticks sheet least row 20 (start least) ≡ (hits, record { p = end; o = 0; q = 1; c = 0; fetches = fetches; damaged = damaged })

-- a working memory of so many words does not hold the pairs of the sheet of ABA; or it does, and no word is wrong
abbrev pub RefusesPairs : ℕ → Type 0
RefusesPairs words = (HoldsPairs (groups_in (replicate words 0)) 26 aba aba_sheet → ⊥) × (judge_number Pairs ≡ 35)

abbrev pub Accepts : ℕ → Type 0
Accepts words = HoldsPairs (groups_in (replicate words 0)) 26 aba aba_sheet × NoWrong 26 (images_of aba) aba_sheet

pub record WorkedExamples : Type 0 where
  -- 1: ABA draws six states
  pub draws : Drawn 26 (images_of aba) (fitting aba) 6 aba_sheet
  -- 2: over ABABA it hits 0 to 2 and 2 to 4, and fetches 7 cells
  pub overlapping : (full (images_of aba) (row_of (codes "ABABA")) ≡ hit 0 2 1 ∷ hit 2 4 1 ∷ []) × Searches aba_sheet 3 (row_of (codes "ABABA")) (hit 0 2 1 ∷ hit 2 4 1 ∷ []) 6 7 None
  -- 3: without the prefix mark of state 2 the word A is the first wrong one
  pub unmarked_a : FirstWrong 26 (images_of aba) unmarked (0 ∷ []) × (judge_number (Word 1) ≡ 36)
  -- 4: without the arrow from state 3 by A, the word B A
  pub unlinked_ba : FirstWrong 26 (images_of aba) unlinked (1 ∷ 0 ∷ []) × (judge_number (Word 2) ≡ 36)
  -- 5: the lines AB and B over AB: at one end, the later start first
  pub two_lines : (read_plan 26 (codes "AB\nB\n") ≡ Ok ab_and_b) × (full (images_of ab_and_b) (row_of (codes "AB")) ≡ hit 1 1 2 ∷ hit 0 1 1 ∷ [])
  -- 6: ABA over AB: the end, and no cell fetched
  pub too_short : (full (images_of aba) (row_of (codes "AB")) ≡ []) × Searches aba_sheet 3 (row_of (codes "AB")) [] 2 0 None
  -- 7: over two letters [^AB] leaves no letter
  pub none_left : (read_plan 2 (codes "[^AB]\n") ≡ Err (Line 1 NoLetter)) × (plan_number (Line 1 NoLetter) ≡ 6)
  -- 8: an empty text is no plan
  pub no_text : (read_plan 2 [] ≡ Err Text) × (plan_number Text ≡ 2)
  -- 9: a block with one event has this check, and shows its letter
  pub event : (check_of one_event ≡ 0 * 16777216 + 180 * 65536 + 9 * 256 + 89) × (event_row one_event ≡ Ok 11 ∷ [])
  -- 10: a block of zeros shows no cell where its check is 1, and 126 damaged cells where its check is 0
  pub zero_block : (event_row (zeros (0 ∷ 0 ∷ 0 ∷ 1 ∷ [])) ≡ []) × (event_row (zeros (0 ∷ 0 ∷ 0 ∷ 0 ∷ [])) ≡ replicate 126 (Err (damage_of Check 0))) × (cause_number Check ≡ 2)
  -- 11: the sheet of the first example in 20 words of working memory, and in 24
  pub words : RefusesPairs 20 × Accepts 24
  -- 12: A over A, damage, A: two hits, 4 cells fetched, the first damaged one is cell 1
  pub damaged : (full (images_of ((1 ∷ []) ∷ [])) (row_of (65 ∷ 63 ∷ 65 ∷ [])) ≡ hit 0 0 1 ∷ hit 2 2 1 ∷ []) × Searches a_sheet 1 (row_of (65 ∷ 63 ∷ 65 ∷ [])) (hit 0 0 1 ∷ hit 2 2 1 ∷ []) 3 4 (Some 1)
