-- What judging a sheet for a plan answers, and what it leaves behind.
use Rattle.std.specs.Prelude.{◌≡◌, ℕ, ◌≤◌, List, ◌++◌, length, drop, Ok, Err, Result}
use Rattle.pattern.specs.Patterns.{shortest}
use Rattle.pattern.specs.Images.{images_of}
use Rattle.automaton.specs.Wrong.{NoWrong}
use Rattle.exploration.specs.Pairs.{HoldsPairs, FirstWrong}
use Rattle.plan.specs.declared.Plan.{Plan}
use Rattle.plan.specs.Views.{letters_of, patterns_of}
use Rattle.sheet.specs.declared.Sheet.{Sheet}
use Rattle.sheet.specs.Views.{table_of, automaton_of}
use Rattle.judge.specs.Memory.{Wiped, groups_in}
use Rattle.judge.specs.declared.refusals.JudgeRefusal.{JudgeRefusal}
use Rattle.judge.specs.declared.refusals.JudgeRefusal.TheVariants.{Letters, Shortest, Room, Pairs, Word}

-- the questions, in their order

-- has the sheet the plan's letters?
abbrev pub SameLetters : Plan → Sheet → Type 0
SameLetters plan sheet = (table_of sheet).letters ≡ letters_of plan

-- is its shortest length the plan's?
abbrev pub SameShortest : Plan → Sheet → Type 0
SameShortest plan sheet = (table_of sheet).shortest ≡ shortest (patterns_of plan)

-- are there 65 bytes for a word, and is there a group of four words in the memory?
abbrev pub HasRoom : List ℕ → List ℕ → Type 0
HasRoom memory word = (65 ≤ length word) × (1 ≤ groups_in memory)

-- do the words before the first wrong one (all words if none is wrong) show at most as many pairs as there are groups?
abbrev pub PairsHeld : Plan → Sheet → List ℕ → Type 0
PairsHeld plan sheet memory = HoldsPairs (groups_in memory) (letters_of plan) (patterns_of plan) (automaton_of sheet)

-- is no word wrong?
abbrev pub Faultless : Plan → Sheet → Type 0
Faultless plan sheet = NoWrong (letters_of plan) (images_of (patterns_of plan)) (automaton_of sheet)

-- the questions before any judging are answered by yes
pub record Ready (plan : Plan) (sheet : Sheet) (memory word : List ℕ) : Type 0 where
  pub letters : SameLetters plan sheet
  pub shortest : SameShortest plan sheet
  pub room : HasRoom memory word

-- the buffer `after` begins with the first wrong word, of so many letters; all other bytes are those of `before`
pub record ShowsWrong (plan : Plan) (sheet : Sheet) (before after : List ℕ) (size : ℕ) : Type 0 where
  pub wrong : List ℕ
  pub first : FirstWrong (letters_of plan) (images_of (patterns_of plan)) (automaton_of sheet) wrong
  pub length_is : length wrong ≡ size
  pub held : after ≡ wrong ++ drop size before

-- the sheet is accepted where all questions are answered by yes; a refusal names the first that is answered by no. Only that for a
-- wrong word writes to the word buffer
abbrev pub Answers : Plan → Sheet → List ℕ → List ℕ → List ℕ → Result (Unit {0}) JudgeRefusal → Type 0
Answers plan sheet memory word after (Ok _) = Ready plan sheet memory word × PairsHeld plan sheet memory × Faultless plan sheet × (after ≡ word)
Answers plan sheet memory word after (Err Letters) = (SameLetters plan sheet → ⊥) × (after ≡ word)
Answers plan sheet memory word after (Err Shortest) = SameLetters plan sheet × (SameShortest plan sheet → ⊥) × (after ≡ word)
Answers plan sheet memory word after (Err Room) = SameLetters plan sheet × SameShortest plan sheet × (HasRoom memory word → ⊥) × (after ≡ word)
Answers plan sheet memory word after (Err Pairs) = Ready plan sheet memory word × (PairsHeld plan sheet memory → ⊥) × (after ≡ word)
Answers plan sheet memory word after (Err (Word size)) = Ready plan sheet memory word × PairsHeld plan sheet memory × ShowsWrong plan sheet word after size

-- what a call leaves: its answer, with what the word buffer holds then, and the memory all zeros
pub record Judged (plan : Plan) (sheet : Sheet) (memory word memory' word' : List ℕ) (given : Result (Unit {0}) JudgeRefusal) : Type 0 where
  pub answer : Answers plan sheet memory word word' given
  pub wiped : Wiped memory memory'
