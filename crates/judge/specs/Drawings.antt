-- What drawing the sheet of a plan answers, and what it leaves behind.
use Rattle.std.specs.Prelude.{◌≡◌, ℕ, ◌≤◌, List, length, Ok, Err, Result}
use Rattle.pattern.specs.Patterns.{shortest}
use Rattle.pattern.specs.Fits.{fitting}
use Rattle.pattern.specs.Images.{images_of}
use Rattle.exploration.specs.Drawing.{Drawn, Suffices}
use Rattle.plan.specs.declared.Plan.{Plan}
use Rattle.plan.specs.Views.{letters_of, patterns_of}
use Rattle.sheet.specs.declared.Sheet.{Sheet}
use Rattle.sheet.specs.Views.{table_of, automaton_of}
use Rattle.judge.specs.Memory.{Wiped}
use Rattle.judge.specs.declared.refusals.DrawRefusal.TheVariants.{Words, States}
use Rattle.judge.specs.Refusals.{DrawError}
use Rattle.sheet.specs.declared.refusals.Unmade.TheVariants.{Refused, NoMemory}

-- the questions, in their order

-- has the working memory 1,020 words: a group of four for each of 255 states?
abbrev pub HasWords : List ℕ → Type 0
HasWords memory = 1020 ≤ length memory

-- do 255 states suffice?
abbrev pub StatesSuffice : Plan → Type 0
StatesSuffice plan = Suffices 255 (letters_of plan) (images_of (patterns_of plan)) (fitting (patterns_of plan))

-- the sheet is the one that is drawn for the plan
pub record DrawnFor (plan : Plan) (sheet : Sheet) : Type 0 where
  pub letters : (table_of sheet).letters ≡ letters_of plan
  pub shortest : (table_of sheet).shortest ≡ shortest (patterns_of plan)
  pub drawn : Drawn (letters_of plan) (images_of (patterns_of plan)) (fitting (patterns_of plan)) (length (table_of sheet).states) (automaton_of sheet)

-- a sheet of which P holds, unless memory for it is wanting
abbrev pub MadeUnlessMemory : (Sheet → Type 0) → Result Sheet DrawError → Type 0
MadeUnlessMemory P (Ok sheet) = P sheet
MadeUnlessMemory P (Err e) = e ≡ NoMemory

-- what is answered where the memory has its words
abbrev pub DrawnWith : Plan → Result Sheet DrawError → Type 0
DrawnWith plan (Ok sheet) = DrawnFor plan sheet
DrawnWith plan (Err (Refused Words)) = ⊥
DrawnWith plan (Err (Refused States)) = StatesSuffice plan → ⊥
DrawnWith plan (Err NoMemory) = StatesSuffice plan

-- the sheet is drawn where both questions are answered by yes, unless memory for its states is wanting; a refusal names the first
-- that is answered by no
abbrev pub DrawAnswers : Plan → List ℕ → Result Sheet DrawError → Type 0
DrawAnswers plan memory (Ok sheet) = HasWords memory × DrawnFor plan sheet
DrawAnswers plan memory (Err (Refused Words)) = HasWords memory → ⊥
DrawAnswers plan memory (Err (Refused States)) = HasWords memory × (StatesSuffice plan → ⊥)
DrawAnswers plan memory (Err NoMemory) = HasWords memory × StatesSuffice plan

-- what a call leaves: its answer, and the memory all zeros
pub record Draws (plan : Plan) (memory memory' : List ℕ) (given : Result Sheet DrawError) : Type 0 where
  pub answer : DrawAnswers plan memory given
  pub wiped : Wiped memory memory'
