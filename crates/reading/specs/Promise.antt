-- The promise: what a history that keeps the law shows, after each of its calls.
--   full_list   all hits, in their order, of the plan of the latest accepted admit before the latest begin
--   Promise     what is promised after a call
--   AfterEach   something holds of a history, and held after each of its calls
use Rattle.std.specs.Prelude.{◌≡◌, ℕ, ◌≤◌, ◌⊎◌, ◌↔◌, List, [], ◌∷◌, length, take, None, Ok, Err, vec_items, Option, Result}
use Rattle.pattern.specs.Images.{images_of}
use Rattle.pattern.specs.Rows.{full}
use Rattle.pattern.specs.Rows.{Hit as Place}
use Rattle.plan.specs.declared.Plan.{Plan}
use Rattle.plan.specs.Views.{letters_of}
use Rattle.sheet.specs.declared.Sheet.{Sheet}
use Rattle.sheet.specs.Views.{table_of}
use Rattle.judge.specs.Refusals.{DrawError}
use Rattle.sheet.specs.declared.refusals.Unmade.TheVariants.{NoMemory}
use Rattle.judge.specs.declared.refusals.JudgeRefusal.TheVariants.{Word}
use Rattle.judge.specs.Memory.{groups_in}
use Rattle.judge.specs.Judged.{Ready, HasRoom, PairsHeld, Faultless, ShowsWrong}
use Rattle.judge.specs.Drawings.{HasWords, StatesSuffice, DrawnFor}
use Rattle.reading.specs.declared.hits.Hit.{Hit}
use Rattle.reading.specs.declared.hits.Report.{Report as Account}
use Rattle.reading.specs.declared.refusals.AdmitRefusal.{AdmitRefusal}
use Rattle.reading.specs.declared.refusals.AdmitRefusal.TheVariants.{Sheet as AboutSheet}
use Rattle.reading.specs.declared.calls.Call.TheVariants.{Draw, Admit, Next, Report}
use Rattle.reading.specs.declared.calls.Answer.TheVariants.{Drawn, Judged, Found, Told}
use Rattle.reading.specs.Cells.{letters_in}
use Rattle.reading.specs.Hits.{hits_in}
use Rattle.reading.specs.Histories.{History, Buffer, searched, answers, Kept, history_after}
use Rattle.reading.specs.declared.calls.Call.{Call}
use Rattle.reading.specs.declared.calls.Answer.{Answer}

abbrev pub full_list : {D : Type 0} → ℕ → List (Result ℕ D) → History D → List Place
full_list K row h = full (images_of (searched K h).plan) (letters_in row)

-- what an admission is asked, what it is lent and what comes back
pub record Admission : Type 0 where
  pub plan : Plan
  pub sheet : Sheet
  pub memory : Buffer
  pub word : Buffer
  pub verdict : Result (Unit {0}) AdmitRefusal
  pub memory' : Buffer
  pub word' : Buffer

-- the admission is the latest call
abbrev pub Admits : {D : Type 0} → History D → Admission → History D → Type 0
Admits h a before = h ≡ (Admit a.plan a.sheet a.memory a.word, Judged a.verdict a.memory' a.word') ∷ before

pub record Promise {D : Type 0} (K : ℕ) (row : List (Result ℕ D)) (h : History D) : Type 0 where
  -- since the latest begin, next has answered the first hits of the full list
  pub first : hits_in (answers h) ≡ take (length (hits_in (answers h))) (full_list K row h)
  -- next answers the end exactly when none of that list is left
  pub ends : (x : Option Hit) (before : History D) → h ≡ (Next, Found x) ∷ before → (x ≡ None) ↔ (hits_in (answers before) ≡ full_list K row before)
  -- report answers their number
  pub counts : (r : Account) (before : History D) → h ≡ (Report, Told r) ∷ before → r.hits ≡ length (hits_in (answers before))
  -- where the plan has the trace's letters, and the sheet the plan's letters and shortest length, and there is room: a sheet is
  -- accepted exactly when no word is wrong and the memory holds its pairs
  pub accepts : (a : Admission) (before : History D) → Admits h a before → letters_of a.plan ≡ K → Ready a.plan a.sheet (vec_items a.memory) (vec_items a.word) → (a.verdict ≡ Ok tt) ↔ (Faultless a.plan a.sheet × PairsHeld a.plan a.sheet (vec_items a.memory))
  -- a sheet that is refused as wrong comes with the first wrong word
  pub refuses : (a : Admission) (before : History D) → Admits h a before → (size : ℕ) → a.verdict ≡ Err (AboutSheet (Word size)) → ShowsWrong a.plan a.sheet (vec_items a.word) (vec_items a.word') size
  -- where there is a group of words for each of 255 states, and 255 states suffice, draw answers the sheet of the plan, unless memory
  -- for its states is wanting
  pub draws : (plan : Plan) (m m' : Buffer) (x : Result Sheet DrawError) (before : History D) → h ≡ (Draw plan m, Drawn x m') ∷ before → HasWords (vec_items m) → StatesSuffice plan → (x ≡ Err NoMemory) ⊎ ((sheet : Sheet) × (x ≡ Ok sheet) × DrawnFor plan sheet)
  -- and that sheet is accepted with that plan, where the plan has the trace's letters, there is room, and there is a group of words
  -- for each of its states
  pub drawn : (a : Admission) (before : History D) → Admits h a before → DrawnFor a.plan a.sheet → letters_of a.plan ≡ K → HasRoom (vec_items a.memory) (vec_items a.word) → length (table_of a.sheet).states ≤ groups_in (vec_items a.memory) → a.verdict ≡ Ok tt

abbrev pub AfterEach : {D : Type 0} → (History D → Type 0) → History D → Type 0
AfterEach P [] = P []
AfterEach P (e ∷ before) = P (e ∷ before) × AfterEach P before

-- every call was answered, the law was kept, and the promise holds after each call
pub record Performed {D : Type 0} (K : ℕ) (row : List (Result ℕ D)) (calls : List Call) (given : List (Answer D)) : Type 0 where
  pub all : length given ≡ length calls
  pub kept : Kept K row (history_after [] calls given)
  pub promise : AfterEach (Promise K row) (history_after [] calls given)
