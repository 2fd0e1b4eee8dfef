-- The law over histories: what each call answers, in terms of the calls before it and their answers alone.
--   Event, History       a call that was made, with its answer; all since the reading was set up, the latest first
--   Order, blank         a plan with a sheet; those that a reading over K letters is set up with
--   begun                the latest begin is not closed yet
--   admitted, searched   the plan and the sheet of the latest accepted admit; of the latest one before the latest begin
--   answers              what next has answered since the latest begin, the latest first
--   in_turn              admit only outside a begun search; next, report and close only inside one; the others in either
--   Verdict              what an admit answers and leaves in its buffers; a sheet that is drawn for the plan is accepted
--   Follows              next answers the hit of the full list that follows those answered since begin, and the end where there is none
--   Accounts             a report: the hits, the fetches and the first damaged cell of the search's steps, and that the fetches are few
--   Due, Kept            what an event has to be after those before it; the law: each event of the history is due
--   history_after        the history of calls that were made in this order, with their answers, after the events before them
use Rattle.std.specs.Prelude.{◌≡◌, ℕ, ◌≤◌, Bool, true, false, not, List, [], ◌∷◌, length, Ok, Err, vec_items, Option, Result, Vec}
use Rattle.std.specs.List.{slice_get}
use Rattle.std.specs.declared.alloc.Global.{Global}
use Rattle.pattern.specs.Patterns.{shortest}
use Rattle.pattern.specs.Images.{images_of}
use Rattle.pattern.specs.Rows.{full}
use Rattle.pattern.specs.Rows.{Hit as Place}
use Rattle.automaton.specs.Automata.{Automaton}
use Rattle.automaton.specs.Search.{Conf}
use Rattle.plan.specs.declared.Plan.{Plan}
use Rattle.plan.specs.Views.{letters_of, patterns_of}
use Rattle.sheet.specs.declared.Sheet.{Sheet}
use Rattle.sheet.specs.Tables.{single}
use Rattle.sheet.specs.Views.{automaton_in, table_of, automaton_of}
use Rattle.judge.specs.Refusals.{DrawError}
use Rattle.judge.specs.Memory.{Wiped, groups_in}
use Rattle.judge.specs.Judged.{HasRoom}
use Rattle.judge.specs.Drawings.{DrawnFor, Draws}
use Rattle.reading.specs.declared.hits.Hit.{Hit}
use Rattle.reading.specs.declared.hits.Report.{Report as Account}
use Rattle.reading.specs.declared.refusals.AdmitRefusal.{AdmitRefusal}
use Rattle.reading.specs.declared.calls.Call.{Call}
use Rattle.reading.specs.declared.calls.Call.TheVariants.{Draw, Admit, Inspect, Begin, Next, Report, Close}
use Rattle.reading.specs.declared.calls.Answer.{Answer}
use Rattle.reading.specs.declared.calls.Answer.TheVariants.{Drawn, Judged, Cell, Begun, Found, Told, Closed, OutOfTurn}
use Rattle.reading.specs.Cells.{letters_in, inspected}
use Rattle.reading.specs.Hits.{placed, hits_in}
use Rattle.reading.specs.Standing.{Reached, Thrifty}
use Rattle.reading.specs.Admission.{Admitted}

abbrev pub Event : Type 0 → Type 0
Event D = Call × Answer D

abbrev pub History : Type 0 → Type 0
History D = List (Event D)

pub record Order : Type 0 where
  pub plan : List (List ℕ)
  pub sheet : Automaton

abbrev pub order : Plan → Sheet → Order
order plan sheet = record { plan = patterns_of plan; sheet = automaton_of sheet }

-- the plan without patterns, and a sheet of one state without arrows
abbrev pub blank : ℕ → Order
blank K = record { plan = []; sheet = automaton_in (single K 0) }

abbrev pub begun : {D : Type 0} → History D → Bool
begun [] = false
begun ((c, Drawn sheet m) ∷ before) = begun before
begun ((c, Judged v m w) ∷ before) = begun before
begun ((c, Cell x) ∷ before) = begun before
begun ((c, Begun) ∷ before) = true
begun ((c, Found x) ∷ before) = begun before
begun ((c, Told r) ∷ before) = begun before
begun ((c, Closed) ∷ before) = false
begun ((c, OutOfTurn d) ∷ before) = begun before

-- after an accepted call
abbrev pub ordered : Call → Order → Order
ordered (Draw plan m) by = by
ordered (Admit plan sheet m w) by = order plan sheet
ordered (Inspect i) by = by
ordered Begin by = by
ordered Next by = by
ordered Report by = by
ordered Close by = by

abbrev pub admitted : {D : Type 0} → ℕ → History D → Order
admitted K [] = blank K
admitted K ((c, Drawn sheet m) ∷ before) = admitted K before
admitted K ((c, Judged (Ok u) m w) ∷ before) = ordered c (admitted K before)
admitted K ((c, Judged (Err refusal) m w) ∷ before) = admitted K before
admitted K ((c, Cell x) ∷ before) = admitted K before
admitted K ((c, Begun) ∷ before) = admitted K before
admitted K ((c, Found x) ∷ before) = admitted K before
admitted K ((c, Told r) ∷ before) = admitted K before
admitted K ((c, Closed) ∷ before) = admitted K before
admitted K ((c, OutOfTurn d) ∷ before) = admitted K before

abbrev pub searched : {D : Type 0} → ℕ → History D → Order
searched K [] = blank K
searched K ((c, Drawn sheet m) ∷ before) = searched K before
searched K ((c, Judged v m w) ∷ before) = searched K before
searched K ((c, Cell x) ∷ before) = searched K before
searched K ((c, Begun) ∷ before) = admitted K before
searched K ((c, Found x) ∷ before) = searched K before
searched K ((c, Told r) ∷ before) = searched K before
searched K ((c, Closed) ∷ before) = searched K before
searched K ((c, OutOfTurn d) ∷ before) = searched K before

abbrev pub answers : {D : Type 0} → History D → List (Option Place)
answers [] = []
answers ((c, Drawn sheet m) ∷ before) = answers before
answers ((c, Judged v m w) ∷ before) = answers before
answers ((c, Cell x) ∷ before) = answers before
answers ((c, Begun) ∷ before) = []
answers ((c, Found x) ∷ before) = placed x ∷ answers before
answers ((c, Told r) ∷ before) = answers before
answers ((c, Closed) ∷ before) = answers before
answers ((c, OutOfTurn d) ∷ before) = answers before

abbrev pub in_turn : Bool → Call → Bool
in_turn begun (Draw plan m) = true
in_turn begun (Admit plan sheet m w) = not begun
in_turn begun (Inspect i) = true
in_turn begun Begin = true
in_turn begun Next = begun
in_turn begun Report = begun
in_turn begun Close = begun

-- the buffers that calls are lent, and that come back with their answers
abbrev pub Buffer : Type 0
Buffer = Vec ℕ Global

pub record Verdict (K : ℕ) (plan : Plan) (sheet : Sheet) (memory word memory' word' : List ℕ) (answer : Result (Unit {0}) AdmitRefusal) : Type 0 where
  pub due : Admitted K plan sheet memory word word' answer
  pub wiped : Wiped memory memory'
  -- with the trace's letters, room, and memory for as many pairs as it has states
  pub drawn : DrawnFor plan sheet → letters_of plan ≡ K → HasRoom memory word → length (table_of sheet).states ≤ groups_in memory → answer ≡ Ok tt

abbrev pub Follows : Order → List (Option ℕ) → List (Option Place) → Option Hit → Type 0
Follows by row before x = placed x ≡ slice_get (full (images_of by.plan) row) (length (hits_in before))

pub record Accounts (by : Order) (row : List (Option ℕ)) (before : List (Option Place)) (r : Account) : Type 0 where
  pub counted : r.hits ≡ length (hits_in before)
  pub at : Conf
  pub reached : Reached by.sheet (shortest by.plan) row before at
  pub fetched : r.fetches ≡ at.fetches
  pub damaged : r.damaged ≡ at.damaged
  pub thrift : Thrifty (length row) by.plan r.fetches

-- the answer is of a kind, and what it holds is as it should be
pub record Of {D X : Type 0} (kind : X → Answer D) (Should : X → Type 0) (a : Answer D) : Type 0 where
  pub held : X
  pub is : a ≡ kind held
  pub due : Should held

-- what a call answers in its turn, over a row of letters below K
abbrev pub DueInTurn : {D : Type 0} → ℕ → List (Result ℕ D) → History D → Call → Answer D → Type 0
DueInTurn K row before (Draw plan m) = Of (λ (x : Result Sheet DrawError × Buffer). Drawn x.0 x.1) (λ (x : Result Sheet DrawError × Buffer). Draws plan (vec_items m) (vec_items x.1) x.0)
DueInTurn K row before (Admit plan sheet m w) = Of (λ (x : Result (Unit {0}) AdmitRefusal × Buffer × Buffer). Judged x.0 x.1 x.2) (λ (x : Result (Unit {0}) AdmitRefusal × Buffer × Buffer). Verdict K plan sheet (vec_items m) (vec_items w) (vec_items x.1) (vec_items x.2) x.0)
DueInTurn K row before (Inspect i) = λ a. a ≡ Cell (inspected row i)
DueInTurn K row before Begin = λ a. a ≡ Begun
DueInTurn K row before Next = Of Found (Follows (searched K before) (letters_in row) (answers before))
DueInTurn K row before Report = Of Told (Accounts (searched K before) (letters_in row) (answers before))
DueInTurn K row before Close = λ a. a ≡ Closed

abbrev pub DueIf : {D : Type 0} → Bool → ℕ → List (Result ℕ D) → History D → Call → Answer D → Type 0
DueIf true K row before c a = DueInTurn K row before c a
DueIf false K row before c a = a ≡ OutOfTurn c

abbrev pub Due : {D : Type 0} → ℕ → List (Result ℕ D) → History D → Call → Answer D → Type 0
Due K row before c a = DueIf (in_turn (begun before) c) K row before c a

abbrev pub Kept : {D : Type 0} → ℕ → List (Result ℕ D) → History D → Type 0
Kept K row [] = Unit {0}
Kept K row ((c, a) ∷ before) = Due K row before c a × Kept K row before

abbrev pub history_after : {D : Type 0} → History D → List Call → List (Answer D) → History D
history_after before [] answers = before
history_after before (c ∷ calls) [] = before
history_after before (c ∷ calls) (a ∷ answers) = history_after ((c, a) ∷ before) calls answers
