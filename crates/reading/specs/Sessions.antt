-- That a session has come about by a history.
--   trace_of      what is read
--   Rests, Runs   outside a search; inside one
--   Agrees        the session has come about by the history
--   Promised      whatever history the session before the call has come about by, the answer is due after it, and the session
--                 after the call has come about by the longer history
--   Made          a call was made: what is read is the same, and what is promised of the call holds
--   Continues     the same for a list of calls
use Rattle.std.specs.Prelude.{◌≡◌, ℕ, Bool, true, false, List, ◌∷◌, Option, Result}
use Rattle.pattern.specs.Rows.{Hit as Place}
use Rattle.plan.specs.Views.{letters_of}
use Rattle.reading.specs.declared.calls.Call.{Call}
use Rattle.reading.specs.declared.calls.Answer.{Answer}
use Rattle.reading.specs.declared.states.Reading.{Reading}
use Rattle.reading.specs.declared.states.Search.{Search}
use Rattle.reading.specs.declared.sessions.Session.{Session}
use Rattle.reading.specs.declared.sessions.Session.TheVariants.{Idle, Searching}
use Rattle.reading.specs.Standing.{Standing}
use Rattle.reading.specs.Histories.{History, Order, order, begun, admitted, searched, answers, Due, Kept, history_after}

abbrev pub trace_of : {T : Type 0} → Session T → T
trace_of (Idle r) = r.trace
trace_of (Searching s) = s.reading.trace

pub record Rests {T : Type 0} (K : ℕ) (is_begun : Bool) (last : Order) (r : Reading T) : Type 0 where
  pub shut : is_begun ≡ false
  pub holds : last ≡ order r.plan r.sheet
  pub lettered : letters_of r.plan ≡ K

pub record Runs {T D : Type 0} (K : ℕ) (row : List (Result ℕ D)) (is_begun : Bool) (last used : Order) (told : List (Option Place)) (s : Search T) : Type 0 where
  pub opened : is_begun ≡ true
  pub holds : last ≡ order s.reading.plan s.reading.sheet
  pub uses : used ≡ order s.reading.plan s.reading.sheet
  pub stands : Standing K row told s

abbrev pub Agrees : {T D : Type 0} → ℕ → List (Result ℕ D) → History D → Session T → Type 0
Agrees K row before (Idle r) = Rests K (begun before) (admitted K before) r
Agrees K row before (Searching s) = Runs K row (begun before) (admitted K before) (searched K before) (answers before) s

abbrev pub Promised : {T D : Type 0} → ℕ → List (Result ℕ D) → Session T → Call → Answer D → Session T → Type 0
Promised {T} {D} K row session c a after = (h : History D) → Agrees K row h session → Due K row h c a × Agrees K row ((c, a) ∷ h) after

-- what a call comes to, in a session over a trace of K letters with this row: the session after it, and its answer
pub record Made {T D : Type 0} (K : ℕ) (row : T → List (Result ℕ D)) (session : Session T) (c : Call) (x : Session T × Answer D) : Type 0 where
  pub kept : trace_of x.0 ≡ trace_of session
  pub law : Promised K (row (trace_of session)) session c x.1 x.0

pub record Continued {T D : Type 0} (K : ℕ) (row : List (Result ℕ D)) (before : History D) (calls : List Call) (given : List (Answer D)) (after : Session T) : Type 0 where
  pub kept : Kept K row before → Kept K row (history_after before calls given)
  pub stands : Agrees K row (history_after before calls given) after

abbrev pub Continues : {T D : Type 0} → ℕ → List (Result ℕ D) → Session T → List Call → List (Answer D) → Session T → Type 0
Continues {T} {D} K row session calls given after = (h : History D) → Agrees K row h session → Continued K row h calls given after
