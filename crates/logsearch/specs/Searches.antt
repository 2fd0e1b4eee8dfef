-- Sessions in which a search has begun.
--   Begun   some history that keeps the law over this row of letters below K has led to the session, and its latest begin is not
--           closed yet; the promise of any list of calls held after each of its calls
--   left    how many hits of the full list next has not answered yet; none outside a search
use Rattle.std.specs.Prelude.{◌≡◌, ℕ, ◌-◌, true, List, length, Result}
use Rattle.pattern.specs.Images.{images_of}
use Rattle.pattern.specs.Rows.{full}
use Rattle.plan.specs.Views.{patterns_of}
use Rattle.reading.specs.declared.sessions.Session.{Session}
use Rattle.reading.specs.declared.sessions.Session.TheVariants.{Idle, Searching}
use Rattle.reading.specs.Cells.{letters_in}
use Rattle.reading.specs.Histories.{History, begun, Kept}
use Rattle.reading.specs.Promise.{Promise, AfterEach}
use Rattle.reading.specs.Sessions.{Agrees}

abbrev pub Begun : {T D : Type 0} → ℕ → List (Result ℕ D) → Session T → Type 0
Begun {T} {D} K row session = (h : History D) × Agrees K row h session × Kept K row h × AfterEach (Promise K row) h × (begun h ≡ true)

abbrev pub left : {T D : Type 0} → List (Result ℕ D) → Session T → ℕ
left row (Idle reading) = 0
left row (Searching search) = length (full (images_of (patterns_of search.reading.plan)) (letters_in row)) - search.hits
