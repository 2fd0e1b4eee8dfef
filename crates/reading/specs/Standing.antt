-- What ties a search to the row that it searches.
--   Reached    where the search is after some answers of `next`, given latest first
--   Standing   a search has come about by a begin and these answers of `next`
--   Stands     the same, with the row of the trace that the search reads
--   Begins     a search was just begun in this reading
--   Steps      what `next` answers, by the steps of a search, and where the search is then
--   hit_after  the hit of the full list that follows those that the search has answered
--   Thrifty    how few cells are fetched, where the plan has lines and the row is not too short
--   Fresh      a reading that was just set up
use Rattle.std.specs.Prelude.{◌≡◌, ℕ, ◌+◌, ◌-◌, ◌*◌, ◌<◌, ◌≤◌, List, [], ◌∷◌, length, Ok, Err, Option, Result}
use Rattle.std.specs.List.{slice_get}
use Rattle.pattern.specs.Patterns.{shortest, longest}
use Rattle.pattern.specs.Images.{images_of}
use Rattle.pattern.specs.Rows.{full}
use Rattle.pattern.specs.Rows.{Hit as Place}
use Rattle.automaton.specs.Automata.{Automaton}
use Rattle.automaton.specs.Search.{Conf, start, Next}
use Rattle.plan.specs.Views.{letters_of, patterns_of}
use Rattle.sheet.specs.Views.{table_of, automaton_of}
use Rattle.sheet.specs.Tables.{single}
use Rattle.reading.specs.declared.hits.Hit.{Hit}
use Rattle.reading.specs.declared.states.Reading.{Reading}
use Rattle.reading.specs.declared.states.Search.{Search}
use Rattle.reading.specs.Cells.{letters_in}
use Rattle.reading.specs.Hits.{placed, hits_in}
use Rattle.reading.specs.Spots.{conf_of}

pub data Reached (sheet : Automaton) (least : ℕ) (row : List (Option ℕ)) : List (Option Place) → Conf → Type 0 where
  begun : Reached sheet least row [] (start least)
  asked : {answers : List (Option Place)} {a : Option Place} {k k' : Conf} → Reached sheet least row answers k → Next sheet least row k a k' → Reached sheet least row (a ∷ answers) k'

-- the plan is over the trace's K letters, the search is where the answers lead, and it has counted the hits among them
pub record Standing {T D : Type 0} (K : ℕ) (row : List (Result ℕ D)) (answers : List (Option Place)) (s : Search T) : Type 0 where
  pub lettered : letters_of s.reading.plan ≡ K
  pub reached : Reached (automaton_of s.reading.sheet) (shortest (patterns_of s.reading.plan)) (letters_in row) answers (conf_of s.at)
  pub counted : s.hits ≡ length (hits_in answers)

-- here and below, the row is that which the search's trace shows
abbrev pub Stands : {T D : Type 0} → ℕ → (T → List (Result ℕ D)) → List (Option Place) → Search T → Type 0
Stands K row answers s = Standing K (row s.reading.trace) answers s

pub record Begins {T D : Type 0} (K : ℕ) (row : T → List (Result ℕ D)) (r : Reading T) (s : Search T) : Type 0 where
  pub held : s.reading ≡ r
  pub at : conf_of s.at ≡ start (shortest (patterns_of r.plan))
  pub none : s.hits ≡ 0
  pub standing : letters_of r.plan ≡ K → Stands K row [] s

abbrev pub Steps : {T D : Type 0} → (T → List (Result ℕ D)) → Search T → Option Hit → Search T → Type 0
Steps row before found after = Next (automaton_of before.reading.sheet) (shortest (patterns_of before.reading.plan)) (letters_in (row before.reading.trace)) (conf_of before.at) (placed found) (conf_of after.at)

abbrev pub hit_after : {T D : Type 0} → (T → List (Result ℕ D)) → Search T → Option Place
hit_after row s = slice_get (full (images_of (patterns_of s.reading.plan)) (letters_in (row s.reading.trace))) s.hits

abbrev pub Thrifty : ℕ → List (List ℕ) → ℕ → Type 0
Thrifty cells plan fetches = 0 < length plan → shortest plan ≤ cells → fetches ≤ (cells - shortest plan + 1) * (longest plan + 1)

-- over this trace of K letters, with the plan without patterns and the sheet of one state without arrows; or memory was wanting
abbrev pub Fresh : {T E : Type 0} → ℕ → T → Result (Reading T) E → Type 0
Fresh K trace (Ok r) = (r.trace ≡ trace) × (letters_of r.plan ≡ K) × (patterns_of r.plan ≡ []) × (table_of r.sheet ≡ single K 0)
Fresh K trace (Err e) = Unit {0}
