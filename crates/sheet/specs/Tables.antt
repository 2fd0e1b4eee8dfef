-- What a sheet says: a table of states, each with its marks, its prefix mark and its arrows.
--   Entry, Table                      one state; all states, with the number of letters and the shortest length
--   Lawful                            what holds of every table that a sheet or a file stands for
--   blank, single                     a state without marks and arrows; the table of one such state
--   entry_at                          the entry of a state by its number; states are numbered from 1
--   arrow_from, marks_at, prefix_at   what the table answers about a state, also about one that does not exist
--   has_state, has_places             whether a state, an arrow's two states and its letter exist
--   grown, redirected                 the table with one state more; with one arrow set
use Rattle.std.specs.Prelude.{◌≡◌, ℕ, zero, suc, ◌^◌, ◌<◌, ◌≤◌, Bool, false, ◌&&◌, List, [], ◌∷◌, ◌++◌, length, replicate, Some, None, Option, nat_le, nat_lt, slice_index, slice_index_or, slice_set}
use Rattle.std.specs.List.{AllByRecursion}

pub record Entry : Type 0 where
  -- bit j is set where the words that lead here are images of pattern j (an accepting state)
  pub marks : ℕ
  -- the words that lead here are proper prefixes of images
  pub prefix : Bool
  -- for each letter the number of the state that it leads to, 0 for none
  pub arrows : List ℕ

pub record Table : Type 0 where
  pub letters : ℕ
  pub shortest : ℕ
  pub states : List Entry

-- the largest alphabet, and the most states
abbrev pub most_letters : ℕ
most_letters = 32

abbrev pub most_states : ℕ
most_states = 255

-- the marks take 32 bits, and there is one arrow for each letter, none past the last state
pub record LawfulEntry (letters states : ℕ) (e : Entry) : Type 0 where
  pub marks : e.marks < 2 ^ 32
  pub arrows : length e.arrows ≡ letters
  pub inside : AllByRecursion (λ a. a ≤ states) e.arrows

pub record Lawful (t : Table) : Type 0 where
  pub letters : (1 ≤ t.letters) × (t.letters ≤ most_letters)
  pub states : (1 ≤ length t.states) × (length t.states ≤ most_states)
  pub entries : AllByRecursion (LawfulEntry t.letters (length t.states)) t.states

-- ---- what a table answers

abbrev pub blank : Entry
blank = record { marks = 0; prefix = false; arrows = [] }

unfoldable pub entry_at : Table → ℕ → Entry
entry_at t zero = blank
entry_at t (suc i) = slice_index_or t.states i blank

-- an arrow as it stands in a table, where 0 is none
abbrev pub arrow_of : ℕ → Option ℕ
arrow_of zero = None
arrow_of (suc q) = Some (suc q)

abbrev pub arrow_from : Table → ℕ → ℕ → Option ℕ
arrow_from t q a = arrow_of (slice_index (entry_at t q).arrows a)

abbrev pub marks_at : Table → ℕ → ℕ
marks_at t q = (entry_at t q).marks

abbrev pub prefix_at : Table → ℕ → Bool
prefix_at t q = (entry_at t q).prefix

-- ---- tables that are made

-- a state without arrows
abbrev pub plain : ℕ → ℕ → Bool → Entry
plain letters marks prefix = record { marks = marks; prefix = prefix; arrows = replicate letters 0 }

abbrev pub single : ℕ → ℕ → Table
single letters shortest = record { letters = letters; shortest = shortest; states = plain letters 0 false ∷ [] }

abbrev pub grown : Table → ℕ → Bool → Table
grown t marks prefix = record { letters = t.letters; shortest = t.shortest; states = t.states ++ plain t.letters marks prefix ∷ [] }

abbrev pub pointed : Entry → ℕ → ℕ → Entry
pointed e a to = record { marks = e.marks; prefix = e.prefix; arrows = slice_set e.arrows a to }

-- the number is that of one of so many states
abbrev pub has_state : ℕ → ℕ → Bool
has_state count q = nat_le 1 q && nat_le q count

-- both states and the letter exist
abbrev pub has_places : Table → ℕ → ℕ → ℕ → Bool
has_places t from a to = has_state (length t.states) from && (has_state (length t.states) to && nat_lt a t.letters)

-- the arrow of the state `from` by the letter `a` leads to the state `to`
abbrev pub redirected : Table → ℕ → ℕ → ℕ → Table
redirected t zero a to = t
redirected t (suc i) a to =
    record { letters = t.letters; shortest = t.shortest; states = slice_set t.states i (pointed (slice_index_or t.states i blank) a to) }
