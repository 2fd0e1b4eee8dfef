-- The exploration, as a function: from the start node, in word order, up to a table of `capacity` entries.
use Rattle.std.specs.Prelude.{◌≡◌, ℕ, zero, suc, ◌+◌, ◌*◌, ◌<◌, ◌≤◌, Bool, true, false, cond, ◌||◌, ◌≢◌, List, [], ◌∷◌, ◌++◌, length, nat_lt, slice_index_or}
use Rattle.automaton.specs.Machines.{Outcome, dead, wrong, to, Machine}
use Rattle.exploration.specs.Stage.{Table}
use Rattle.exploration.specs.Verdicts.{AllFound, FirstFault, More}
use Rattle.exploration.specs.Links.{linked}
use Rattle.automaton.specs.Judging.{Node}

-- an entry: its node, and where it comes from
pub record Entry (N : Type 0) : Type 0 where
  pub node : N
  pub parent : ℕ
  pub letter : ℕ

-- what to explore, with a test of two nodes
pub record Task (N : Type 0) : Type 0 where
  pub machine : Machine N
  pub same : N → N → Bool
  pub letters : ℕ
  pub capacity : ℕ

-- the test tells, and there is room for the start
pub record Lawful {N : Type 0} (X : Task N) : Type 0 where
  pub tells_same : (x y : N) → X.same x y ≡ true → x ≡ y
  pub tells_other : (x y : N) → X.same x y ≡ false → x ≢ y
  pub room : 0 < X.capacity

-- the table so far, and the entry and the letter that come next
pub record Place (N : Type 0) : Type 0 where
  pub table : List (Entry N)
  pub row : ℕ
  pub column : ℕ

-- the table is complete; a text is faulty; a text leads to a node for which there is no room
pub data Verdict (N : Type 0) : Type 0 where
  complete : List (Entry N) → Verdict N
  fault : List (Entry N) → List ℕ → Verdict N
  overflow : List ℕ → Verdict N

pub data Turn (N : Type 0) : Type 0 where
  on : Place N → Turn N
  stop : Verdict N → Turn N

module _ {N : Type 0} (X : Task N) where
  abbrev pub first : Entry N
  first = record { node = X.machine.start; parent = 0; letter = 0 }

  -- the table as functions
  abbrev pub nodes : List (Entry N) → ℕ → N
  nodes t k = (slice_index_or t k first).node

  abbrev pub parents : List (Entry N) → ℕ → ℕ
  parents t k = (slice_index_or t k first).parent

  abbrev pub letters_of_entries : List (Entry N) → ℕ → ℕ
  letters_of_entries t k = (slice_index_or t k first).letter

  abbrev pub view : List (Entry N) → Table N
  view t = linked (nodes t) (parents t) (letters_of_entries t) (length t)

  abbrev pub holds : N → List (Entry N) → Bool
  holds n [] = false
  holds n (e ∷ t) = X.same e.node n || holds n t

  abbrev pub next : Place N → Place N
  next p = record { table = p.table; row = p.row; column = p.column + 1 }

  abbrev pub next_row : Place N → Place N
  next_row p = record { table = p.table; row = p.row + 1; column = 0 }

  abbrev pub next_new : Place N → N → Place N
  next_new p n = record { table = p.table ++ (record { node = n; parent = p.row; letter = p.column } ∷ []); row = p.row; column = p.column + 1 }

  -- the text that this place looks at
  abbrev pub here : Place N → List ℕ
  here p = p.column ∷ (view p.table).text p.row

  -- one turn: a letter of an entry, or the next entry, or the end
  abbrev pub settle : Place N → Outcome N → Turn N
  settle p dead = on (next p)
  settle p wrong = stop (fault p.table (here p))
  settle p (to n) = cond (holds n p.table) (on (next p)) (cond (nat_lt (length p.table) X.capacity) (on (next_new p n)) (stop (overflow (here p))))

  abbrev pub turn : Place N → Turn N
  turn p = cond (nat_lt p.row (length p.table))
      (cond (nat_lt p.column X.letters) (settle p (X.machine.step (nodes p.table p.row) p.column)) (on (next_row p)))
      (stop (complete p.table))

  abbrev pub again : (Place N → Turn N) → Turn N → Turn N
  again f (on p) = f p
  again f (stop v) = stop v

  -- at most `fuel` turns
  unfoldable pub explore : ℕ → Place N → Turn N
  explore zero p = on p
  explore (suc fuel) p = again (explore fuel) (turn p)

  abbrev pub begin : Place N
  begin = record { table = first ∷ []; row = 0; column = 0 }

  -- so many turns are enough
  abbrev pub enough : ℕ
  enough = X.capacity * (X.letters + 1) + X.letters + 1

  -- what a verdict says
  abbrev pub Right : Verdict N → Type 0
  Right (complete t) = AllFound X.letters X.machine (view t) × (length t ≤ X.capacity)
  Right (fault t w) = FirstFault X.letters X.machine (view t) w × (length t ≤ X.capacity)
  Right (overflow w) = More X.letters X.machine X.capacity w

-- the exploration ends, and its verdict is right
abbrev pub Explores : Type 0
Explores = (X : Task Node) → Lawful X → (v : Verdict Node) × (explore X (enough X) (begin X) ≡ stop v) × Right X v
