-- The search, step by step: one tick on a configuration, `next` as ticks up to a hit, and the theorem that it answers the full list.
use Rattle.std.specs.Prelude.{◌≡◌, ℕ, zero, suc, ◌+◌, ◌-◌, ◌*◌, ◌<◌, ◌≤◌, min, max, Bool, true, false, cond, ◌&&◌, List, [], ◌∷◌, ◌++◌, length, drop, Some, None, Option, nat_le, nat_lt}
use Rattle.std.specs.List.{slice_get}
use Rattle.pattern.specs.Patterns.{shortest, longest}
use Rattle.pattern.specs.Images.{Images, Each, images_of}
use Rattle.pattern.specs.Rows.{cell, text, Hit, Lettered, end_hits, later_hits, full, FullList}
use Rattle.pattern.specs.Laws.{Wellformed}
use Rattle.automaton.specs.Automata.{Automaton, led}
use Rattle.automaton.specs.Wrong.{NoWrong}

-- ---- the steps

-- where the search is: reading back from the place p, o cells were read and led to the state q; c of them were the longest
-- proper prefix seen; the fetches so far, and the first damaged cell among them, if any
pub record Conf : Type 0 where
  pub p : ℕ
  pub o : ℕ
  pub q : ℕ
  pub c : ℕ
  pub fetches : ℕ
  pub damaged : Option ℕ

-- a tick comes to the end, goes on, or finds a hit and goes on after it
pub data Step : Type 0 where
  Ended : Step
  Going : Conf → Step
  Found : Hit → Conf → Step

-- where a search begins; the shortest length is the least number of cells that a hit has
abbrev pub start : ℕ → Conf
start least = record { p = least - 1; o = 0; q = 1; c = 0; fetches = 0; damaged = None }

-- the reading at p has stopped: the jump, after f fetches, the first damaged cell among them d
abbrev pub jumped : ℕ → Conf → ℕ → Option ℕ → Conf
jumped least k f d = record { p = k.p + max 1 (least - k.c); o = 0; q = 1; c = 0; fetches = f; damaged = d }

-- one letter more was read, and led to the state q
abbrev pub stepped : Automaton → Conf → ℕ → Option ℕ → ℕ → Conf
stepped sheet k f d q = record { p = k.p; o = suc k.o; q = q; c = cond (sheet.prefix q) (suc k.o) k.c; fetches = f; damaged = d }

-- where the state has marks, they are told
abbrev pub told : Conf → ℕ → Step
told k zero = Going k
told k (suc m) = Found (record { start = suc k.p - k.o; end = k.p; marks = suc m }) k

-- the state that the reading goes on to: None where the row's front was passed, the cell is damaged or there is no arrow
abbrev pub arrow_at : Automaton → ℕ → Option ℕ → Option ℕ
arrow_at sheet q None = None
arrow_at sheet q (Some a) = sheet.arrow q a

abbrev pub following_if : Automaton → List (Option ℕ) → Conf → Bool → Option ℕ
following_if sheet row k false = None
following_if sheet row k true = arrow_at sheet k.q (cell row (k.p - k.o))

unfoldable pub following : Automaton → List (Option ℕ) → Conf → Option ℕ
following sheet row k = following_if sheet row k (nat_le k.o k.p)

-- the fetches after this tick: a cell is fetched unless the row's front was passed
abbrev pub counted : Conf → ℕ
counted k = cond (nat_le k.o k.p) (suc k.fetches) k.fetches

-- the first damaged cell, after one more at the place i is fetched and holds x
abbrev pub first_damaged : Option ℕ → ℕ → Option ℕ → Option ℕ
first_damaged (Some d) i x = Some d
first_damaged None i None = Some i
first_damaged None i (Some a) = None

-- the first damaged cell after this tick
abbrev pub noticed : List (Option ℕ) → Conf → Option ℕ
noticed row k = cond (nat_le k.o k.p) (first_damaged k.damaged (k.p - k.o) (cell row (k.p - k.o))) k.damaged

-- the arrow was followed, or there was none
abbrev pub went : Automaton → ℕ → Conf → ℕ → Option ℕ → Option ℕ → Step
went sheet least k f d None = Going (jumped least k f d)
went sheet least k f d (Some q) = told (stepped sheet k f d q) (sheet.marks q)

-- at the end, or before it
abbrev pub within : Automaton → ℕ → List (Option ℕ) → Conf → Bool → Step
within sheet least row k false = Ended
within sheet least row k true = went sheet least k (counted k) (noticed row k) (following sheet row k)

-- one step: the end where there are no patterns (the shortest length is 0) or p is past the row; else one cell more is read
unfoldable pub tick : Automaton → ℕ → List (Option ℕ) → Conf → Step
tick sheet least row k = within sheet least row k (nat_lt 0 least && nat_lt k.p (length row))

-- at most n ticks: their hits, and where the search is then
abbrev pub ticked : Conf → (Conf → List Hit × Conf) → Step → List Hit × Conf
ticked k rest Ended = ([], k)
ticked k rest (Going k') = rest k'
ticked k rest (Found h k') = let r : List Hit × Conf = rest k' in (h ∷ r.0, r.1)

unfoldable pub ticks : Automaton → ℕ → List (Option ℕ) → ℕ → Conf → List Hit × Conf
ticks sheet least row zero k = ([], k)
ticks sheet least row (suc n) k = ticked k (λ k'. ticks sheet least row n k') (tick sheet least row k)

-- `next` from k: ticks until a hit, or the end
pub data Next (sheet : Automaton) (least : ℕ) (row : List (Option ℕ)) : Conf → Option Hit → Conf → Type 0 where
  ends : {k : Conf} → tick sheet least row k ≡ Ended → Next sheet least row k None k
  finds : {k k' : Conf} {h : Hit} → tick sheet least row k ≡ Found h k' → Next sheet least row k (Some h) k'
  goes : {k k₁ k' : Conf} {a : Option Hit} → tick sheet least row k ≡ Going k₁ → Next sheet least row k₁ a k' → Next sheet least row k a k'

-- the n-th `next` from k, counted from 0, answers a, and leaves k'
pub data Nth (sheet : Automaton) (least : ℕ) (row : List (Option ℕ)) : ℕ → Conf → Option Hit → Conf → Type 0 where
  first : {k k' : Conf} {a : Option Hit} → Next sheet least row k a k' → Nth sheet least row zero k a k'
  later : {n : ℕ} {k k₁ k' : Conf} {a b : Option Hit} → Next sheet least row k b k₁ → Nth sheet least row n k₁ a k' → Nth sheet least row (suc n) k a k'

-- ---- what the proofs keep

-- the hits that are left where o cells were read back from p, with k ends from p on
unfoldable pub pending_in : Images → List (Option ℕ) → ℕ → ℕ → ℕ → List Hit
pending_in images row p o zero = []
pending_in images row p o (suc k) = end_hits images row p (suc p - o) o ++ later_hits images row (suc p) k

abbrev pub pending : Images → List (Option ℕ) → ℕ → ℕ → List Hit
pending images row p o = pending_in images row p o (length row - p)

-- what holds of every configuration that the search comes to: the last o cells up to p were read, they led to q, and no
-- front of an image longer than c was among the texts read
pub record Reading (images : Images) (sheet : Automaton) (row : List (Option ℕ)) (k : Conf) : Type 0 where
  pub t : List ℕ
  pub fits : k.o ≤ suc k.p
  pub read : text row (suc k.p - k.o) k.o ≡ Some t
  pub leads : led sheet t ≡ Some k.q
  pub free : (n : ℕ) (u : List ℕ) → k.c < n → n ≤ k.o → text row (suc k.p - n) n ≡ Some u → images.Proper u → ⊥

-- how many cells may still be looked at: it falls with each tick
abbrev pub left : List (Option ℕ) → Conf → ℕ
left row k = (length row - k.p) * suc (suc (length row)) - k.o

-- the configuration after the step has less than n left
abbrev pub Falls : List (Option ℕ) → ℕ → Step → Type 0
Falls row n Ended = Unit {0}
Falls row n (Going k) = left row k < n
Falls row n (Found h k) = left row k < n

-- what a tick means for what is pending
abbrev pub Meets : Images → Automaton → List (Option ℕ) → Conf → Step → Type 0
Meets images sheet row k Ended = pending images row k.p k.o ≡ []
Meets images sheet row k (Going k') = Reading images sheet row k' × (pending images row k.p k.o ≡ pending images row k'.p k'.o)
Meets images sheet row k (Found h k') = Reading images sheet row k' × (pending images row k.p k.o ≡ h ∷ pending images row k'.p k'.o)

-- an answer takes the first of what is pending, and is the end where nothing is
abbrev pub Takes : List Hit → Option Hit → List Hit → Type 0
Takes hs None hs' = (hs ≡ []) × (hs' ≡ [])
Takes hs (Some h) hs' = hs ≡ h ∷ hs'

-- what the fetches so far come to, where reading back from one place fetches at most `each`
pub record Thrift (images : Images) (each : ℕ) (row : List (Option ℕ)) (k : Conf) : Type 0 where
  pub above : images.shortest - 1 ≤ k.p
  pub spent : k.fetches ≤ (min k.p (length row) - (images.shortest - 1)) * each + k.o
  pub rested : length row ≤ k.p → k.o ≡ 0

abbrev pub Thrifty : Images → ℕ → List (Option ℕ) → Step → Type 0
Thrifty images each row Ended = Unit {0}
Thrifty images each row (Going k) = Thrift images each row k
Thrifty images each row (Found h k) = Thrift images each row k

-- ---- the theorem

-- the search is complete, for a sheet and a row
pub record Complete (images : Images) (sheet : Automaton) (row : List (Option ℕ)) : Type 0 where
  -- the full list is what it is called
  pub listed : FullList images row
  -- from wherever the search is, `next` takes the first of what is pending
  pub begins : Reading images sheet row (start images.shortest)
  pub begun : pending images row (images.shortest - 1) 0 ≡ full images row
  pub resumes : (k k' : Conf) (a : Option Hit) → Reading images sheet row k → Next sheet images.shortest row k a k' → Reading images sheet row k' × Takes (pending images row k.p k.o) a (pending images row k'.p k'.o)
  -- every call of `next` comes to an end
  pub answered : (n : ℕ) → (a : Option Hit) × (k : Conf) × Nth sheet images.shortest row n (start images.shortest) a k
  -- the n-th answer is the n-th hit of the full list, and the end where there is none
  pub answers : (n : ℕ) (a : Option Hit) (k : Conf) → Nth sheet images.shortest row n (start images.shortest) a k → a ≡ slice_get (full images row) n
  -- and what is pending then is what follows in the full list
  pub leaves : (n : ℕ) (a : Option Hit) (k : Conf) → Nth sheet images.shortest row n (start images.shortest) a k → pending images row k.p k.o ≡ drop (suc n) (full images row)
  -- the fetches
  pub fetches : (each : ℕ) → Each images (length row) each → (n : ℕ) (a : Option Hit) (k : Conf) → Nth sheet images.shortest row n (start images.shortest) a k → k.fetches ≤ (length row - (images.shortest - 1)) * each
  -- enough ticks find exactly the full list
  pub found : (n : ℕ) → left row (start images.shortest) < n → (ticks sheet images.shortest row n (start images.shortest)).0 ≡ full images row

-- a sheet with no wrong word makes the search complete, and the fetches are bounded by the places and the longest pattern (the
-- proof has it of any lawful images)
pub record SearchIsComplete : Type 0 where
  -- `next` has one answer
  pub single : (sheet : Automaton) (least : ℕ) (row : List (Option ℕ)) (k k' k'' : Conf) (a b : Option Hit) → Next sheet least row k a k' → Next sheet least row k b k'' → (a ≡ b) × (k' ≡ k'')
  pub complete : (K : ℕ) (plan : List (List ℕ)) (sheet : Automaton) (row : List (Option ℕ)) → Wellformed plan → NoWrong K (images_of plan) sheet → Lettered K row → Complete (images_of plan) sheet row
  pub fetches : (K : ℕ) (plan : List (List ℕ)) (sheet : Automaton) (row : List (Option ℕ)) → Wellformed plan → NoWrong K (images_of plan) sheet → Lettered K row
      → 0 < length plan → shortest plan ≤ length row → (n : ℕ) (a : Option Hit) (k : Conf) → Nth sheet (shortest plan) row n (start (shortest plan)) a k → k.fetches ≤ (length row - shortest plan + 1) * (longest plan + 1)
