-- States that a sheet may hold: the four facts about each as one, and how they last as states are added and changed.
use Rattle.std.proofs.Common.{◌≡◌, ℕ, zero, suc, ◌+◌, ◌^◌, ◌<◌, ◌≤◌, Bool, true, false, cond, List, [], ◌∷◌, ◌++◌, map, length, get_or, take, set, replicate, Ok, vec_items, vec_len, sym, refl, ap, ◌∙◌, subst, ⊎_elim, arith}
use Rattle.std.proofs.lemmas.List.{length-take-le, get_or-replicate, get_or_default, get_or-map, get_or-set_same, get_or-set_other, length-set, map-set, get_or_past, take-replicate, map_push}
use Rattle.std.proofs.lemmas.Bool.{cases_lt, cases_eq, le-leb}
use Rattle.sheet.specs.declared.refusals.SheetRefusal.TheVariants.{Counts}
use Rattle.sheet.specs.Files.{ask, is_counted}
use Rattle.sheet.specs.declared.Sheet.{Sheet}
use Rattle.sheet.specs.declared.states.State.{State}
use Rattle.sheet.specs.States.{absent, Each, Good}
use Rattle.sheet.specs.Tables.{Entry, Table, blank, plain, single, grown, pointed, redirected, LawfulEntry, Lawful}
use Rattle.sheet.specs.Views.{entry_in, table_of}
use Rattle.sheet.proofs.Places.{count_is}
use Rattle.std.specs.List.{AllByRecursion}
use Rattle.std.proofs.ByRecursion.{All-take, All-map, All-from_get_or}

-- ---- what holds of every state

module _ (P : State → Type 0) (none : P absent) where
  pub each_none : Each P []
  each_none k = none

  pub each_push : (xs : List State) (y : State) → Each P xs → P y → Each P (xs ++ y ∷ [])
  each_push [] y h p zero = p
  each_push [] y h p (suc k) = none
  each_push (x ∷ xs) y h p zero = h 0
  each_push (x ∷ xs) y h p (suc k) = each_push xs y (λ j. h (suc j)) p k

  pub each_set : (xs : List State) (i : ℕ) (y : State) → Each P xs → P y → Each P (set xs i y)
  each_set [] i y h p k = none
  each_set (x ∷ xs) zero y h p zero = p
  each_set (x ∷ xs) zero y h p (suc k) = h (suc k)
  each_set (x ∷ xs) (suc i) y h p zero = h 0
  each_set (x ∷ xs) (suc i) y h p (suc k) = each_set xs i y (λ j. h (suc j)) p k

-- ---- states without arrows

pub no_arrow : (a : ℕ) → ◌≡◌ {A = ℕ} (get_or (replicate 32 0) a 0) 0
no_arrow a =
    ⊎_elim
    (λ (h : a < 32). get_or-replicate 32 a 0 0 h)
    (λ (h : 32 ≤ a). get_or_past (replicate 32 0) a 0 h)
    (cases_lt a 32)

module _ (letters states : ℕ) where
  pub plain_good : (marks : ℕ) (prefix : Bool) → marks < 2 ^ 32 → Good letters states (record { marks = marks; prefix = prefix; arrows = replicate 32 0 })
  plain_good marks prefix h =
      record { marks = h; wide = refl; inside = λ a. let n = no_arrow a in omega arith; bare = λ a _. no_arrow a }

  pub absent_good : Good letters states absent
  absent_good = plain_good 0 _ (omega arith)

pub plain_entry :
    (letters marks : ℕ) (prefix : Bool) → letters ≤ 32 → entry_in letters (record { marks = marks; prefix = prefix; arrows = replicate 32 0 }) ≡ plain letters marks prefix
plain_entry letters marks prefix h =
    ap (λ (xs : List ℕ). record { marks = marks; prefix = prefix; arrows = xs }) (take-replicate letters 32 0 h)

-- ---- more states

pub good_more : (letters m n : ℕ) (s : State) → m ≤ n → Good letters m s → Good letters n s
good_more letters m n s h g =
    record { marks = g.marks; wide = g.wide; inside = λ a. let i = g.inside a in omega arith; bare = g.bare }

pub good_push :
    (letters m n : ℕ) (xs : List State) (y : State) → m ≤ n → Each (Good letters m) xs → Good letters n y → Each (Good letters n) (xs ++ y ∷ [])
good_push letters m n xs y h g p =
    each_push (Good letters n) (absent_good letters n) xs y (λ k. good_more letters m n (get_or xs k absent) h (g k)) p

-- ---- the states of a sheet

pub sheet_good : (sheet : Sheet) → Each (Good sheet.letters (vec_len sheet.states)) (vec_items sheet.states)
sheet_good sheet k =
    record { marks = sheet.marked k; wide = sheet.wide k; inside = sheet.inside k; bare = sheet.bare k }

-- a state without arrows was added, or not
pub good_pushed :
    (b : Bool) (letters m n marks : ℕ) (prefix : Bool) (xs ys : List State)
    → marks < 2 ^ 32
    → ys ≡ cond b (xs ++ record { marks = marks; prefix = prefix; arrows = replicate 32 0 } ∷ []) xs
    → n ≡ cond b (m + 1) m
    → Each (Good letters m) xs
    → Each (Good letters n) ys
good_pushed true letters m n marks prefix xs ys h e f g =
    rw e (good_push letters m n xs _ (omega arith) g (plain_good letters n marks prefix h))
good_pushed false letters m n marks prefix xs ys h e f g = rw (e, f) g

pub pushed_is :
    (letters shortest marks : ℕ) (prefix : Bool) (xs ys : List State)
    → letters ≤ 32
    → ys ≡ xs ++ record { marks = marks; prefix = prefix; arrows = replicate 32 0 } ∷ []
    → ◌≡◌ {A = Table}
    (record { letters = letters; shortest = shortest; states = map (entry_in letters) ys })
    (grown (record { letters = letters; shortest = shortest; states = map (entry_in letters) xs }) marks prefix)
pushed_is letters shortest marks prefix xs ys h e =
    ap
    (λ (es : List Entry). record { letters = letters; shortest = shortest; states = es })
    (ap (map (entry_in letters)) e ∙ map_push (entry_in letters) xs _ ∙ ap (λ (x : Entry). map (entry_in letters) xs ++ x ∷ []) (plain_entry letters marks prefix h))

-- ---- an arrow is set

take_set_in : (n : ℕ) (xs : List ℕ) (a v : ℕ) → take n (set xs a v) ≡ set (take n xs) a v
take_set_in zero xs a v = refl
take_set_in (suc n) [] a v = refl
take_set_in (suc n) (x ∷ xs) zero v = refl
take_set_in (suc n) (x ∷ xs) (suc a) v = ap (λ (ys : List ℕ). x ∷ ys) (take_set_in n xs a v)

abbrev pub turned : State → ℕ → ℕ → State
turned s a to = record { marks = s.marks; prefix = s.prefix; arrows = set s.arrows a to }

good_turned : (letters n : ℕ) (s : State) (a to : ℕ) → a < letters → letters ≤ 32 → to ≤ n → Good letters n s → Good letters n (turned s a to)
good_turned letters n s a to h l t g =
    record {
      marks = g.marks;
      wide = length-set s.arrows a to ∙ g.wide;
      inside = λ b.
          ⊎_elim
          (λ (e : b ≡ a). let w = g.wide in rw (e, get_or-set_same s.arrows a to 0 (omega arith)) t)
          (λ (e : b ≡ a → ⊥). rw (get_or-set_other s.arrows a b to 0 e) (g.inside b))
          (cases_eq b a);
      bare = λ b k. get_or-set_other s.arrows a b to 0 (λ e. omega arith) ∙ g.bare b k;
    }

pub good_set :
    (letters n : ℕ) (xs : List State) (i : ℕ) (s : State) (a to : ℕ)
    → i < length xs → s ≡ get_or xs i s → a < letters → letters ≤ 32 → to ≤ n
    → Each (Good letters n) xs → Each (Good letters n) (set xs i (turned s a to))
good_set letters n xs i s a to h e k l t g =
    each_set (Good letters n) (absent_good letters n) xs i (turned s a to) g (good_turned letters n s a to k l t (subst (Good letters n) (sym (e ∙ get_or_default xs i s absent h)) (g i)))

pub turned_is :
    (letters shortest from i : ℕ) (xs : List State) (s : State) (a to : ℕ)
    → i + 1 ≡ from → i < length xs → s ≡ get_or xs i s
    → ◌≡◌ {A = Table}
    (record { letters = letters; shortest = shortest; states = map (entry_in letters) (set xs i (turned s a to)) })
    (redirected (record { letters = letters; shortest = shortest; states = map (entry_in letters) xs }) from a to)
turned_is letters shortest zero i xs s a to p h e = absurd (omega arith)
turned_is letters shortest (suc j) i xs s a to p h e =
    let q : j ≡ i = omega arith in
    let there = get_or-map (entry_in letters) xs i s blank h ∙ ap (entry_in letters) (sym e) in
    let new = ap (λ (ys : List ℕ). record { marks = s.marks; prefix = s.prefix; arrows = ys }) (take_set_in letters s.arrows a to) in
    rw q
    (ap
    (λ (es : List Entry). record { letters = letters; shortest = shortest; states = es })
    (map-set (entry_in letters) xs i (turned s a to)
    ∙ ap (set (map (entry_in letters) xs) i) (new ∙ sym (ap (λ (x : Entry). pointed x a to) there))))

-- ---- the sheet of one state

pub single_is :
    (letters shortest : ℕ) (items : List State) → 1 ≤ letters → letters ≤ 32 → items ≡ absent ∷ []
    → ask (is_counted 1 letters) Counts (Ok (single letters shortest)) ≡ Ok (record { letters = letters; shortest = shortest; states = map (entry_in letters) items })
single_is letters shortest items h g e =
    let p = plain_entry letters 0 false g in
    let x = le-leb 1 letters h in
    let y = le-leb letters 32 g in
    rw (x, y, e) (cc p)

-- ---- the table of a sheet

lawful_entry : (letters states : ℕ) (s : State) → letters ≤ 32 → Good letters states s → LawfulEntry letters states (entry_in letters s)
lawful_entry letters states s h g =
    let w = g.wide in
    record {
      marks = g.marks;
      arrows = length-take-le letters s.arrows (omega arith);
      inside = All-take (λ a. a ≤ states) letters s.arrows (All-from_get_or (λ a. a ≤ states) s.arrows 0 (λ a _. g.inside a));
    }

pub sheet_lawful : (sheet : Sheet) → Lawful (table_of sheet)
sheet_lawful sheet =
    let n = count_is sheet in
    let few = sheet.few in
    let counted = sheet.counted in
    let started = sheet.started in
    let Law : Entry → Type 0 = LawfulEntry sheet.letters (vec_len sheet.states) in
    let each : AllByRecursion (λ s. Law (entry_in sheet.letters s)) (vec_items sheet.states) =
    All-from_get_or (λ s. Law (entry_in sheet.letters s)) (vec_items sheet.states) absent
    (λ i _. lawful_entry sheet.letters (vec_len sheet.states) (get_or (vec_items sheet.states) i absent) sheet.few (sheet_good sheet i))
    in
    record {
      letters = (sheet.some, sheet.few);
      states = (omega arith, omega arith);
      entries =
          subst (λ (m : ℕ). AllByRecursion (LawfulEntry sheet.letters m) (table_of sheet).states) (sym n)
          (All-map Law (entry_in sheet.letters) (vec_items sheet.states) each);
    }
