-- Each turn of the search is a tick, with any sheet.
use Rattle.std.proofs.Common.{◌≡◌, ℕ, zero, suc, ◌+◌, ◌-◌, ◌<◌, ◌≤◌, max, Bool, true, false, cond, leb, List, length, Some, None, Option, Result, sym, refl, ap, ◌∙◌, subst, add-one, arith}
use Rattle.std.proofs.lemmas.Bool.{le-leb}
use Rattle.trace.specs.Cells.{Lawful}
use Rattle.pattern.specs.Rows.{Hit as Place}
use Rattle.automaton.specs.Automata.{Automaton}
use Rattle.automaton.specs.Search.{Conf, Going, Found, counted, noticed, jumped, stepped, told, following, tick, left, Falls, Next, ends, finds, goes}
use Rattle.automaton.proofs.Ticks.{tick_falls, tick_went, tick_end, tick_none, following_back}
use Rattle.reading.specs.declared.hits.Hit.{Hit}
use Rattle.reading.specs.declared.spot.Spot.{Spot}
use Rattle.reading.specs.Hits.{placed, count_of}
use Rattle.reading.specs.Cells.{letters_in}
use Rattle.reading.proofs.Looking.{length_letters, short_letters}
use Rattle.reading.specs.Spots.{conf_of, looked, Along, here, on, Onward, Roomy}

along_next : (sheet : Automaton) (least : ℕ) (row : List (Option ℕ)) {k k₁ k' : Conf} {a : Option Place} → Along sheet least row k k₁ → Next sheet least row k₁ a k' → Next sheet least row k a k'
along_next sheet least row here n = n
along_next sheet least row (on r e) n = along_next sheet least row r (goes e n)

counted_least : (k : Conf) → k.fetches ≤ counted k
counted_least k = go (leb k.o k.p)
  where
    go : (b : Bool) → k.fetches ≤ cond b (suc k.fetches) k.fetches
    go true = omega arith
    go false = omega arith

counted_most : (k : Conf) → counted k ≤ suc k.fetches
counted_most k = go (leb k.o k.p)
  where
    go : (b : Bool) → cond b (suc k.fetches) k.fetches ≤ suc k.fetches
    go true = omega arith
    go false = omega arith

counted_one : (k : Conf) → k.o ≤ k.p → counted k ≡ suc k.fetches
counted_one k h = rw (le-leb k.o k.p h)

pub onward_here : (sheet : Automaton) (least : ℕ) (row : List (Option ℕ)) (s : Spot) → Roomy s → Onward sheet least row s s
onward_here sheet least row s r = record { along = here; roomy = r; more = omega arith; nearer = omega arith }

pub onward_trans : {sheet : Automaton} {least : ℕ} {row : List (Option ℕ)} {a b c : Spot} → Onward sheet least row a b → Onward sheet least row b c → Onward sheet least row a c
onward_trans {sheet} {least} {row} o p = record { along = go o.along p.along; roomy = p.roomy; more = omega (arith, o.more, p.more); nearer = omega (arith, o.nearer, p.nearer) }
  where
    go : {k k₁ k₂ : Conf} → Along sheet least row k k₁ → Along sheet least row k₁ k₂ → Along sheet least row k k₂
    go r here = r
    go r (on s e) = on (go r s) e

-- the search went on from one spot to another
pub record Went (sheet : Automaton) (least : ℕ) (row : List (Option ℕ)) (at to : Spot) : Type 0 where
  pub onward : Onward sheet least row at to
  pub less : left row (conf_of to) < left row (conf_of at)

pub record Stepped (at to : Spot) : Type 0 where
  pub within : at.o ≤ at.p
  pub p_is : to.p ≡ at.p
  pub o_is : to.o ≡ suc at.o
  pub f_is : to.fetches ≡ suc at.fetches
  pub roomy : Roomy to

-- a turn of the inner loop: one cell more was looked at, from a place inside the row
pub record Turn (least : ℕ) (row : List (Option ℕ)) (at seen : Spot) : Type 0 where
  pub inside : at.p < length row
  pub short : length row ≤ 16777216
  pub some : 0 < least
  pub few : least ≤ 255
  pub roomy : Roomy at
  pub seen_is : conf_of seen ≡ looked row (conf_of at)

pub turn : {D : Type 0} {K : ℕ} {cells : List (Result ℕ D)} → Lawful K cells → (least len : ℕ) (at seen : Spot) → len ≡ length cells → at.p < len → (least ≡ 0 → ⊥) → least < 256 → Roomy at → conf_of seen ≡ looked (letters_in cells) (conf_of at) → Turn least (letters_in cells) at seen
turn {cells = cells} l least len at seen long inside some few room is =
    record { inside = omega (arith, length_letters cells); short = short_letters l; some = positive least some; few = omega arith; roomy = room; seen_is = is }
  where
    positive : (n : ℕ) → (n ≡ 0 → ⊥) → 0 < n
    positive zero h = absurd (h refl)
    positive (suc n) h = omega arith

module _ (sheet : Automaton) (least : ℕ) (row : List (Option ℕ)) (at seen to : Spot) (turned : Turn least row at seen) where
  falls_to : tick sheet least row (conf_of at) ≡ Going (conf_of to) → left row (conf_of to) < left row (conf_of at)
  falls_to e = subst (Falls row (left row (conf_of at))) e (tick_falls sheet row least (conf_of at) (omega (arith, turned.roomy.0)))

  went_by : tick sheet least row (conf_of at) ≡ Going (conf_of to) → Roomy to → at.fetches ≤ to.fetches → Went sheet least row at to
  went_by e room more =
      let l = falls_to e in
      record { onward = record { along = on here e; roomy = room; more = more; nearer = omega (arith, l) }; less = l }

  pub jump_went : None ≡ following sheet row (conf_of at) → conf_of to ≡ jumped least (conf_of seen) seen.fetches seen.damaged → Went sheet least row at to
  jump_went e to_is =
      let is : conf_of to ≡ jumped least (conf_of at) (counted (conf_of at)) (noticed row (conf_of at)) = to_is ∙ ap (λ (x : Conf). jumped least x x.fetches x.damaged) turned.seen_is in
      let t : tick sheet least row (conf_of at) ≡ Going (conf_of to) = tick_went sheet row (conf_of at) least None turned.some turned.inside (sym e) ∙ ap Going (sym is) in
      let p_is : to.p ≡ at.p + max 1 (least - at.c) = ap (λ (x : Conf). x.p) is in
      let o_is : to.o ≡ 0 = ap (λ (x : Conf). x.o) is in
      let f_is : to.fetches ≡ counted (conf_of at) = ap (λ (x : Conf). x.fetches) is in
      let most : counted (conf_of at) ≤ suc at.fetches = counted_most (conf_of at) in
      let least_f : at.fetches ≤ counted (conf_of at) = counted_least (conf_of at) in
      went_by t (omega arith, omega (arith, turned.inside, turned.short, turned.few), omega (arith, turned.inside, turned.short, turned.roomy.0, turned.roomy.1, turned.roomy.2)) (omega arith)

  stepped_is : (q : ℕ) → conf_of to ≡ stepped sheet (conf_of seen) seen.fetches seen.damaged q → conf_of to ≡ stepped sheet (conf_of at) (counted (conf_of at)) (noticed row (conf_of at)) q
  stepped_is q to_is = to_is ∙ ap (λ (x : Conf). stepped sheet x x.fetches x.damaged q) turned.seen_is

  pub step_room : (q : ℕ) → Some q ≡ following sheet row (conf_of at) → conf_of to ≡ stepped sheet (conf_of seen) seen.fetches seen.damaged q → Stepped at to
  step_room q e to_is =
      let is = stepped_is q to_is in
      let h : at.o ≤ at.p = (following_back sheet row (conf_of at) q (sym e)).inside in
      let p_is : to.p ≡ at.p = ap (λ (x : Conf). x.p) is in
      let o_is : to.o ≡ suc at.o = ap (λ (x : Conf). x.o) is in
      let f_is : to.fetches ≡ suc at.fetches = ap (λ (x : Conf). x.fetches) is ∙ counted_one (conf_of at) h in
      record { within = h; p_is = p_is; o_is = o_is; f_is = f_is; roomy = (omega arith, omega (arith, turned.roomy.1), omega (arith, turned.roomy.2)) }

  pub step_went : (q : ℕ) → Some q ≡ following sheet row (conf_of at) → conf_of to ≡ stepped sheet (conf_of seen) seen.fetches seen.damaged q → sheet.marks q ≡ 0 → Went sheet least row at to
  step_went q e to_is none =
      let is = stepped_is q to_is in
      let s = step_room q e to_is in
      let t : tick sheet least row (conf_of at) ≡ told (stepped sheet (conf_of at) (counted (conf_of at)) (noticed row (conf_of at)) q) (sheet.marks q) = tick_went sheet row (conf_of at) least (Some q) turned.some turned.inside (sym e) in
      went_by ((rw none at t) ∙ ap Going (sym is)) s.roomy (omega (arith, s.f_is))

  told_some : (k : Conf) (m : ℕ) (start : ℕ) → (m ≡ 0 → ⊥) → start ≡ suc k.p - k.o → told k m ≡ Found (record { start = start; end = k.p; marks = m }) k
  told_some k zero start h e = absurd (h refl)
  told_some k (suc m) start h e = rw e

  pub step_found : (q m : ℕ) → Some q ≡ following sheet row (conf_of at) → conf_of to ≡ stepped sheet (conf_of seen) seen.fetches seen.damaged q → m ≡ sheet.marks q → (m ≡ 0 → ⊥) → Next sheet least row (conf_of at) (placed (Some (record { start = (to.p + 1) - to.o; end = to.p; marks = m }))) (conf_of to)
  step_found q m e to_is m_is marked =
      let is = stepped_is q to_is in
      let t : tick sheet least row (conf_of at) ≡ told (stepped sheet (conf_of at) (counted (conf_of at)) (noticed row (conf_of at)) q) (sheet.marks q) = tick_went sheet row (conf_of at) least (Some q) turned.some turned.inside (sym e) in
      let t₁ : tick sheet least row (conf_of at) ≡ told (conf_of to) m = rw (is, m_is) t in
      finds (t₁ ∙ told_some (conf_of to) m ((to.p + 1) - to.o) marked (rw (add-one to.p)))

-- what `next` leaves: its answer, and where the search is then
pub record Leaves (sheet : Automaton) (least : ℕ) (row : List (Option ℕ)) (from at : Spot) (found : Option Hit) : Type 0 where
  pub next : Next sheet least row (conf_of from) (placed found) (conf_of at)
  pub roomy : Roomy at
  pub more : from.fetches + count_of found ≤ at.fetches

module _ (sheet : Automaton) (least : ℕ) (row : List (Option ℕ)) where
  pub next_none : (k : Conf) → least ≡ 0 → Next sheet least row k None k
  next_none k e = rw e (ends (tick_none sheet row k))

  pub leaves_end : (from at to : Spot) (found : Option Hit) → to ≡ at → found ≡ None → Onward sheet least row from at → length row ≤ at.p → Leaves sheet least row from to found
  leaves_end from at to found e f o h =
      rw (e, f) (record { next = along_next _ _ _ o.along (ends (tick_end sheet row (conf_of at) least h)); roomy = o.roomy; more = omega (arith, o.more) })

  pub leaves_found : (from at by to : Spot) (h : Hit) (found : Option Hit) → to ≡ by → found ≡ Some h → Onward sheet least row from at → Next sheet least row (conf_of at) (placed (Some h)) (conf_of by) → Stepped at by → Leaves sheet least row from to found
  leaves_found from at by to h found e f o n s =
      rw (e, f) (record { next = along_next _ _ _ o.along n; roomy = s.roomy; more = omega (arith, o.more, s.f_is) })

pub next_by : {sheet : Automaton} {row : List (Option ℕ)} {k k' : Conf} {a : Option Place} (least least' : ℕ) → least ≡ least' → Next sheet least row k a k' → Next sheet least' row k a k'
next_by least least' e n = rw e at n
