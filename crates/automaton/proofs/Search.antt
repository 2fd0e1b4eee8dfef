-- The search answers the full list.
use Rattle.std.proofs.Common.{◌≡◌, ℕ, zero, suc, ◌+◌, ◌-◌, ◌*◌, ◌<◌, ◌≤◌, min, max, ◌⊎◌, List, [], ◌∷◌, length, drop, Some, None, Option, sym, refl, ap, ◌∙◌, subst, inl, inr, mul-le-mul_right, zero-add, arith}
use Rattle.std.specs.List.{slice_get}
use Rattle.std.proofs.lemmas.Bool.{cases_lt}
use Rattle.pattern.specs.Images.{Images, Lawful, Image, Each, images_of}
use Rattle.pattern.specs.Rows.{Hit, text, full, Lettered}
use Rattle.pattern.specs.Patterns.{shortest, longest}
use Rattle.pattern.specs.Fits.{fitting}
use Rattle.pattern.specs.Laws.{Wellformed}
use Rattle.automaton.specs.Wrong.{NoWrong}
use Rattle.automaton.specs.Automata.{Automaton, Right}
use Rattle.automaton.specs.Search.{Conf, Step, Ended, Going, Found, start, stepped, told, tick, ticked, ticks, pending, Reading, Meets, Falls, left, Next, ends, finds, goes, Nth, first, later, Takes, Thrift, Thrifty, Complete, SearchIsComplete}
use Rattle.pattern.proofs.Laws.{lawful, fits, laws, some_shortest}
use Rattle.pattern.proofs.Texts.{text_length, text_letters}
use Rattle.automaton.proofs.Automata.{led_none}
use Rattle.automaton.proofs.Wrong.{no_wrong_right}
use Rattle.automaton.proofs.Pending.{bare_end, skip, pending_start}
use Rattle.pattern.proofs.Full.{full_list_lem}
use Rattle.automaton.proofs.Ticks.{tick_meets, tick_falls, View, at_end, jumps, steps, view}

module _ (images : Images) (laws : Lawful images) (sheet : Automaton) (row : List (Option ℕ)) where
  pub start_reading : Reading images sheet row (start images.shortest)
  unfolding text
  start_reading = record { t = []; fits = omega arith; read = refl; leads = led_none sheet; free = λ n u a b. absurd (omega arith) }

  pub start_pending : pending images row (images.shortest - 1) 0 ≡ full images row
  unfolding full
  start_pending =
      let p : ℕ = images.shortest - 1 in
      pending_start images row p ∙ (rw (zero-add p) at (sym (skip images row p 0 (length row) (λ i h. bare_end images row (0 + i) (suc (0 + i)) 0 (step i h)))))
    where
      step : (i : ℕ) → i < images.shortest - 1 → (s n : ℕ) → s + n ≡ suc (0 + i) + 0 → 0 < n → (t : List ℕ) → text row s n ≡ Some t → Image images t → ⊥
      step i l s n e h t g im = omega (arith, text_length row s n t g, laws.least t im)

  pub start_thrift : (each : ℕ) → Thrift images each row (start images.shortest)
  start_thrift each = record { above = omega arith; spent = omega arith; rested = λ h. refl }

module _ (K : ℕ) (images : Images) (sheet : Automaton) (row : List (Option ℕ)) (laws : Lawful images) (right : Right K images sheet) (lettered : Lettered K row) where
  -- one call of `next`
  pub next_takes : {k k' : Conf} {a : Option Hit} → Next sheet images.shortest row k a k' → Reading images sheet row k → Reading images sheet row k' × Takes (pending images row k.p k.o) a (pending images row k'.p k'.o)
  next_takes (ends {k = k} e) r =
      let m : Meets images sheet row k Ended = subst (Meets images sheet row k) e (tick_meets K images sheet row laws right lettered k r) in (r, (m, m))
  next_takes (finds {k = k} {k' = k'} {h = h} e) r =
      let m : Meets images sheet row k (Found h k') = subst (Meets images sheet row k) e (tick_meets K images sheet row laws right lettered k r) in m
  next_takes (goes {k = k} {k₁ = k₁} {k' = k'} {a = a} e n) r =
      let m : Meets images sheet row k (Going k₁) = subst (Meets images sheet row k) e (tick_meets K images sheet row laws right lettered k r) in
      let i = next_takes n m.0 in
      (i.0, subst (λ (hs : List Hit). Takes hs a (pending images row k'.p k'.o)) (sym m.1) i.1)

  -- it always ends
  next_within : (n : ℕ) (k : Conf) → left row k < n → Reading images sheet row k → (a : Option Hit) × (k' : Conf) × Next sheet images.shortest row k a k'
  next_within zero k h r = absurd (omega arith)
  next_within (suc n) k h r = go (tick sheet images.shortest row k) refl (tick_meets K images sheet row laws right lettered k r) (tick_falls sheet row images.shortest k r.fits) (next_within n)
    where
      go : (x : Step) → tick sheet images.shortest row k ≡ x → Meets images sheet row k x → Falls row (left row k) x → ((k : Conf) → left row k < n → Reading images sheet row k → (a : Option Hit) × (k' : Conf) × Next sheet images.shortest row k a k') → (a : Option Hit) × (k' : Conf) × Next sheet images.shortest row k a k'
      go Ended e m f rest = (None, k, ends e)
      go (Going k₁) e m f rest = let i = rest k₁ (omega arith) m.0 in (i.0, i.1, goes e i.2)
      go (Found x k₁) e m f rest = (Some x, k₁, finds e)

  pub next_ends : (k : Conf) → Reading images sheet row k → (a : Option Hit) × (k' : Conf) × Next sheet images.shortest row k a k'
  next_ends k r = next_within (suc (left row k)) k (omega arith) r

  nth_ends : (n : ℕ) (k : Conf) → Reading images sheet row k → (a : Option Hit) × (k' : Conf) × Nth sheet images.shortest row n k a k'
  nth_ends zero k r = let i = next_ends k r in (i.0, i.1, first i.2)
  nth_ends (suc n) k r =
      let i = next_ends k r in
      let j = nth_ends n i.1 (next_takes i.2 r).0 in
      (j.0, j.1, later i.2 j.2)

  -- the n-th answer
  takes_first : (hs hs' : List Hit) (a : Option Hit) → Takes hs a hs' → a ≡ slice_get hs 0
  takes_first hs hs' None h = rw h.0
  takes_first hs hs' (Some x) h = rw h

  takes_later : (hs hs' : List Hit) (a : Option Hit) (n : ℕ) → Takes hs a hs' → slice_get hs' n ≡ slice_get hs (suc n)
  takes_later hs hs' None n h = rw (h.0, h.1)
  takes_later hs hs' (Some x) n h = rw h

  takes_drop : (hs hs' : List Hit) (a : Option Hit) (n : ℕ) → Takes hs a hs' → drop n hs' ≡ drop (suc n) hs
  takes_drop hs hs' None zero h = rw (h.0, h.1)
  takes_drop hs hs' None (suc n) h = rw (h.0, h.1)
  takes_drop hs hs' (Some x) n h = rw h

  nth_answers : {n : ℕ} {k k' : Conf} {a : Option Hit} → Nth sheet images.shortest row n k a k' → Reading images sheet row k → (a ≡ slice_get (pending images row k.p k.o) n) × (pending images row k'.p k'.o ≡ drop (suc n) (pending images row k.p k.o))
  nth_answers (first {k = k} {k' = k'} {a = a} h) r =
      let t = (next_takes h r).1 in
      (takes_first _ _ a t, takes_drop _ _ a 0 t)
  nth_answers (later {n = n} {k = k} {k₁ = k₁} {k' = k'} {a = a} {b = b} h g) r =
      let t = next_takes h r in
      let i = nth_answers g t.0 in
      (i.0 ∙ takes_later _ _ b n t.1, i.1 ∙ takes_drop _ _ b (suc n) t.1)

module _ (K : ℕ) (images : Images) (sheet : Automaton) (row : List (Option ℕ)) (laws : Lawful images) (right : Right K images sheet) (lettered : Lettered K row) (each : ℕ) (bound : Each images (length row) each) where
  -- the fetches
  reading_fits : (k : Conf) → Reading images sheet row k → Thrift images each row k → (k.o ≤ each) × ((k.p < k.o) ⊎ (k.o < each) ⊎ (length row ≤ k.p))
  reading_fits k r th = go bound k.o refl
    where
      fits : k.o ≤ suc k.p
      fits = r.fits

      inside : 0 < k.o → k.p < length row
      inside h = elim (cases_lt k.p (length row)) [ inl less ↦ less | inr past ↦ absurd (omega (arith, th.rested past)) ]

      go : Each images (length row) each → (n : ℕ) → k.o ≡ n → (k.o ≤ each) × ((k.p < k.o) ⊎ (k.o < each) ⊎ (length row ≤ k.p))
      go (inl all) zero e = (omega arith, elim (cases_lt k.p (length row)) [ inl less ↦ inr (inl (omega arith)) | inr past ↦ inr (inr past) ])
      go (inl all) (suc n) e =
          let i : k.p < length row = inside (omega arith) in
          (omega arith, elim (cases_lt k.p k.o) [ inl less ↦ inl less | inr past ↦ inr (inl (omega arith)) ])
      go (inr b) zero e = (omega arith, inr (inl (omega (arith, b.0))))
      go (inr b) (suc n) e =
          let l : length r.t ≡ k.o = text_length row _ k.o r.t r.read in
          let f : images.Factor r.t = right.fits r.t k.q (text_letters K row lettered _ k.o r.t r.read) (omega arith) r.leads in
          let m : length r.t < each = b.1 r.t (omega arith) f in
          (omega arith, inr (inl (omega arith)))

  thrifty_told : (k : Conf) (m : ℕ) → Thrift images each row k → Thrifty images each row (told k m)
  thrifty_told k zero h = h
  thrifty_told k (suc m) h = h

  thrifty : (k : Conf) (x : Step) → Reading images sheet row k → View sheet row k images.shortest x → Thrift images each row k → Thrifty images each row x
  thrifty k x r (at_end h) t = tt
  thrifty k x r (jumps f d l e g z) t =
      let long = reading_fits k r t in
      let cost : f ≤ (k.fetches + each) - k.o = elim long.1 [ inl none ↦ omega (arith, z none, long.0) | inr c ↦ elim c [ inl less ↦ omega arith | inr past ↦ absurd (omega arith) ] ] in
      let A : ℕ = min k.p (length row) - (images.shortest - 1) in
      let B : ℕ = min (k.p + max 1 (images.shortest - k.c)) (length row) - (images.shortest - 1) in
      let above : images.shortest - 1 ≤ k.p = t.above in
      let ab : suc A ≤ B = omega arith in
      let m : suc A * each ≤ B * each = mul-le-mul_right each ab in
      let s : k.fetches ≤ A * each + k.o = t.spent in
      record { above = omega arith; spent = omega arith; rested = λ g. refl }
  thrifty k x r (steps f d q l e g) t =
      thrifty_told (stepped sheet k f d q) (sheet.marks q) (record { above = t.above; spent = omega (arith, t.spent); rested = λ past. absurd (omega arith) })

  tick_thrifty : (k : Conf) → Reading images sheet row k → Thrift images each row k → Thrifty images each row (tick sheet images.shortest row k)
  tick_thrifty k r t = thrifty k (tick sheet images.shortest row k) r (view sheet row k images.shortest) t

  pub next_thrift : {k k' : Conf} {a : Option Hit} → Next sheet images.shortest row k a k' → Reading images sheet row k → Thrift images each row k → Thrift images each row k'
  next_thrift (ends e) r t = t
  next_thrift (finds {k = k} e) r t = subst (Thrifty images each row) e (tick_thrifty k r t)
  next_thrift (goes {k = k} {k₁ = k₁} e n) r t =
      let m : Meets images sheet row k (Going k₁) = subst (Meets images sheet row k) e (tick_meets K images sheet row laws right lettered k r) in
      next_thrift n m.0 (subst (Thrifty images each row) e (tick_thrifty k r t))

  nth_thrift : {n : ℕ} {k k' : Conf} {a : Option Hit} → Nth sheet images.shortest row n k a k' → Reading images sheet row k → Thrift images each row k → Reading images sheet row k' × Thrift images each row k'
  nth_thrift (first h) r t = ((next_takes K images sheet row laws right lettered h r).0, next_thrift h r t)
  nth_thrift (later h g) r t = nth_thrift g (next_takes K images sheet row laws right lettered h r).0 (next_thrift h r t)

  bounded : (k : Conf) → Reading images sheet row k → Thrift images each row k → k.fetches ≤ (length row - (images.shortest - 1)) * each
  bounded k r t =
      let A : ℕ = min k.p (length row) - (images.shortest - 1) in
      let C : ℕ = length row - (images.shortest - 1) in
      let long : k.o ≤ each = (reading_fits k r t).0 in
      let above : images.shortest - 1 ≤ k.p = t.above in
      let s : k.fetches ≤ A * each + k.o = t.spent in
      elim (cases_lt k.p (length row)) [
        | inl less ↦
            let ac : suc A ≤ C = omega arith in
            let m : suc A * each ≤ C * each = mul-le-mul_right each ac in
            omega arith
        | inr past ↦
            let none : k.o ≡ 0 = t.rested past in
            let ac : A ≤ C = omega arith in
            let m : A * each ≤ C * each = mul-le-mul_right each ac in
            omega arith
      ]

module _ (K : ℕ) (images : Images) (sheet : Automaton) (row : List (Option ℕ)) (laws : Lawful images) (right : Right K images sheet) (lettered : Lettered K row) where
  -- enough ticks
  ticks_all : (n : ℕ) (k : Conf) → left row k < n → Reading images sheet row k → (ticks sheet images.shortest row n k).0 ≡ pending images row k.p k.o
  unfolding ticks
  ticks_all zero k h r = absurd (omega arith)
  ticks_all (suc n) k h r =
      go (tick sheet images.shortest row k) (tick_meets K images sheet row laws right lettered k r) (tick_falls sheet row images.shortest k r.fits) (ticks_all n)
    where
      go : (x : Step) → Meets images sheet row k x → Falls row (left row k) x → ((k : Conf) → left row k < n → Reading images sheet row k → (ticks sheet images.shortest row n k).0 ≡ pending images row k.p k.o) → (ticked k (λ k'. ticks sheet images.shortest row n k') x).0 ≡ pending images row k.p k.o
      go Ended m f rest = sym m
      go (Going k₁) m f rest = rest k₁ (omega arith) m.0 ∙ sym m.1
      go (Found x k₁) m f rest = ap {B = List Hit} (λ hs. x ∷ hs) (rest k₁ (omega arith) m.0) ∙ sym m.1

-- `next` is a function
going_inj : {k k' : Conf} → Going k ≡ Going k' → k ≡ k'
going_inj h = cc

found_inj : {h h' : Hit} {k k' : Conf} → Found h k ≡ Found h' k' → (h ≡ h') × (k ≡ k')
found_inj h = (cc, cc)

apart : (x y : Step) → x ≡ y → (◌≡◌ {A = Step} x y → ◌≡◌ {A = ℕ} 0 1) → ⊥
apart x y e f = let z = f e in omega arith

pub next_same : (sheet : Automaton) (least : ℕ) (row : List (Option ℕ)) {k k' k'' : Conf} {a b : Option Hit} → Next sheet least row k a k' → Next sheet least row k b k'' → (a ≡ b) × (k' ≡ k'')
next_same sheet least row (ends e) (ends f) = (refl, refl)
next_same sheet least row (ends e) (finds f) = absurd (apart _ _ (sym e ∙ f) (λ z. cc))
next_same sheet least row (ends e) (goes f n) = absurd (apart _ _ (sym e ∙ f) (λ z. cc))
next_same sheet least row (finds e) (ends f) = absurd (apart _ _ (sym e ∙ f) (λ z. cc))
next_same sheet least row (finds e) (finds f) = let i = found_inj (sym e ∙ f) in (ap Some i.0, i.1)
next_same sheet least row (finds e) (goes f n) = absurd (apart _ _ (sym e ∙ f) (λ z. cc))
next_same sheet least row (goes e m) (ends f) = absurd (apart _ _ (sym e ∙ f) (λ z. cc))
next_same sheet least row (goes e m) (finds f) = absurd (apart _ _ (sym e ∙ f) (λ z. cc))
next_same sheet least row {k'' = k''} {b = b} (goes e m) (goes f n) = next_same sheet least row m (subst (λ (c : Conf). Next sheet least row c b k'') (sym (going_inj (sym e ∙ f))) n)

module _ (K : ℕ) (images : Images) (sheet : Automaton) (row : List (Option ℕ)) (laws : Lawful images) (right : Right K images sheet) (lettered : Lettered K row) where
  pub complete : Complete images sheet row
  complete =
      record {
        listed = full_list_lem images row;
        begins = start_reading images laws sheet row;
        begun = start_pending images laws sheet row;
        resumes = λ k k' a r n. next_takes K images sheet row laws right lettered n r;
        answered = λ n. nth_ends K images sheet row laws right lettered n (start images.shortest) (start_reading images laws sheet row);
        answers = λ n a k h. rw (start_pending images laws sheet row) at (nth_answers K images sheet row laws right lettered h (start_reading images laws sheet row)).0;
        leaves = λ n a k h. rw (start_pending images laws sheet row) at (nth_answers K images sheet row laws right lettered h (start_reading images laws sheet row)).1;
        fetches = λ each bound n a k h.
            let x = nth_thrift K images sheet row laws right lettered each bound h (start_reading images laws sheet row) (start_thrift images laws sheet row each) in
            bounded K images sheet row laws right lettered each bound k x.0 x.1;
        found = λ n h. ticks_all K images sheet row laws right lettered n (start images.shortest) h (start_reading images laws sheet row) ∙ start_pending images laws sheet row;
      }

pub search_is_complete_lem : SearchIsComplete
search_is_complete_lem =
    record {
      single = λ sheet least row k k' k'' a b m n. next_same sheet least row m n;
      complete = λ K plan sheet row well none lettered. whole K plan sheet row well none lettered;
      fetches = λ K plan sheet row well none lettered lines long n a k h.
          let some : 0 < shortest plan = some_shortest plan well.nonempty lines in
          let e : length row - (shortest plan - 1) ≡ length row - shortest plan + 1 = omega arith in
          let b : k.fetches ≤ (length row - (shortest plan - 1)) * (longest plan + 1) = (whole K plan sheet row well none lettered).fetches (longest plan + 1) ((laws plan).each (length row)) n a k h in
          rw e at b;
    }
  where
    whole : (K : ℕ) (plan : List (List ℕ)) (sheet : Automaton) (row : List (Option ℕ)) → Wellformed plan → NoWrong K (images_of plan) sheet → Lettered K row → Complete (images_of plan) sheet row
    whole K plan sheet row well none lettered =
        complete K (images_of plan) sheet row (lawful plan well.nonempty) (no_wrong_right K (images_of plan) (fitting plan) (fits plan well K) sheet none) lettered
