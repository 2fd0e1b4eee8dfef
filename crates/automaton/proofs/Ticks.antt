-- Each tick of the search keeps what is pending, but for the hit that it tells.
use Rattle.std.proofs.Common.{◌≡◌, ℕ, zero, suc, ◌+◌, ◌-◌, ◌*◌, ◌<◌, ◌≤◌, max, Bool, true, false, cond, ◌&&◌, ltb, leb, ◌⊎◌, List, [], ◌∷◌, ◌++◌, length, Some, None, Option, sym, refl, ap, ◌∙◌, subst, inl, inr, mul-le-mul_right, arith}
use Rattle.std.proofs.lemmas.Bool.{and_parts, and_cases, and_right, ltb-true, ltb-false, lt-ltb, le-ltb, leb-true, le-leb, lt-leb, cases_lt, cond_both}
use Rattle.pattern.specs.Images.{Images, Lawful, Image}
use Rattle.pattern.specs.Rows.{cell, text, hit_if, end_hits, Letters, Lettered}
use Rattle.automaton.specs.Automata.{Automaton, Right, onward, led}
use Rattle.automaton.specs.Search.{Conf, Step, Ended, Going, jumped, stepped, told, arrow_at, following_if, following, counted, noticed, went, within, tick, pending, Reading, Meets, Falls, left}
use Rattle.pattern.proofs.Texts.{uncons, joins, text_length, text_letters, text_cut}
use Rattle.automaton.proofs.Automata.{some_inj, none_some, led_none, led_more}
use Rattle.automaton.proofs.Pending.{bare_end, pending_end, pending_more, pending_jump, none_pending}

-- the text of one cell more
grown : (row : List (Option ℕ)) (p o a : ℕ) (t : List ℕ) → o ≤ p → cell row (p - o) ≡ Some a → text row (suc p - o) o ≡ Some t → text row (suc p - suc o) (suc o) ≡ Some (a ∷ t)
unfolding text
grown row p o a t h c r =
    let e₁ : suc p - suc o ≡ p - o = omega arith in
    let e₂ : suc p - o ≡ suc (p - o) = omega arith in
    rw e₁ (joins _ _ a t c (rw e₂ at r))

-- the other way round: the cells that end at p, cut before the last o and one
record Last (row : List (Option ℕ)) (p o : ℕ) (u : List ℕ) : Type 0 where
  a : ℕ
  front : List ℕ
  t : List ℕ
  is : u ≡ front ++ (a ∷ t)
  at : cell row (p - o) ≡ Some a
  rest : text row (suc p - o) o ≡ Some t

tailed : (u f v w : List ℕ) → u ≡ f ++ v → v ≡ w → u ≡ f ++ w
tailed u f v w e g = rw g at e

last : (row : List (Option ℕ)) (p o n : ℕ) (u : List ℕ) → o < n → n ≤ suc p → text row (suc p - n) n ≡ Some u → Last row p o u
unfolding text
last row p o n u h g r =
    let e : n ≡ (n - suc o) + suc o = omega arith in
    let c = text_cut row (suc p - n) (n - suc o) (suc o) u (subst (λ (x : ℕ). text row (suc p - n) x ≡ Some u) e r) in
    let s : ℕ = (suc p - n) + (n - suc o) in
    let d = uncons (cell row s) (text row (suc s) o) c.v c.right in
    let e₁ : (suc p - n) + (n - suc o) ≡ p - o = omega arith in
    let e₂ : suc (p - o) ≡ suc p - o = omega arith in
    record {
      a = d.a;
      front = c.u;
      t = d.u;
      is = tailed u c.u c.v (d.a ∷ d.u) c.is d.is;
      at = subst (λ (x : ℕ). cell row x ≡ Some d.a) e₁ d.head;
      rest = subst (λ (x : ℕ). text row x o ≡ Some d.u) (ap suc e₁ ∙ e₂) d.tail;
    }

-- `following` by facts, and back
module _ (sheet : Automaton) (row : List (Option ℕ)) (k : Conf) where
  pub following_front : k.p < k.o → following sheet row k ≡ None
  unfolding following
  following_front h = rw (lt-leb k.o k.p h)

  pub following_damage : k.o ≤ k.p → cell row (k.p - k.o) ≡ None → following sheet row k ≡ None
  unfolding following
  following_damage h e = rw (le-leb k.o k.p h, e)

  pub following_to : (a : ℕ) → k.o ≤ k.p → cell row (k.p - k.o) ≡ Some a → following sheet row k ≡ sheet.arrow k.q a
  unfolding following
  following_to a h e = rw (le-leb k.o k.p h, e)

  pub record Followed (q : ℕ) : Type 0 where
    pub a : ℕ
    pub inside : k.o ≤ k.p
    pub holds : cell row (k.p - k.o) ≡ Some a
    pub leads : sheet.arrow k.q a ≡ Some q

  pub following_back : (q : ℕ) → following sheet row k ≡ Some q → Followed q
  unfolding following
  following_back q = at_test (leb k.o k.p) refl
    where
      at_cell : (x : Option ℕ) → k.o ≤ k.p → cell row (k.p - k.o) ≡ x → arrow_at sheet k.q x ≡ Some q → Followed q
      at_cell None l g e = absurd (none_some e)
      at_cell (Some a) l g e = record { a = a; inside = l; holds = g; leads = e }

      at_test : (b : Bool) → leb k.o k.p ≡ b → following_if sheet row k b ≡ Some q → Followed q
      at_test false t e = absurd (none_some e)
      at_test true t e = at_cell (cell row (k.p - k.o)) (leb-true k.o k.p t) refl e

  pub tick_none : tick sheet 0 row k ≡ Ended
  unfolding tick
  tick_none = refl

  pub tick_end : (least : ℕ) → length row ≤ k.p → tick sheet least row k ≡ Ended
  unfolding tick
  tick_end least h = ap (within sheet least row k) (and_right (ltb 0 least) (ltb k.p (length row)) (le-ltb k.p (length row) h))

  pub tick_went : (least : ℕ) (x : Option ℕ) → 0 < least → k.p < length row → following sheet row k ≡ x → tick sheet least row k ≡ went sheet least k (counted k) (noticed row k) x
  unfolding tick
  tick_went least x some h e = rw (lt-ltb 0 least some, lt-ltb k.p (length row) h, e)

  counted_few : counted k ≤ suc k.fetches
  counted_few = cond_both (leb k.o k.p) (suc k.fetches) k.fetches (λ x. x ≤ suc k.fetches) (λ e. omega arith) (λ e. omega arith)

  counted_none : k.p < k.o → counted k ≤ k.fetches
  counted_none h = rw (lt-leb k.o k.p h) (omega arith)

  -- the three ways of a tick
  pub data View (least : ℕ) : Step → Type 0 where
    at_end : (least ≡ 0) ⊎ (length row ≤ k.p) → View least Ended
    jumps : (f : ℕ) (d : Option ℕ) → k.p < length row → following sheet row k ≡ None → f ≤ suc k.fetches → (k.p < k.o → f ≤ k.fetches) → View least (Going (jumped least k f d))
    steps : (f : ℕ) (d : Option ℕ) (q : ℕ) → k.p < length row → following sheet row k ≡ Some q → f ≤ suc k.fetches → View least (told (stepped sheet k f d q) (sheet.marks q))

  pub view : (least : ℕ) → View least (tick sheet least row k)
  unfolding tick
  view least = at_test (ltb 0 least && ltb k.p (length row)) refl
    where
      at_following : (x : Option ℕ) → k.p < length row → following sheet row k ≡ x → View least (went sheet least k (counted k) (noticed row k) x)
      at_following None l e = jumps (counted k) (noticed row k) l e counted_few counted_none
      at_following (Some q) l e = steps (counted k) (noticed row k) q l e counted_few

      ended : (ltb 0 least ≡ false) ⊎ (ltb k.p (length row) ≡ false) → (least ≡ 0) ⊎ (length row ≤ k.p)
      ended (inl e) = inl (omega (arith, ltb-false 0 least e))
      ended (inr e) = inr (ltb-false k.p (length row) e)

      at_test : (b : Bool) → (ltb 0 least && ltb k.p (length row)) ≡ b → View least (within sheet least row k b)
      at_test false t = at_end (ended (and_cases (ltb 0 least) (ltb k.p (length row)) t))
      at_test true t = at_following (following sheet row k) (ltb-true k.p (length row) (and_parts (ltb 0 least) (ltb k.p (length row)) t).1) refl

-- every tick falls, with any sheet
module _ (sheet : Automaton) (row : List (Option ℕ)) where
  falls_told : (k : Conf) (m : ℕ) (n : ℕ) → left row k < n → Falls row n (told k m)
  falls_told k zero n h = h
  falls_told k (suc m) n h = h

  falls : (least : ℕ) (k : Conf) (x : Step) → k.o ≤ suc k.p → View sheet row k least x → Falls row (left row k) x
  falls least k x fits (at_end h) = tt
  falls least k x fits (jumps f d l e g z) =
      let A : ℕ = length row - k.p in
      let B : ℕ = length row - (k.p + max 1 (least - k.c)) in
      let L : ℕ = suc (suc (length row)) in
      let ab : suc B ≤ A = omega arith in
      let m : suc B * L ≤ A * L = mul-le-mul_right L ab in
      omega arith
  falls least k x fits (steps f d q l e g) =
      let h : k.o ≤ k.p = (following_back sheet row k q e).inside in
      let A : ℕ = length row - k.p in
      let L : ℕ = suc (suc (length row)) in
      let m : 1 * L ≤ A * L = mul-le-mul_right L (omega arith) in
      falls_told (stepped sheet k f d q) (sheet.marks q) (left row k) (omega arith)

  pub tick_falls : (least : ℕ) (k : Conf) → k.o ≤ suc k.p → Falls row (left row k) (tick sheet least row k)
  tick_falls least k fits = falls least k (tick sheet least row k) fits (view sheet row k least)

module _ (K : ℕ) (images : Images) (sheet : Automaton) (row : List (Option ℕ)) (laws : Lawful images) (right : Right K images sheet) (lettered : Lettered K row) where
  -- where a longer factor ends at p, the reading goes on
  onwards : (k : Conf) (r : Reading images sheet row k) (n : ℕ) (u : List ℕ) → k.o < n → n ≤ suc k.p → text row (suc k.p - n) n ≡ Some u → images.Factor u → (q : ℕ) × (following sheet row k ≡ Some q)
  onwards k r n u h g e f =
      let l = last row k.p k.o n u h g e in
      let same : l.t ≡ r.t = some_inj (sym l.rest ∙ r.read) in
      let f₁ : images.Factor (l.a ∷ l.t) = laws.factor_end l.front (l.a ∷ l.t) (omega arith) (subst images.Factor l.is f) in
      let f₂ : images.Factor (l.a ∷ r.t) = subst (λ (x : List ℕ). images.Factor (l.a ∷ x)) same f₁ in
      let all : Letters K (l.a ∷ r.t) = (lettered (k.p - k.o) l.a l.at, text_letters K row lettered _ k.o r.t r.read) in
      let s = right.reaches (l.a ∷ r.t) all (omega arith) f₂ in
      let m : onward sheet (Some k.q) l.a ≡ Some s.0 = subst (λ (x : Option ℕ). onward sheet x l.a ≡ Some s.0) r.leads (sym (led_more sheet l.a r.t) ∙ s.1) in
      (s.0, following_to sheet row k l.a (omega arith) l.at ∙ m)

  -- the reading stops at k
  Stuck : Conf → Type 0
  Stuck k = (n : ℕ) (u : List ℕ) → k.o < n → n ≤ suc k.p → text row (suc k.p - n) n ≡ Some u → images.Factor u → ⊥

  stuck : (k : Conf) → Reading images sheet row k → following sheet row k ≡ None → Stuck k
  unfolding Stuck
  stuck k r d n u g l e f = none_some (sym d ∙ (onwards k r n u g l e f).1)

  -- no image ends at p beyond o
  none_here : (k : Conf) → Reading images sheet row k → Stuck k → end_hits images row k.p (suc k.p - k.o) k.o ≡ []
  unfolding Stuck
  none_here k r stops = bare_end images row k.p (suc k.p - k.o) k.o step
    where
      step : (s n : ℕ) → s + n ≡ (suc k.p - k.o) + k.o → k.o < n → (t : List ℕ) → text row s n ≡ Some t → Image images t → ⊥
      step s n e h t g im =
          let fits : k.o ≤ suc k.p = r.fits in
          let e₁ : s ≡ suc k.p - n = omega arith in
          stops n t h (omega arith) (subst (λ (x : ℕ). text row x n ≡ Some t) e₁ g) (laws.image_factor t (omega (arith, text_length row s n t g)) im)

  -- no image ends at a place that the jump leaves out
  none_later : (k : Conf) → Reading images sheet row k → Stuck k → (i : ℕ) → suc i < max 1 (images.shortest - k.c) → end_hits images row (suc k.p + i) (suc (suc k.p + i)) 0 ≡ []
  unfolding Stuck
  none_later k r stops i l = bare_end images row (suc k.p + i) (suc (suc k.p + i)) 0 step
    where
      step : (s n : ℕ) → s + n ≡ suc (suc k.p + i) + 0 → 0 < n → (t : List ℕ) → text row s n ≡ Some t → Image images t → ⊥
      step s n e h t g im =
          let tl : length t ≡ n = text_length row s n t g in
          let sl : images.shortest ≤ length t = laws.least t im in
          let m : ℕ = n - suc i in
          let big : k.c < m = omega arith in
          let c = text_cut row s m (suc i) t (subst (λ (x : ℕ). text row s x ≡ Some t) (omega arith) g) in
          let ul : length c.u ≡ m = text_length row s m c.u c.left in
          let vl : length c.v ≡ suc i = text_length row (s + m) (suc i) c.v c.right in
          let pr : images.Proper c.u = laws.front_proper c.u c.v (omega arith) (omega arith) (subst (Image images) c.is im) in
          let e₁ : s ≡ suc k.p - m = omega arith in
          let here : text row (suc k.p - m) m ≡ Some c.u = subst (λ (x : ℕ). text row x m ≡ Some c.u) e₁ c.left in
          elim (cases_lt k.o m) [
            | inl more ↦ stops m c.u more (omega arith) here (laws.proper_factor c.u (omega arith) pr)
            | inr less ↦ r.free m c.u big less here pr
          ]

  -- the jump
  jump : (k : Conf) (f : ℕ) (d : Option ℕ) → k.p < length row → Reading images sheet row k → following sheet row k ≡ None → Meets images sheet row k (Going (jumped images.shortest k f d))
  unfolding text
  jump k f d h r e = (fresh, pending_jump images row k.p k.o (max 1 (images.shortest - k.c)) h (omega arith) (none_here k r (stuck k r e)) (none_later k r (stuck k r e)))
    where
      fresh : Reading images sheet row (jumped images.shortest k f d)
      fresh = record { t = []; fits = omega arith; read = refl; leads = led_none sheet; free = λ n u a b. absurd (omega arith) }

  -- one cell more is read
  step_reading : (k : Conf) (f : ℕ) (d : Option ℕ) (a q : ℕ) → k.o ≤ k.p → Reading images sheet row k → cell row (k.p - k.o) ≡ Some a → sheet.arrow k.q a ≡ Some q → Reading images sheet row (stepped sheet k f d q)
  step_reading k f d a q h r c g =
      record {
        t = a ∷ r.t;
        fits = omega arith;
        read = read;
        leads = leads;
        free = free (sheet.prefix q) refl;
      }
    where
      read : text row (suc k.p - suc k.o) (suc k.o) ≡ Some (a ∷ r.t)
      read = grown row k.p k.o a r.t h c r.read

      leads : led sheet (a ∷ r.t) ≡ Some q
      leads = led_more sheet a r.t ∙ rw r.leads g

      all : Letters K (a ∷ r.t)
      all = text_letters K row lettered _ (suc k.o) (a ∷ r.t) read

      free : (b : Bool) → sheet.prefix q ≡ b → (n : ℕ) (u : List ℕ) → cond b (suc k.o) k.c < n → n ≤ suc k.o → text row (suc k.p - n) n ≡ Some u → images.Proper u → ⊥
      free true e n u x y g pr = omega arith
      free false e n u x y g pr =
          elim (cases_lt k.o n) [
            | inl more ↦
                let same : n ≡ suc k.o = omega arith in
                let g₁ : text row (suc k.p - suc k.o) (suc k.o) ≡ Some u = subst (λ (z : ℕ). text row (suc k.p - z) z ≡ Some u) same g in
                let is : u ≡ a ∷ r.t = some_inj (sym g₁ ∙ read) in
                let t : sheet.prefix q ≡ true = (right.prefixed (a ∷ r.t) q all (omega arith) leads).1 (subst images.Proper is pr) in
                let z : ◌≡◌ {A = ℕ} 0 1 = cc in omega arith
            | inr less ↦ r.free n u x less g pr
          ]

  step_told : (k : Conf) (f : ℕ) (d : Option ℕ) (q : ℕ) → k.p < length row → Reading images sheet row k → following sheet row k ≡ Some q → Meets images sheet row k (told (stepped sheet k f d q) (sheet.marks q))
  step_told k f d q l r e = go (sheet.marks q) refl
    where
      b : Followed sheet row k q
      b = following_back sheet row k q e

      s : Reading images sheet row (stepped sheet k f d q)
      s = step_reading k f d b.a q b.inside r b.holds b.leads

      marks : sheet.marks q ≡ images.marks s.t
      marks = right.marked s.t q (text_letters K row lettered _ (suc k.o) s.t s.read) (omega (arith, text_length row _ (suc k.o) s.t s.read)) s.leads

      more : pending images row k.p k.o ≡ hit_if (suc k.p - suc k.o) k.p (images.marks s.t) ++ pending images row k.p (suc k.o)
      more = pending_more images row k.p k.o s.t l b.inside s.read

      go : (m : ℕ) → sheet.marks q ≡ m → Meets images sheet row k (told (stepped sheet k f d q) m)
      go zero e = (s, rw (sym marks ∙ e) at more)
      go (suc m) e = (s, rw (sym marks ∙ e) at more)

  meets : (k : Conf) (x : Step) → Reading images sheet row k → View sheet row k images.shortest x → Meets images sheet row k x
  meets k x r (at_end (inl none)) = none_pending images row (laws.none none) k.p k.o
  meets k x r (at_end (inr past)) = pending_end images row k.p k.o past
  meets k x r (jumps f d l e g z) = jump k f d l r e
  meets k x r (steps f d q l e g) = step_told k f d q l r e

  pub tick_meets : (k : Conf) → Reading images sheet row k → Meets images sheet row k (tick sheet images.shortest row k)
  tick_meets k r = meets k (tick sheet images.shortest row k) r (view sheet row k images.shortest)
