-- More things than places cannot all have a place of their own.
use Rattle.std.proofs.Common.{◌≡◌, ℕ, zero, suc, ◌+◌, ◌<◌, ◌≤◌, cond, eqb, ◌≢◌, ◌⊎◌, List, [], ◌∷◌, length, get_or, sym, ap, ◌∙◌, inl, inr, ⊎_elim, arith}
use Rattle.std.proofs.lemmas.Bool.{cases_eq, cases_lt, cases_order, cond-true, cond-false, eq-eqb, ne_eqb}
use Rattle.pattern.specs.Images.{Any, here, there}

among : (g : ℕ → ℕ) (n m : ℕ) → ((k : ℕ) × (k ≤ m) × (g k ≡ n)) ⊎ ((k : ℕ) → k ≤ m → g k ≢ n)
among g n zero = ⊎_elim (λ e. inl (0, omega arith, e)) (λ f. inr (only f)) (cases_eq (g 0) n)
  where
    only : g 0 ≢ n → (k : ℕ) → k ≤ 0 → g k ≢ n
    only f k l = let z : k ≡ 0 = omega arith in rw z f
among g n (suc m) = ⊎_elim (λ x. inl (x.0, omega arith, x.2)) (λ h. ⊎_elim (λ e. inl (suc m, omega arith, e)) (λ f. inr (more h f)) (cases_eq (g (suc m)) n)) (among g n m)
  where
    more : ((k : ℕ) → k ≤ m → g k ≢ n) → g (suc m) ≢ n → (k : ℕ) → k ≤ suc m → g k ≢ n
    more h f k l = ⊎_elim (λ (e : k ≡ suc m). rw e f) (λ d. h k (omega arith)) (cases_eq k (suc m))

swap : (ℕ → ℕ) → ℕ → ℕ → ℕ → ℕ
swap g k x j = cond (eqb j k) x (g j)

swap_same : (g : ℕ → ℕ) (k x j : ℕ) → j ≡ k → swap g k x j ≡ x
unfolding swap
swap_same g k x j e = cond-true (eqb j k) x (g j) (eq-eqb j k e)

swap_other : (g : ℕ → ℕ) (k x j : ℕ) → j ≢ k → swap g k x j ≡ g j
unfolding swap
swap_other g k x j e = cond-false (eqb j k) x (g j) (ne_eqb j k e)

-- what is to show, at so many places
abbrev Fit : ℕ → Type 0
Fit n = (m : ℕ) (g : ℕ → ℕ) → ((k : ℕ) → k ≤ m → g k < n) → ((j k : ℕ) → j ≤ m → k ≤ m → g j ≡ g k → j ≡ k) → m < n

module _ (n m : ℕ) (g : ℕ → ℕ) (low : (k : ℕ) → k ≤ suc m → g k < suc n) (apart : (j k : ℕ) → j ≤ suc m → k ≤ suc m → g j ≡ g k → j ≡ k) where
  -- no pigeon at place n
  none : Fit n → ((k : ℕ) → k ≤ suc m → g k ≢ n) → suc m < suc n
  none fit h = let r : suc m < n = fit (suc m) g (λ k l. omega (arith, h k l, low k l)) apart in omega arith

  -- the pigeon k has place n: the last one takes its number
  module _ (k : ℕ) (lk : k ≤ suc m) (e : g k ≡ n) where
    low_swapped : (j : ℕ) → j ≤ m → swap g k (g (suc m)) j < n
    low_swapped j l = ⊎_elim same other (cases_eq j k)
      where
        same : j ≡ k → swap g k (g (suc m)) j < n
        same f =
            let d : g (suc m) ≢ n = λ x. (let z : suc m ≡ k = apart (suc m) k (omega arith) lk (x ∙ sym e) in omega arith) in
            rw (swap_same g k (g (suc m)) j f) (omega (arith, d, low (suc m) (omega arith)))

        other : j ≢ k → swap g k (g (suc m)) j < n
        other f =
            let d : g j ≢ n = λ x. f (apart j k (omega arith) lk (x ∙ sym e)) in
            rw (swap_other g k (g (suc m)) j f) (omega (arith, d, low j (omega arith)))

    apart_swapped : (i j : ℕ) → i ≤ m → j ≤ m → swap g k (g (suc m)) i ≡ swap g k (g (suc m)) j → i ≡ j
    apart_swapped i j li lj x = ways (cases_eq i k) (cases_eq j k)
      where
        ways : (i ≡ k) ⊎ (i ≢ k) → (j ≡ k) ⊎ (j ≢ k) → i ≡ j
        ways (inl p) (inl q) = p ∙ sym q
        ways (inl p) (inr q) =
            let y : g (suc m) ≡ g j = sym (swap_same g k (g (suc m)) i p) ∙ x ∙ swap_other g k (g (suc m)) j q in
            let z : suc m ≡ j = apart (suc m) j (omega arith) (omega arith) y in
            absurd (omega arith)
        ways (inr p) (inl q) =
            let y : g i ≡ g (suc m) = sym (swap_other g k (g (suc m)) i p) ∙ x ∙ swap_same g k (g (suc m)) j q in
            let z : i ≡ suc m = apart i (suc m) (omega arith) (omega arith) y in
            absurd (omega arith)
        ways (inr p) (inr q) = apart i j (omega arith) (omega arith) (sym (swap_other g k (g (suc m)) i p) ∙ x ∙ swap_other g k (g (suc m)) j q)

    one : Fit n → suc m < suc n
    one fit = let r : m < n = fit m (swap g k (g (suc m))) low_swapped apart_swapped in omega arith

pub pigeons : (n : ℕ) → Fit n
pigeons zero m g low apart = absurd (omega (arith, low 0 (omega arith)))
pigeons (suc n) zero g low apart = omega arith
pigeons (suc n) (suc m) g low apart = ⊎_elim (λ x. one n m g low apart x.0 x.1 x.2 (pigeons n)) (none n m g low apart (pigeons n)) (among g n (suc m))

-- more different things than a list is long do not all stand in it
module _ {A : Type 0} (d : A) (m : ℕ) (thing : ℕ → A) (different : (j k : ℕ) → j < k → k ≤ m → thing j ≢ thing k) (all : List A) (held : (k : ℕ) → k ≤ m → Any (λ y. thing k ≡ y) all) where
  at : (k : ℕ) → k ≤ m → (t : ℕ) × (t < length all) × (thing k ≡ get_or all t d)
  at k l = place all (held k l)
    where
      place : {x : A} (xs : List A) → Any (λ y. x ≡ y) xs → (t : ℕ) × (t < length xs) × (x ≡ get_or xs t d)
      place [] h = elim h [ ]
      place (y ∷ ys) (here e) = (0, omega arith, e)
      place (y ∷ ys) (there h) = let r = place ys h in (suc r.0, omega arith, r.2)

  le : (k : ℕ) → k < m + 1 → k ≤ m
  le k l = omega arith

  pick : (k : ℕ) → (k < m + 1) ⊎ (m + 1 ≤ k) → ℕ
  pick k (inl l) = (at k (le k l)).0
  pick k (inr l) = 0

  pick_low : (k : ℕ) (c : (k < m + 1) ⊎ (m + 1 ≤ k)) → k ≤ m → pick k c < length all
  unfolding pick
  pick_low k (inl l) h = (at k (le k l)).1
  pick_low k (inr l) h = absurd (omega arith)

  pick_thing : (k : ℕ) (c : (k < m + 1) ⊎ (m + 1 ≤ k)) → k ≤ m → thing k ≡ get_or all (pick k c) d
  unfolding pick
  pick_thing k (inl l) h = (at k (le k l)).2
  pick_thing k (inr l) h = absurd (omega arith)

  pub outnumbers : m < length all
  outnumbers = pigeons (length all) m (λ k. pick k (cases_lt k (m + 1))) (λ k l. pick_low k (cases_lt k (m + 1)) l) apart
    where
      apart : (j k : ℕ) → j ≤ m → k ≤ m → pick j (cases_lt j (m + 1)) ≡ pick k (cases_lt k (m + 1)) → j ≡ k
      apart j k lj lk e =
          let x : thing j ≡ thing k = pick_thing j (cases_lt j (m + 1)) lj ∙ ap (λ t. get_or all t d) e ∙ sym (pick_thing k (cases_lt k (m + 1)) lk) in
          ⊎_elim (λ f. f) (⊎_elim (λ f. absurd (different j k f lk x)) (λ f. absurd (different k j f lj (sym x)))) (cases_order j k)
