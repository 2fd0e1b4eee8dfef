-- What is pending: one cell more is read, or a part without hits is skipped.
use Rattle.std.proofs.Common.{◌≡◌, ℕ, zero, suc, ◌+◌, ◌-◌, ◌<◌, ◌≤◌, List, [], ◌++◌, length, Some, None, Option, refl, ◌∙◌, append_assoc, add-zero, add-suc, suc-add, arith}
use native.Mathlib.Nat.{sub-zero, zero-sub, suc-sub-suc}
use Rattle.pattern.specs.Images.{Images, Image}
use Rattle.pattern.specs.Rows.{text, hit_if, hit_of, end_hits, later_hits}
use Rattle.automaton.specs.Search.{pending_in, pending}

module _ (images : Images) (row : List (Option ℕ)) where
  -- no image lies at the n cells from s on
  abbrev pub Bare : ℕ → ℕ → Type 0
  Bare s n = (t : List ℕ) → text row s n ≡ Some t → Image images t → ⊥

  bare_hit : (s e n : ℕ) → Bare s n → hit_of images s e (text row s n) ≡ []
  bare_hit s e n bare = go (text row s n) refl
    where
      go : (x : Option (List ℕ)) → text row s n ≡ x → hit_of images s e x ≡ []
      go None h = refl
      go (Some t) h = by_marks (images.marks t) refl
        where
          by_marks : (m : ℕ) → images.marks t ≡ m → hit_if s e m ≡ []
          by_marks zero g = refl
          by_marks (suc m) g = absurd (bare t h (omega arith))

  pub bare_end : (e s n : ℕ) → ((s' n' : ℕ) → s' + n' ≡ s + n → n < n' → Bare s' n') → end_hits images row e s n ≡ []
  unfolding end_hits
  bare_end e zero n bare = refl
  bare_end e (suc s) n bare =
      rw (bare_hit s e (suc n) (bare s (suc n) (omega arith) (omega arith)))
      (bare_end e s (suc n) (λ s' n' h g. bare s' n' (omega arith) (omega arith)))

  -- j ends without hits are skipped
  pub skip : (j e k : ℕ) → ((i : ℕ) → i < j → end_hits images row (e + i) (suc (e + i)) 0 ≡ []) → later_hits images row e k ≡ later_hits images row (e + j) (k - j)
  unfolding later_hits
  skip zero e k none = rw (add-zero e, sub-zero k)
  skip (suc j) e zero none = rw (zero-sub (suc j))
  skip (suc j) e (suc k) none =
      let first : end_hits images row e (suc e) 0 ≡ [] = rw (add-zero e) at (none 0 (omega arith)) in
      let rest : later_hits images row (suc e) k ≡ later_hits images row (suc e + j) (k - j) =
      skip j (suc e) k (λ i h. rw (suc-add e i, ← (add-suc e i)) (none (suc i) (omega arith))) in
      rw (first, suc-sub-suc k j, add-suc e j, ← (suc-add e j)) rest

  -- nothing was read at p
  pub pending_start : (p : ℕ) → pending images row p 0 ≡ later_hits images row p (length row - p)
  unfolding later_hits pending_in
  pending_start p = go (length row - p)
    where
      go : (k : ℕ) → pending_in images row p 0 k ≡ later_hits images row p k
      go zero = refl
      go (suc k) = rw (sub-zero (suc p))

  pub pending_end : (p o : ℕ) → length row ≤ p → pending images row p o ≡ []
  unfolding pending_in
  pending_end p o h = let e : length row - p ≡ 0 = omega arith in rw e

  split_at : (p o k : ℕ) → length row - p ≡ suc k → pending images row p o ≡ end_hits images row p (suc p - o) o ++ later_hits images row (suc p) k
  unfolding pending_in
  split_at p o k e = rw e

  pub pending_more : (p o : ℕ) (t : List ℕ) → p < length row → o ≤ p → text row (suc p - suc o) (suc o) ≡ Some t → pending images row p o ≡ hit_if (suc p - suc o) p (images.marks t) ++ pending images row p (suc o)
  unfolding end_hits
  pending_more p o t h g r =
      let k : ℕ = length row - suc p in
      let left : end_hits images row p (suc p - o) o ≡ hit_if (suc p - suc o) p (images.marks t) ++ end_hits images row p (suc p - suc o) (suc o) =
      at_start (suc p - suc o) (suc p - o) (omega arith) r in
      rw (split_at p o k (omega arith), split_at p (suc o) k (omega arith), left, append_assoc)
    where
      at_start : (s z : ℕ) → z ≡ suc s → text row s (suc o) ≡ Some t → end_hits images row p z o ≡ hit_if s p (images.marks t) ++ end_hits images row p s (suc o)
      at_start s z e x = rw (e, x)

  -- nothing more is found at p, nor at the ends before p + j
  pub pending_jump : (p o j : ℕ) → p < length row → 0 < j → end_hits images row p (suc p - o) o ≡ [] → ((i : ℕ) → suc i < j → end_hits images row (suc p + i) (suc (suc p + i)) 0 ≡ []) → pending images row p o ≡ pending images row (p + j) 0
  pending_jump p o j h g none later =
      let k : ℕ = length row - suc p in
      let skips : later_hits images row (suc p) k ≡ later_hits images row (suc p + (j - 1)) (k - (j - 1)) = skip (j - 1) (suc p) k (λ i l. later i (omega arith)) in
      let e₁ : suc p + (j - 1) ≡ p + j = omega arith in
      let e₂ : k - (j - 1) ≡ length row - (p + j) = omega arith in
      split_at p o k (omega arith) ∙ rw (none, pending_start (p + j), skips, e₁, e₂)

  -- where there is no image nothing is pending, anywhere
  module _ (none : (t : List ℕ) → images.marks t ≡ 0) where
    none_at : (e s n : ℕ) → end_hits images row e s n ≡ []
    none_at e s n = bare_end e s n (λ s' n' h g t r im. omega (arith, none t))

    none_later : (e k : ℕ) → later_hits images row e k ≡ []
    unfolding later_hits
    none_later e zero = refl
    none_later e (suc k) = rw (none_at e (suc e) 0) (none_later (suc e) k)

    pub none_pending : (p o : ℕ) → pending images row p o ≡ []
    unfolding pending_in
    none_pending p o = go (length row - p)
      where
        go : (k : ℕ) → pending_in images row p o k ≡ []
        go zero = refl
        go (suc k) = rw (none_at p (suc p - o) o) (none_later (suc p) k)
