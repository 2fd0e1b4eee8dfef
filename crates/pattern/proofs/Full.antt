-- The full list of a row has its hits and no others, in order.
use Rattle.std.proofs.Common.{◌≡◌, ℕ, zero, suc, ◌+◌, ◌-◌, ◌<◌, ◌≤◌, ◌⊎◌, List, [], ◌∷◌, ◌++◌, length, Some, None, Option, sym, refl, ap, ◌∙◌, subst, inl, inr, arith}
use Rattle.std.proofs.lemmas.Bool.{cases_eq}
use Rattle.pattern.specs.Images.{Images, here, there}
use Rattle.pattern.proofs.Any.{any_left, any_right, any_cases}
use Rattle.pattern.specs.Rows.{Hit, text, hit_if, hit_of, end_hits, later_hits, full, In, Before, Sorted, FullList}

sorted_append : (xs ys : List Hit) → Sorted xs → Sorted ys → ((x y : Hit) → In x xs → In y ys → Before x y) → Sorted (xs ++ ys)
sorted_append [] ys a b c = b
sorted_append (x ∷ xs) ys a b c =
    (λ g i. elim (any_cases xs ys i) [ inl l ↦ a.0 g l | inr r ↦ c x g (here refl) r ], sorted_append xs ys a.1 b (λ u v i j. c u v (there i) j))

module _ (images : Images) (row : List (Option ℕ)) where
  -- the hit that lies at the n cells from s to e
  record At (h : Hit) (s e n : ℕ) : Type 0 where
    starts : h.start ≡ s
    ends : h.end ≡ e
    t : List ℕ
    read : text row s n ≡ Some t
    spelled : h.marks ≡ images.marks t
    some : 0 < h.marks

  in_hit : (h : Hit) (s e n : ℕ) (x : Option (List ℕ)) → text row s n ≡ x → In h (hit_of images s e x) → At h s e n
  in_hit h s e n None g i = elim i [ ]
  in_hit h s e n (Some t) g i = go (images.marks t) refl i
    where
      go : (m : ℕ) → images.marks t ≡ m → In h (hit_if s e m) → At h s e n
      go zero f i = elim i [ ]
      go (suc m) f (here p) = record { starts = ap (λ (y : Hit). y.start) p; ends = ap (λ (y : Hit). y.end) p; t = t; read = g; spelled = ap (λ (y : Hit). y.marks) p ∙ sym f; some = omega (arith, ap (λ (y : Hit). y.marks) p) }
      go (suc m) f (there p) = elim p [ ]

  hit_in : (h : Hit) (s e n : ℕ) → At h s e n → In h (hit_of images s e (text row s n))
  hit_in h s e n a = rw a.read (go (images.marks a.t) refl)
    where
      go : (m : ℕ) → images.marks a.t ≡ m → In h (hit_if s e m)
      go zero f = absurd (omega (arith, a.spelled, a.some))
      go (suc m) f = here (λ i. record { start = a.starts i; end = a.ends i; marks = (a.spelled ∙ f) i })

  in_end : (h : Hit) (e s n : ℕ) → s + n ≡ suc e → In h (end_hits images row e s n) → (h.start < s) × At h h.start e (suc e - h.start)
  unfolding end_hits
  in_end h e zero n q i = elim i [ ]
  in_end h e (suc s) n q i = go (any_cases (hit_of images s e (text row s (suc n))) (end_hits images row e s (suc n)) i) (in_end h e s (suc n) (omega arith))
    where
      go : In h (hit_of images s e (text row s (suc n))) ⊎ In h (end_hits images row e s (suc n)) → (In h (end_hits images row e s (suc n)) → (h.start < s) × At h h.start e (suc e - h.start)) → (h.start < suc s) × At h h.start e (suc e - h.start)
      go (inl l) rest =
          let a = in_hit h s e (suc n) (text row s (suc n)) refl l in
          let b : h.start ≡ s = a.starts in
          let c : suc n ≡ suc e - h.start = omega arith in
          (omega arith, subst (λ (y : ℕ). At h h.start e y) c (subst (λ (y : ℕ). At h y e (suc n)) (sym b) a))
      go (inr r) rest = (omega (arith, (rest r).0), (rest r).1)

  end_in : (h : Hit) (e s n : ℕ) → s + n ≡ suc e → h.start < s → At h h.start e (suc e - h.start) → In h (end_hits images row e s n)
  unfolding end_hits
  end_in h e zero n q l a = absurd (omega arith)
  end_in h e (suc s) n q l a = go (cases_eq h.start s) (end_in h e s (suc n) (omega arith))
    where
      go : (h.start ≡ s) ⊎ (h.start ≡ s → ⊥) → (h.start < s → At h h.start e (suc e - h.start) → In h (end_hits images row e s (suc n))) → In h (hit_of images s e (text row s (suc n)) ++ end_hits images row e s (suc n))
      go (inl same) rest =
          let c : suc e - h.start ≡ suc n = omega arith in
          any_left _ _ (hit_in h s e (suc n) (subst (λ (y : ℕ). At h y e (suc n)) same (subst (λ (y : ℕ). At h h.start e y) c a)))
      go (inr other) rest = any_right _ _ (rest (omega arith) a)

  in_later : (h : Hit) (e k : ℕ) → In h (later_hits images row e k) → (e ≤ h.end) × (h.end < e + k) × (h.start < suc h.end) × At h h.start h.end (suc h.end - h.start)
  unfolding later_hits
  in_later h e zero i = elim i [ ]
  in_later h e (suc k) i = go (any_cases (end_hits images row e (suc e) 0) (later_hits images row (suc e) k) i) (in_later h (suc e) k)
    where
      go : In h (end_hits images row e (suc e) 0) ⊎ In h (later_hits images row (suc e) k) → (In h (later_hits images row (suc e) k) → (suc e ≤ h.end) × (h.end < suc e + k) × (h.start < suc h.end) × At h h.start h.end (suc h.end - h.start)) → (e ≤ h.end) × (h.end < e + suc k) × (h.start < suc h.end) × At h h.start h.end (suc h.end - h.start)
      go (inl l) rest =
          let a = in_end h e (suc e) 0 (omega arith) l in
          let b : h.end ≡ e = a.1.ends in
          let c : h.start < suc e = a.0 in
          (omega arith, omega arith, omega arith, subst (λ (y : ℕ). At h h.start y (suc y - h.start)) (sym b) a.1)
      go (inr r) rest = let a = rest r in (omega arith, omega arith, a.2, a.3)

  later_in : (h : Hit) (e k : ℕ) → e ≤ h.end → h.end < e + k → h.start < suc h.end → At h h.start h.end (suc h.end - h.start) → In h (later_hits images row e k)
  unfolding later_hits
  later_in h e zero l g o a = absurd (omega arith)
  later_in h e (suc k) l g o a = go (cases_eq h.end e) (later_in h (suc e) k)
    where
      go : (h.end ≡ e) ⊎ (h.end ≡ e → ⊥) → (suc e ≤ h.end → h.end < suc e + k → h.start < suc h.end → At h h.start h.end (suc h.end - h.start) → In h (later_hits images row (suc e) k)) → In h (end_hits images row e (suc e) 0 ++ later_hits images row (suc e) k)
      go (inl same) rest =
          any_left _ _ (end_in h e (suc e) 0 (omega arith) (omega arith) (subst (λ (y : ℕ). At h h.start y (suc y - h.start)) same a))
      go (inr other) rest = any_right _ _ (rest (omega arith) (omega arith) o a)

  sorted_end : (e s n : ℕ) → s + n ≡ suc e → Sorted (end_hits images row e s n)
  unfolding end_hits
  sorted_end e zero n q = tt
  sorted_end e (suc s) n q =
      sorted_append (hit_of images s e (text row s (suc n))) (end_hits images row e s (suc n)) (single (text row s (suc n))) (sorted_end e s (suc n) (omega arith)) order
    where
      single : (x : Option (List ℕ)) → Sorted (hit_of images s e x)
      single None = tt
      single (Some t) = by_marks (images.marks t)
        where
          by_marks : (m : ℕ) → Sorted (hit_if s e m)
          by_marks zero = tt
          by_marks (suc m) = (λ g i. elim i [ ], tt)

      order : (x y : Hit) → In x (hit_of images s e (text row s (suc n))) → In y (end_hits images row e s (suc n)) → Before x y
      order x y i j =
          let a = in_hit x s e (suc n) (text row s (suc n)) refl i in
          let b = in_end y e s (suc n) (omega arith) j in
          inr (a.ends ∙ sym b.1.ends, omega (arith, a.starts, b.0))

  sorted_later : (e k : ℕ) → Sorted (later_hits images row e k)
  unfolding later_hits
  sorted_later e zero = tt
  sorted_later e (suc k) =
      sorted_append (end_hits images row e (suc e) 0) (later_hits images row (suc e) k) (sorted_end e (suc e) 0 (omega arith)) (sorted_later (suc e) k) order
    where
      order : (x y : Hit) → In x (end_hits images row e (suc e) 0) → In y (later_hits images row (suc e) k) → Before x y
      order x y i j = inl (omega (arith, (in_end x e (suc e) 0 (omega arith) i).1.ends, (in_later y (suc e) k j).0))

  pub full_list_lem : FullList images row
  unfolding full
  full_list_lem =
      record {
        has = λ h. (
          λ x. later_in h 0 (length row) (omega arith) (omega (arith, x.inside)) (omega (arith, x.ordered)) (record { starts = refl; ends = refl; t = x.t; read = x.read; spelled = x.spelled; some = x.some }),
          λ i. let a = in_later h 0 (length row) i in record { ordered = omega arith; inside = omega arith; t = a.3.t; read = a.3.read; spelled = a.3.spelled; some = a.3.some },
        );
        sorted = sorted_later 0 (length row);
      }
