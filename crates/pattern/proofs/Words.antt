-- The word order: on texts, its laws; and by words, as it is read.
use Rattle.std.proofs.Common.{◌≡◌, ℕ, suc, ◌<◌, ◌⊎◌, ◌↔◌, List, [], ◌∷◌, ◌++◌, reverse, length, sym, refl, ap, ◌∙◌, inl, inr, ⊎_elim, arith}
use mathlib.Core.List.{reverse-cons, reverse-reverse}
use lib.ListN.{length-reverse}
use Rattle.std.proofs.lemmas.Bool.{cases_order}
use Rattle.pattern.specs.Words.{Word, Smaller, Precedes, ◌≺◌, ◌≼◌, WordOrder}

pub irreflexive : (u : List ℕ) → u ≺ u → ⊥
irreflexive [] h = h
irreflexive (a ∷ u) (inl h) = irreflexive u h
irreflexive (a ∷ u) (inr h) = omega arith

pub transitive : (u v w : List ℕ) → u ≺ v → v ≺ w → u ≺ w
transitive [] [] w g h = absurd g
transitive [] (b ∷ v) [] g h = absurd h
transitive [] (b ∷ v) (c ∷ w) g h = tt
transitive (a ∷ u) [] w g h = absurd g
transitive (a ∷ u) (b ∷ v) [] g h = absurd h
transitive (a ∷ u) (b ∷ v) (c ∷ w) (inl g) (inl h) = inl (transitive u v w g h)
transitive (a ∷ u) (b ∷ v) (c ∷ w) (inl g) (inr h) = inl (rw h.0 at g)
transitive (a ∷ u) (b ∷ v) (c ∷ w) (inr g) (inl h) = inl (rw g.0 h)
transitive (a ∷ u) (b ∷ v) (c ∷ w) (inr g) (inr h) = inr (cc, omega arith)

pub total : (u v : List ℕ) → (u ≡ v) ⊎ ((u ≺ v) ⊎ (v ≺ u))
total [] [] = inl refl
total [] (b ∷ v) = inr (inl tt)
total (a ∷ u) [] = inr (inr tt)
total (a ∷ u) (b ∷ v) = both (total u v)
  where
    letters : u ≡ v → (a ≡ b) ⊎ ((a < b) ⊎ (b < a)) → ((a ∷ u) ≡ (b ∷ v)) ⊎ (((a ∷ u) ≺ (b ∷ v)) ⊎ ((b ∷ v) ≺ (a ∷ u)))
    letters e (inl f) = inl (cc)
    letters e (inr (inl f)) = inr (inl (inr (e, f)))
    letters e (inr (inr f)) = inr (inr (inr (sym e, f)))

    both : (u ≡ v) ⊎ ((u ≺ v) ⊎ (v ≺ u)) → ((a ∷ u) ≡ (b ∷ v)) ⊎ (((a ∷ u) ≺ (b ∷ v)) ⊎ ((b ∷ v) ≺ (a ∷ u)))
    both (inl e) = letters e (cases_order a b)
    both (inr (inl h)) = inr (inl (inl h))
    both (inr (inr h)) = inr (inr (inl h))

-- a word comes before its extensions
pub longer : (u : List ℕ) (a : ℕ) → u ≺ (a ∷ u)
longer [] a = tt
longer (b ∷ u) a = inl (longer u b)

-- any letters may follow two words in order
pub extend : (u v : List ℕ) (a b : ℕ) → u ≺ v → (a ∷ u) ≺ (b ∷ v)
extend u v a b h = inl h

pub extend_same : (u : List ℕ) (a b : ℕ) → a < b → (a ∷ u) ≺ (b ∷ u)
extend_same u a b h = inr (refl, h)

pub extend≼ : (u v : List ℕ) (a : ℕ) → u ≼ v → (a ∷ u) ≼ (a ∷ v)
extend≼ u v a (inl e) = inl (cc)
extend≼ u v a (inr h) = inr (inl h)

pub ≼≺-trans : (u v w : List ℕ) → u ≼ v → v ≺ w → u ≺ w
≼≺-trans u v w (inl e) h = rw e h
≼≺-trans u v w (inr g) h = transitive u v w g h

pub ≺≼-trans : (u v w : List ℕ) → u ≺ v → v ≼ w → u ≺ w
≺≼-trans u v w g (inl e) = rw e at g
≺≼-trans u v w g (inr h) = transitive u v w g h

pub ≼_trans : (u v w : List ℕ) → u ≼ v → v ≼ w → u ≼ w
≼_trans u v w (inl e) h = rw e h
≼_trans u v w (inr g) h = inr (≺≼-trans u v w g h)

pub asymmetric : (u v : List ℕ) → u ≺ v → v ≼ u → ⊥
asymmetric u v g h = irreflexive u (≺≼-trans u v u g h)

-- not before is at or after
pub not_before : (u v : List ℕ) → (u ≺ v → ⊥) → v ≼ u
not_before u v no_way = pick (total u v)
  where
    pick : (u ≡ v) ⊎ ((u ≺ v) ⊎ (v ≺ u)) → v ≼ u
    pick (inl e) = inl (sym e)
    pick (inr (inl h)) = absurd (no_way h)
    pick (inr (inr h)) = inr h

-- ---- by words

-- one letter more behind two words of the same length
smaller_front : (x y : List ℕ) (a b : ℕ) → length x ≡ length y → Smaller x y → Smaller (x ++ (a ∷ [])) (y ++ (b ∷ []))
smaller_front [] [] a b e d = absurd d
smaller_front [] (q ∷ y) a b e d = absurd (omega arith)
smaller_front (p ∷ x) [] a b e d = absurd d
smaller_front (p ∷ x) (q ∷ y) a b e (inl h) = inl h
smaller_front (p ∷ x) (q ∷ y) a b e (inr h) = inr (h.0, smaller_front x y a b (omega arith) h.1)

-- one letter more behind a word
smaller_last : (x : List ℕ) (a b : ℕ) → a < b → Smaller (x ++ (a ∷ [])) (x ++ (b ∷ []))
smaller_last [] a b h = inl h
smaller_last (p ∷ x) a b h = inr (refl, smaller_last x a b h)

smaller_split : (x y : List ℕ) (a b : ℕ) → length x ≡ length y → Smaller (x ++ (a ∷ [])) (y ++ (b ∷ [])) → Smaller x y ⊎ ((x ≡ y) × (a < b))
smaller_split [] [] a b e (inl h) = inr (refl, h)
smaller_split [] [] a b e (inr h) = absurd h.1
smaller_split [] (q ∷ y) a b e d = absurd (omega arith)
smaller_split (p ∷ x) [] a b e d = absurd (omega arith)
smaller_split (p ∷ x) (q ∷ y) a b e (inl h) = inl (inl h)
smaller_split (p ∷ x) (q ∷ y) a b e (inr h) = ⊎_elim (λ f. inl (inr (h.0, f))) (λ f. inr (alike h.0 f.0, f.1)) (smaller_split x y a b (omega arith) h.1)
  where
    alike : p ≡ q → x ≡ y → (p ∷ x) ≡ (q ∷ y)
    alike f g = cc

reverse_inj : (u v : List ℕ) → reverse u ≡ reverse v → u ≡ v
reverse_inj u v e = sym (reverse-reverse u) ∙ ap reverse e ∙ reverse-reverse v

lengths : (u v : List ℕ) → length u ≡ length v → length (reverse u) ≡ length (reverse v)
lengths u v e = length-reverse u ∙ e ∙ sym (length-reverse v)

forth : (u v : List ℕ) → u ≺ v → (length u < length v) ⊎ ((length u ≡ length v) × Smaller (reverse u) (reverse v))
forth [] [] h = absurd h
forth [] (b ∷ v) h = inl (omega arith)
forth (a ∷ u) [] h = absurd h
forth (a ∷ u) (b ∷ v) (inl h) = ⊎_elim (λ l. inl (omega arith)) (λ q. inr (ap suc q.0, rw (reverse-cons a u, reverse-cons b v) (smaller_front (reverse u) (reverse v) a b (lengths u v q.0) q.1))) (forth u v h)
forth (a ∷ u) (b ∷ v) (inr h) = inr (ap (λ (w : List ℕ). suc (length w)) h.0, rw (reverse-cons a u, reverse-cons b v, h.0) (smaller_last (reverse v) a b h.1))

back : (u v : List ℕ) → (length u < length v) ⊎ ((length u ≡ length v) × Smaller (reverse u) (reverse v)) → u ≺ v
back [] [] (inl h) = omega arith
back [] [] (inr h) = h.1
back [] (b ∷ v) h = tt
back (a ∷ u) [] (inl h) = omega arith
back (a ∷ u) [] (inr h) = omega arith
back (a ∷ u) (b ∷ v) (inl h) = inl (back u v (inl (omega arith)))
back (a ∷ u) (b ∷ v) (inr h) =
    let e : length u ≡ length v = omega arith in
    let d : Smaller (reverse u ++ (a ∷ [])) (reverse v ++ (b ∷ [])) = rw (reverse-cons a u, reverse-cons b v) at h.1 in
    ⊎_elim (λ f. inl (back u v (inr (e, f)))) (λ f. inr (reverse_inj u v f.0, f.1)) (smaller_split (reverse u) (reverse v) a b (lengths u v e) d)

pub by_texts : (u v : Word) → Precedes u v ↔ (reverse u ≺ reverse v)
by_texts u v = (
  λ h. back (reverse u) (reverse v) (rw (length-reverse u, length-reverse v, reverse-reverse u, reverse-reverse v) h),
  λ h. rw (length-reverse u, length-reverse v, reverse-reverse u, reverse-reverse v) at (forth (reverse u) (reverse v) h),
)

pub word_order : WordOrder
word_order =
    record {
      by_texts = by_texts;
      irreflexive = λ u h. irreflexive (reverse u) ((by_texts u u).0 h);
      transitive = λ u v w g h. (by_texts u w).1 (transitive (reverse u) (reverse v) (reverse w) ((by_texts u v).0 g) ((by_texts v w).0 h));
      total = λ u v. ⊎_elim (λ e. inl (reverse_inj u v e)) (λ h. inr (⊎_elim (λ g. inl ((by_texts u v).1 g)) (λ g. inr ((by_texts v u).1 g)) h)) (total (reverse u) (reverse v));
    }
