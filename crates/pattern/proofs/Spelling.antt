-- What steps spell: fronts, ends and lengths; and where a text fits in a plan.
use Rattle.std.proofs.Common.{◌≡◌, ℕ, suc, ◌<◌, ◌≤◌, min, Bool, true, false, ◌⊎◌, List, [], ◌∷◌, ◌++◌, length, refl, ap, inl, inr, arith, length-append}
use mathlib.Core.Bool.{false≢true}
use Rattle.std.proofs.lemmas.Bool.{and_parts, and_from, cases_lt}
use Rattle.pattern.specs.Patterns.{admits, spells, marks_of, shortest, longest}
use Rattle.pattern.specs.Fits.{tails, rests, begins}
use Rattle.pattern.specs.Images.{Any, here, there, FitsAt}
use Rattle.pattern.proofs.Any.{any_map, any_left, any_right, any_cases}

-- ---- spelling

pub spells_length : (ss t : List ℕ) → spells ss t ≡ true → length ss ≡ length t
unfolding spells
spells_length [] [] h = refl
spells_length [] (a ∷ t) h = absurd (false≢true h)
spells_length (s ∷ ss) [] h = absurd (false≢true h)
spells_length (s ∷ ss) (a ∷ t) h = ap suc (spells_length ss t (and_parts _ (spells ss t) h).1)

pub spells_append : (ss us t v : List ℕ) → spells ss t ≡ true → spells us v ≡ true → spells (ss ++ us) (t ++ v) ≡ true
unfolding spells
spells_append [] us [] v h g = g
spells_append [] us (a ∷ t) v h g = absurd (false≢true h)
spells_append (s ∷ ss) us [] v h g = absurd (false≢true h)
spells_append (s ∷ ss) us (a ∷ t) v h g =
    let b = and_parts (admits s a) (spells ss t) h in
    and_from (admits s a) (spells (ss ++ us) (t ++ v)) b.0 (spells_append ss us t v b.1 g)

-- what spells the text does not go on after it
pub never_both : (r t : List ℕ) → spells r t ≡ true → begins r t ≡ true → ⊥
unfolding spells begins
never_both [] t h k = false≢true k
never_both (s ∷ ss) [] h k = false≢true h
never_both (s ∷ ss) (a ∷ t) h k = never_both ss t (and_parts (admits s a) (spells ss t) h).1 (and_parts (admits s a) (begins ss t) k).1

-- the steps of an image go on after its fronts
pub spells_begins : (r t v : List ℕ) → 0 < length v → spells r (t ++ v) ≡ true → begins r t ≡ true
unfolding spells begins
spells_begins [] [] [] some h = absurd (omega arith)
spells_begins [] [] (b ∷ v) some h = absurd (false≢true h)
spells_begins [] (a ∷ t) v some h = absurd (false≢true h)
spells_begins (s ∷ ss) [] v some h = refl
spells_begins (s ∷ ss) (a ∷ t) v some h =
    let b = and_parts (admits s a) (spells ss (t ++ v)) h in
    and_from (admits s a) (begins ss t) b.0 (spells_begins ss t v some b.1)

-- ---- a text that fits from some step on

pub unfit : (t : List ℕ) → 0 < length t → FitsAt t [] → ⊥
unfolding spells begins
unfit [] some h = omega arith
unfit (a ∷ t) some (inl h) = false≢true h
unfit (a ∷ t) some (inr h) = false≢true h

-- one letter less, one step on
pub fits_next : (a s : ℕ) (t ss : List ℕ) → FitsAt (a ∷ t) (s ∷ ss) → FitsAt t ss
unfolding spells begins
fits_next a s t ss (inl h) = inl (and_parts (admits s a) (spells ss t) h).1
fits_next a s t ss (inr h) = inr (and_parts (admits s a) (begins ss t) h).1

pub fits_front : (r u v : List ℕ) → FitsAt (u ++ v) r → FitsAt u r
unfolding spells begins
fits_front [] [] v h = inl refl
fits_front (s ∷ ss) [] v h = inr refl
fits_front [] (a ∷ u) v (inl h) = absurd (false≢true h)
fits_front [] (a ∷ u) v (inr h) = absurd (false≢true h)
fits_front (s ∷ ss) (a ∷ u) v h = elim (fits_front ss u v (fits_next a s (u ++ v) ss h)) [ inl x ↦ inl (and_from (admits s a) (spells ss u) first x) | inr x ↦ inr (and_from (admits s a) (begins ss u) first x) ]
  where
    first : admits s a ≡ true
    first = elim h [ inl x ↦ (and_parts (admits s a) (spells ss (u ++ v)) x).0 | inr x ↦ (and_parts (admits s a) (begins ss (u ++ v)) x).0 ]

pub fits_length : (r t : List ℕ) → FitsAt t r → length t ≤ length r
unfolding spells begins
fits_length r [] h = omega arith
fits_length [] (a ∷ t) (inl h) = absurd (false≢true h)
fits_length [] (a ∷ t) (inr h) = absurd (false≢true h)
fits_length (s ∷ ss) (a ∷ t) h = omega (arith, fits_length ss t (fits_next a s t ss h))

-- ---- at the steps of a pattern, and of a plan

tails_head : (t p : List ℕ) → 0 < length t → FitsAt t p → Any (FitsAt t) (tails p)
unfolding tails
tails_head t [] some h = absurd (unfit t some h)
tails_head t (s ∷ ss) some h = here h

tails_end : (u v p : List ℕ) → 0 < length v → Any (FitsAt (u ++ v)) (tails p) → Any (FitsAt v) (tails p)
unfolding tails
tails_end u v [] some h = elim h [ ]
tails_end [] v (s ∷ ss) some h = h
tails_end (a ∷ u) v (s ∷ ss) some (here h) = there (tails_end u v ss some (tails_head (u ++ v) ss (rw (length-append u v) (omega arith)) (fits_next a s (u ++ v) ss h)))
tails_end (a ∷ u) v (s ∷ ss) some (there h) = there (tails_end (a ∷ u) v ss some h)

tails_length : (t p : List ℕ) → Any (FitsAt t) (tails p) → length t ≤ length p
unfolding tails
tails_length t [] h = elim h [ ]
tails_length t (s ∷ ss) (here h) = fits_length (s ∷ ss) t h
tails_length t (s ∷ ss) (there h) = omega (arith, tails_length t ss h)

module _ (t : List ℕ) where
  pub factor_length : (plan : List (List ℕ)) → Any (FitsAt t) (rests plan) → length t ≤ longest plan
  unfolding rests longest
  factor_length [] h = elim h [ ]
  factor_length (p ∷ ps) h = elim (any_cases (tails p) (rests ps) h) [ inl x ↦ omega (arith, tails_length t p x) | inr x ↦ omega (arith, factor_length ps x) ]

  -- a text that a pattern spells fits at its first step
  pub image_factor : (plan : List (List ℕ)) → 0 < length t → Any (λ p. spells p t ≡ true) plan → Any (FitsAt t) (rests plan)
  unfolding rests
  image_factor [] some h = elim h [ ]
  image_factor (p ∷ ps) some (here h) = any_left (tails p) (rests ps) (tails_head t p some (inl h))
  image_factor (p ∷ ps) some (there h) = any_right (tails p) (rests ps) (image_factor ps some h)

pub factor_end : (plan : List (List ℕ)) (u v : List ℕ) → 0 < length v → Any (FitsAt (u ++ v)) (rests plan) → Any (FitsAt v) (rests plan)
unfolding rests
factor_end [] u v some h = elim h [ ]
factor_end (p ∷ ps) u v some h = elim (any_cases (tails p) (rests ps) h) [ inl x ↦ any_left (tails p) (rests ps) (tails_end u v p some x) | inr x ↦ any_right (tails p) (rests ps) (factor_end ps u v some x) ]

pub factor_front : (plan : List (List ℕ)) (u v : List ℕ) → Any (FitsAt (u ++ v)) (rests plan) → Any (FitsAt u) (rests plan)
factor_front plan u v = any_map (λ r. fits_front r u v)

-- ---- the longest pattern lies in the steps

length_tails : (p : List ℕ) → length (tails p) ≡ length p
unfolding tails
length_tails [] = refl
length_tails (s ∷ ss) = ap suc (length_tails ss)

pub longest_steps : (plan : List (List ℕ)) → longest plan ≤ length (rests plan)
unfolding longest rests
longest_steps [] = omega arith
longest_steps (p ∷ ps) = rw (length-append (tails p) (rests ps)) (omega (arith, length_tails p, longest_steps ps))

-- ---- the marks of a text

pub image_marks : (plan : List (List ℕ)) (t : List ℕ) → Any (λ p. spells p t ≡ true) plan → 0 < marks_of plan t
unfolding marks_of
image_marks [] t h = elim h [ ]
image_marks (p ∷ ps) t (here h) = rw h (omega arith)
image_marks (p ∷ ps) t (there h) = omega (arith, image_marks ps t h)

pub marks_image : (plan : List (List ℕ)) (t : List ℕ) → 0 < marks_of plan t → Any (λ p. spells p t ≡ true) plan
unfolding marks_of
marks_image [] t h = absurd (omega arith)
marks_image (p ∷ ps) t h = go (spells p t) refl (marks_image ps t)
  where
    go : (b : Bool) → spells p t ≡ b → (0 < marks_of ps t → Any (λ p. spells p t ≡ true) ps) → Any (λ p. spells p t ≡ true) (p ∷ ps)
    go true e rest = here e
    go false e rest = there (rest (omega (arith, rw e at h)))

-- ---- the shortest pattern

pub image_length : (plan : List (List ℕ)) (t : List ℕ) → Any (λ p. spells p t ≡ true) plan → shortest plan ≤ length t
unfolding shortest
image_length [] t h = elim h [ ]
image_length (p ∷ []) t (here h) = omega (arith, spells_length p t h)
image_length (p ∷ []) t (there h) = elim h [ ]
image_length (p ∷ (q ∷ qs)) t (here h) = omega (arith, spells_length p t h)
image_length (p ∷ (q ∷ qs)) t (there h) = omega (arith, image_length (q ∷ qs) t h)

pub shortest_pattern : (plan : List (List ℕ)) → 0 < length plan → Any (λ p. length p ≡ shortest plan) plan
unfolding shortest
shortest_pattern [] some = absurd (omega arith)
shortest_pattern (p ∷ []) some = here refl
shortest_pattern (p ∷ (q ∷ qs)) some = go (cases_lt (length p) (shortest (q ∷ qs))) (shortest_pattern (q ∷ qs) (omega arith))
  where
    go : (length p < shortest (q ∷ qs)) ⊎ (shortest (q ∷ qs) ≤ length p) → Any (λ r. length r ≡ shortest (q ∷ qs)) (q ∷ qs) → Any (λ r. length r ≡ min (length p) (shortest (q ∷ qs))) (p ∷ (q ∷ qs))
    go (inl less) rest = here (omega arith)
    go (inr past) rest = there (any_map (λ r e. omega arith) rest)
