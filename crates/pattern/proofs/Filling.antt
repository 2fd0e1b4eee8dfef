-- Where every step admits a letter, a part of the steps is a part of an image.
use Rattle.std.proofs.Common.{◌≡◌, ℕ, zero, suc, ◌*◌, ◌^◌, ◌<◌, true, ◌↔◌, List, [], ◌∷◌, ◌++◌, length, get_or, sym, refl, ap, subst, inl, inr, append-nil, pow-suc, arith, length-append}
use mathlib.Core.Bool.{false≢true}
use Rattle.std.proofs.lemmas.Bool.{and_parts, and_from}
use Rattle.pattern.specs.Patterns.{admits, spells, marks_of, shortest, Filled}
use Rattle.pattern.specs.Fits.{bit, tails, rests, begins}
use Rattle.pattern.specs.Images.{Any, here, there, PartOf, FrontOf, FitsAt}
use Rattle.pattern.proofs.Bitwise.{some_bit}
use Rattle.pattern.proofs.Any.{any_map, any_cases}
use Rattle.pattern.proofs.Spelling.{spells_length, spells_append, spells_begins, image_factor, image_marks, marks_image, factor_front, factor_end, shortest_pattern}

-- a number is below its power of two
below_power : (n : ℕ) → n < 2 ^ n
below_power zero = omega arith
below_power (suc n) = let p : 2 ^ suc n ≡ 2 ^ n * 2 = pow-suc 2 n in omega (arith, below_power n)

-- a step that is not the empty set admits a letter
pub admits_some : (s : ℕ) → 0 < s → (a : ℕ) × (admits s a ≡ true)
unfolding admits bit
admits_some s h = some_bit s s (below_power s) h

-- no step of the pattern is the empty set
abbrev pub Letterful : List ℕ → Type 0
Letterful [] = Unit {0}
Letterful (s ∷ ss) = (0 < s) × Letterful ss

letterful : (p : List ℕ) → ((i : ℕ) → i < length p → 0 < get_or p i 0) → Letterful p
letterful [] h = tt
letterful (s ∷ ss) h = (h 0 (omega arith), letterful ss (λ i l. h (suc i) (omega arith)))

pub filled_head : (p : List ℕ) (ps : List (List ℕ)) → Filled (p ∷ ps) → Letterful p
filled_head p ps h = letterful p (h 0)

pub filled_tail : (p : List ℕ) (ps : List (List ℕ)) → Filled (p ∷ ps) → Filled ps
filled_tail p ps h j i l = h (suc j) i l

letterful_left : (ss us : List ℕ) → Letterful (ss ++ us) → Letterful ss
letterful_left [] us f = tt
letterful_left (s ∷ ss) us f = (f.0, letterful_left ss us f.1)

letterful_right : (ss us : List ℕ) → Letterful (ss ++ us) → Letterful us
letterful_right [] us f = f
letterful_right (s ∷ ss) us f = letterful_right ss us f.1

-- steps that admit letters spell a text
some_text : (ss : List ℕ) → Letterful ss → (t : List ℕ) × (spells ss t ≡ true)
unfolding spells
some_text [] f = ([], refl)
some_text (s ∷ ss) f =
    let a = admits_some s f.0 in
    let r = some_text ss f.1 in
    (a.0 ∷ r.0, and_from (admits s a.0) (spells ss r.0) a.1 r.1)

-- the steps that spell the text, among those of a pattern
record Part (t steps : List ℕ) : Type 0 where
  before : List ℕ
  mid : List ℕ
  after : List ℕ
  is : steps ≡ before ++ (mid ++ after)
  spelled : spells mid t ≡ true

-- from the first step on, with steps left over
record Front (t steps : List ℕ) : Type 0 where
  mid : List ℕ
  after : List ℕ
  is : steps ≡ mid ++ after
  more : 0 < length after
  spelled : spells mid t ≡ true

front_of : (r t : List ℕ) → begins r t ≡ true → Front t r
unfolding begins spells
front_of [] t h = absurd (false≢true h)
front_of (s ∷ ss) [] h = record { mid = []; after = s ∷ ss; is = refl; more = omega arith; spelled = refl }
front_of (s ∷ ss) (a ∷ t) h =
    let both = and_parts (admits s a) (begins ss t) h in
    let r = front_of ss t both.1 in
    record { mid = s ∷ r.mid; after = r.after; is = ap {B = List ℕ} (λ x. s ∷ x) r.is; more = r.more; spelled = and_from _ _ both.0 r.spelled }

part_from : (t r : List ℕ) → FitsAt t r → Part t r
part_from t r (inl h) = record { before = []; mid = r; after = []; is = sym (append-nil r); spelled = h }
part_from t r (inr h) = let f = front_of r t h in record { before = []; mid = f.mid; after = f.after; is = f.is; spelled = f.spelled }

part_in : (t p : List ℕ) → Any (FitsAt t) (tails p) → Part t p
unfolding tails
part_in t [] h = elim h [ ]
part_in t (s ∷ ss) (here h) = part_from t (s ∷ ss) h
part_in t (s ∷ ss) (there h) =
    let r = part_in t ss h in
    record { before = s ∷ r.before; mid = r.mid; after = r.after; is = ap {B = List ℕ} (λ x. s ∷ x) r.is; spelled = r.spelled }

-- the same in an image
record Shown (plan : List (List ℕ)) (t : List ℕ) : Type 0 where
  before : List ℕ
  after : List ℕ
  whole : Any (λ p. spells p (before ++ (t ++ after)) ≡ true) plan

shown : (t p : List ℕ) (ps : List (List ℕ)) → Letterful p → Part t p → Shown (p ∷ ps) t
shown t p ps f h =
    let all : Letterful (h.before ++ (h.mid ++ h.after)) = subst Letterful h.is f in
    let b = some_text h.before (letterful_left h.before (h.mid ++ h.after) all) in
    let a = some_text h.after (letterful_right h.mid h.after (letterful_right h.before (h.mid ++ h.after) all)) in
    record {
      before = b.0;
      after = a.0;
      whole = here (subst (λ (ss : List ℕ). spells ss (b.0 ++ (t ++ a.0)) ≡ true) (sym h.is) (spells_append h.before (h.mid ++ h.after) b.0 (t ++ a.0) b.1 (spells_append h.mid h.after t a.0 h.spelled a.1)));
    }

factor_shown : (plan : List (List ℕ)) → Filled plan → (t : List ℕ) → Any (FitsAt t) (rests plan) → Shown plan t
unfolding rests
factor_shown [] f t h = elim h [ ]
factor_shown (p ∷ ps) f t h = elim (any_cases (tails p) (rests ps) h) [
  | inl x ↦ shown t p ps (filled_head p ps f) (part_in t p x)
  | inr x ↦ let r = factor_shown ps (filled_tail p ps f) t x in record { before = r.before; after = r.after; whole = there r.whole }
]

pub parts : (plan : List (List ℕ)) → Filled plan → (t : List ℕ) → 0 < length t → Any (FitsAt t) (rests plan) ↔ PartOf (marks_of plan) t
parts plan f t some = (
  λ h. let r = factor_shown plan f t h in record { before = r.before; after = r.after; whole = image_marks plan _ r.whole },
  λ h. factor_front plan t h.after (factor_end plan h.before (t ++ h.after) (more h.after) (image_factor (h.before ++ (t ++ h.after)) plan (more' h.before h.after) (marks_image plan _ h.whole))),
)
  where
    more : (v : List ℕ) → 0 < length (t ++ v)
    more v = rw (length-append t v) (omega arith)

    more' : (u v : List ℕ) → 0 < length (u ++ (t ++ v))
    more' u v = rw (length-append u (t ++ v), length-append t v) (omega arith)

-- a pattern that goes on after the text shows an image that does
goes_on : (plan : List (List ℕ)) → Filled plan → (t : List ℕ) → Any (λ p. begins p t ≡ true) plan → (v : List ℕ) × (0 < length v) × Any (λ p. spells p (t ++ v) ≡ true) plan
goes_on [] f t h = elim h [ ]
goes_on (p ∷ ps) f t (there h) = let r = goes_on ps (filled_tail p ps f) t h in (r.0, r.1, there r.2)
goes_on (p ∷ ps) f t (here h) =
    let r = front_of p t h in
    let a = some_text r.after (letterful_right r.mid r.after (subst Letterful r.is (filled_head p ps f))) in
    let whole : spells (r.mid ++ r.after) (t ++ a.0) ≡ true = spells_append r.mid r.after t a.0 r.spelled a.1 in
    (a.0, omega (arith, spells_length r.after a.0 a.1, r.more), here (subst (λ (ss : List ℕ). spells ss (t ++ a.0) ≡ true) (sym r.is) whole))

pub fronts : (plan : List (List ℕ)) → Filled plan → (t : List ℕ) → Any (λ p. begins p t ≡ true) plan ↔ FrontOf (marks_of plan) t
fronts plan f t = (
  λ h. let r = goes_on plan f t h in record { after = r.0; more = r.1; whole = image_marks plan _ r.2 },
  λ h. any_map (λ p. spells_begins p t h.after h.more) (marks_image plan _ h.whole),
)

-- a shortest pattern has an image
pub shortest_image : (plan : List (List ℕ)) → 0 < length plan → Filled plan → (t : List ℕ) × (0 < marks_of plan t) × (length t ≡ shortest plan)
shortest_image plan some f =
    let r = go (shortest plan) plan f (shortest_pattern plan some) in
    (r.0, image_marks plan r.0 r.1, r.2)
  where
    go : (n : ℕ) (ps : List (List ℕ)) → Filled ps → Any (λ p. length p ≡ n) ps → (t : List ℕ) × Any (λ p. spells p t ≡ true) ps × (length t ≡ n)
    go n [] f h = elim h [ ]
    go n (p ∷ ps) f (here h) = let r = some_text p (filled_head p ps f) in (r.0, here r.1, omega (arith, h, spells_length p r.0 r.1))
    go n (p ∷ ps) f (there h) = let r = go n ps (filled_tail p ps f) h in (r.0, there r.1, r.2)
