-- Some element of a list.
use Rattle.std.proofs.Common.{ℕ, zero, suc, ◌⊎◌, List, [], ◌∷◌, ◌++◌, get_or, inl, inr}
use Rattle.pattern.specs.Images.{Any, here, there}

pub any_map : {A : Type 0} {P Q : A → Type 0} → ((x : A) → P x → Q x) → {xs : List A} → Any P xs → Any Q xs
any_map f (here {x = x} h) = here (f x h)
any_map f (there h) = there (any_map f h)

pub any_left : {A : Type 0} {P : A → Type 0} (xs ys : List A) → Any P xs → Any P (xs ++ ys)
any_left [] ys h = elim h [ ]
any_left (x ∷ xs) ys (here h) = here h
any_left (x ∷ xs) ys (there h) = there (any_left xs ys h)

pub any_right : {A : Type 0} {P : A → Type 0} (xs ys : List A) → Any P ys → Any P (xs ++ ys)
any_right [] ys h = h
any_right (x ∷ xs) ys h = there (any_right xs ys h)

pub any_cases : {A : Type 0} {P : A → Type 0} (xs ys : List A) → Any P (xs ++ ys) → Any P xs ⊎ Any P ys
any_cases [] ys h = inr h
any_cases (x ∷ xs) ys (here h) = inl (here h)
any_cases (x ∷ xs) ys (there h) = elim (any_cases xs ys h) [ inl a ↦ inl (there a) | inr b ↦ inr b ]

-- by its place, where the default has not the property
pub any_at : {A : Type 0} {P : A → Type 0} (d : A) → (P d → ⊥) → (xs : List A) (i : ℕ) → P (get_or xs i d) → Any P xs
any_at d none [] i h = absurd (none h)
any_at d none (x ∷ xs) zero h = here h
any_at d none (x ∷ xs) (suc i) h = there (any_at d none xs i h)

pub any_place : {A : Type 0} {P : A → Type 0} (d : A) (xs : List A) → Any P xs → (i : ℕ) × P (get_or xs i d)
any_place d [] h = elim h [ ]
any_place d (x ∷ xs) (here h) = (zero, h)
any_place d (x ∷ xs) (there h) = let r = any_place d xs h in (suc r.0, r.1)
