-- Fits that are nowhere, and what becomes of them.
use Rattle.std.proofs.Common.{◌≡◌, ℕ, ◌<◌, true, false, eqb, List, [], ◌∷◌, length, ap, inl, inr, arith}
use Rattle.std.proofs.lemmas.Bool.{and_parts, cases_eq, eqb-true, both_ways}
use Rattle.pattern.specs.Fits.{Fitting}
use Rattle.pattern.specs.Images.{Images, Lawful, FittingLawful}
use Rattle.automaton.specs.Judging.{nowhere}

pub nowhere_none : (x : ℕ × ℕ) → nowhere x ≡ true → x ≡ (0, 0)
nowhere_none x h =
    let b = and_parts (eqb x.0 0) (eqb x.1 0) h in
    λ i. (eqb-true x.0 0 b.0 i, eqb-true x.1 0 b.1 i)

pub none_nowhere : (x : ℕ × ℕ) → x ≡ (0, 0) → nowhere x ≡ true
none_nowhere x e = ap nowhere e

pub somewhere_else : (x : ℕ × ℕ) → nowhere x ≡ false → x ≡ (0, 0) → ⊥
somewhere_else x h e = both_ways (nowhere x) h (none_nowhere x e)

module _ (K : ℕ) (images : Images) (laws : Lawful images) (f : Fitting) (ok : FittingLawful K images f) where
  none_unless : (x : ℕ × ℕ) → ((x ≡ (0, 0) → ⊥) → ⊥) → x ≡ (0, 0)
  none_unless x h =
      elim (cases_eq x.0 0) [
        | inl e ↦ elim (cases_eq x.1 0) [ inl g ↦ λ i. (e i, g i) | inr ne ↦ absurd (h (λ g. ne (ap (λ (z : ℕ × ℕ). z.1) g))) ]
        | inr ne ↦ absurd (h (λ g. ne (ap (λ (z : ℕ × ℕ). z.0) g)))
      ]

  -- once there is no fit, there is none after more letters
  pub none_more : (a : ℕ) (t : List ℕ) → 0 < length t → f.fits_of t ≡ (0, 0) → f.fits_of (a ∷ t) ≡ (0, 0)
  none_more a t some e =
      none_unless (f.fits_of (a ∷ t)) (λ h. (ok.somewhere t some).0 (laws.factor_end (a ∷ []) t some ((ok.somewhere (a ∷ t) (omega arith)).1 h)) e)
