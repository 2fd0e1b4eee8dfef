-- What the answers of `first`, `extend`, `marks` and `is_prefix` say of texts.
use Rattle.std.proofs.Common.{◌≡◌, ℕ, suc, ◌-◌, ◌/◌, ◌^◌, ◌<◌, Bool, true, not, eqb, ◌↔◌, List, [], ◌∷◌, length, sym, ap, ◌∙◌, subst, arith}
use lib.Bits.{bit_and}
use Rattle.pattern.specs.Patterns.{marks_of}
use Rattle.pattern.specs.Fits.{fits_of, fitting, admit_of}
use Rattle.pattern.specs.Images.{FittingLawful, FrontOf, images_of}
use Rattle.pattern.proofs.Laws.{laws}
use Rattle.plan.specs.Views.{patterns_of}
use Rattle.plan.specs.declared.Plan.{Plan}
use Rattle.plan.proofs.Soundness.{sound}

lawful : (plan : Plan) (K : ℕ) → FittingLawful K (images_of (patterns_of plan)) (fitting (patterns_of plan))
lawful plan K = (laws (patterns_of plan)).fits (sound plan).well K

module _ (plan : Plan) (a admitting : ℕ) (is : admitting ≡ admit_of (patterns_of plan) a) where
  pub first_word : (bit_and admitting plan.ends, bit_and admitting ((2 ^ 64 - 1) - plan.ends)) ≡ fits_of (patterns_of plan) (a ∷ [])
  first_word =
      let here : (bit_and admitting plan.ends, bit_and admitting ((2 ^ 64 - 1) - plan.ends)) ≡ (fitting (patterns_of plan)).first a = rw (is, plan.tables.ended) in
      here ∙ sym ((lawful plan (suc a)).one a (omega arith))

  abbrev shift : ℕ → ℕ
  shift set = bit_and (bit_and set ((2 ^ 64 - 1) - plan.starts) / 2) admitting

  pub extend_word : (f : ℕ × ℕ) (t : List ℕ) → 0 < length t → f ≡ fits_of (patterns_of plan) t → (shift f.0, shift f.1) ≡ fits_of (patterns_of plan) (a ∷ t)
  extend_word f t some same =
      let here : (shift f.0, shift f.1) ≡ (fitting (patterns_of plan)).extend f a = rw (is, plan.tables.opened) in
      here ∙ ap (λ (g : ℕ × ℕ). (fitting (patterns_of plan)).extend g a) same ∙ sym ((lawful plan (suc a)).more a t (omega arith) some)

pub marks_word : (plan : Plan) (f : ℕ × ℕ) (r : ℕ) → r ≡ (fitting (patterns_of plan)).marks f → (t : List ℕ) → 0 < length t → f ≡ fits_of (patterns_of plan) t → r ≡ marks_of (patterns_of plan) t
marks_word plan f r e t some same = e ∙ ap (fitting (patterns_of plan)).marks same ∙ (lawful plan 0).marked t some

pub prefix_word : (plan : Plan) (f : ℕ × ℕ) (t : List ℕ) → 0 < length t → f ≡ fits_of (patterns_of plan) t → (not (eqb (bit_and f.1 plan.starts) 0) ≡ true) ↔ FrontOf (marks_of (patterns_of plan)) t
prefix_word plan f t some same =
    let here : not (eqb (bit_and f.1 plan.starts) 0) ≡ (fitting (patterns_of plan)).prefix f = rw plan.tables.opened in
    subst (λ (b : Bool). (b ≡ true) ↔ FrontOf (marks_of (patterns_of plan)) t) (sym (here ∙ ap (fitting (patterns_of plan)).prefix same)) ((lawful plan 0).prefixed t some)
