-- The laws of plans.
use Rattle.std.proofs.Common.{◌≡◌, ℕ, suc, ◌<◌, ◌↔◌, List, [], ◌∷◌, ◌++◌, length, sym, refl, inl, inr, arith, length-append}
use Rattle.std.proofs.lemmas.Bool.{cases_eq}
use Rattle.pattern.specs.Patterns.{marks_of, shortest}
use Rattle.pattern.specs.Fits.{fitting, Nonempty}
use Rattle.pattern.specs.Images.{Any, here, there, Lawful, FittingLawful, images_of}
use Rattle.pattern.specs.Laws.{Wellformed, PlansAreLawful}
use Rattle.pattern.proofs.Spelling.{longest_steps, never_both, factor_length, image_factor, factor_end, factor_front, marks_image, image_length, shortest_pattern}
use Rattle.pattern.proofs.Extends.{closing_one, inner_one, closing_more, inner_more}
use Rattle.pattern.proofs.Marks.{prefix_is, marks_read}
use Rattle.pattern.proofs.Factors.{somewhere, nowhere, none_both}
use Rattle.pattern.proofs.Filling.{admits_some, parts, fronts, shortest_image}

pair : {a b c d : ℕ} → a ≡ c → b ≡ d → ◌≡◌ {A = ℕ × ℕ} (a, b) (c, d)
pair e f = λ i. (e i, f i)

-- a plan of patterns with steps has the shortest length 0 only where it has no pattern
pub some_shortest : (plan : List (List ℕ)) → Nonempty plan → 0 < length plan → 0 < shortest plan
some_shortest plan some more = go (shortest plan) plan some (shortest_pattern plan more)
  where
    go : (n : ℕ) (ps : List (List ℕ)) → Nonempty ps → Any (λ p. length p ≡ n) ps → 0 < n
    go n [] some h = elim h [ ]
    go n (p ∷ ps) some (here h) = omega (arith, some 0 (omega arith))
    go n (p ∷ ps) some (there h) = go n ps (λ j l. some (suc j) (omega arith)) h

no_shortest : (plan : List (List ℕ)) → length plan ≡ 0 → shortest plan ≡ 0
unfolding shortest
no_shortest [] e = refl
no_shortest (p ∷ ps) e = absurd (omega arith)

no_marks : (plan : List (List ℕ)) → length plan ≡ 0 → (t : List ℕ) → marks_of plan t ≡ 0
unfolding marks_of
no_marks [] e t = refl
no_marks (p ∷ ps) e t = absurd (omega arith)

shortest_none : (plan : List (List ℕ)) → Nonempty plan → (shortest plan ≡ 0) ↔ (length plan ≡ 0)
shortest_none plan some = (
  λ e. elim (cases_eq (length plan) 0) [ inl z ↦ z | inr ne ↦ absurd (omega (arith, some_shortest plan some (omega arith))) ],
  no_shortest plan,
)

pub lawful : (plan : List (List ℕ)) → Nonempty plan → Lawful (images_of plan)
lawful plan some =
    record {
      front_proper = λ u v a b h. record { after = v; more = b; whole = h };
      image_factor = λ t a h. image_factor t plan a (marks_image plan t h);
      proper_factor = λ t a h. factor_front plan t h.after (image_factor (t ++ h.after) plan (rw (length-append t h.after) (omega arith)) (marks_image plan (t ++ h.after) h.whole));
      factor_end = λ u v a h. factor_end plan u v a h;
      least = λ t h. image_length plan t (marks_image plan t h);
      none = λ e. no_marks plan ((shortest_none plan some).0 e);
    }

pub fits : (plan : List (List ℕ)) → Wellformed plan → (K : ℕ) → FittingLawful K (images_of plan) (fitting plan)
fits plan well K =
    record {
      one = λ a l. pair (sym (closing_one plan well.few a)) (sym (inner_one plan well.few a));
      more = λ a t l more. pair (sym (closing_more plan well.few a t more)) (sym (inner_more plan well.few a t));
      somewhere = λ t more. somewhere plan t more;
      marked = λ t more. marks_read plan well.nonempty t;
      prefixed = λ t more. (
        λ h. (fronts plan well.filled t).0 ((prefix_is plan well.few t).0 h),
        λ h. (prefix_is plan well.few t).1 ((fronts plan well.filled t).1 h),
      );
    }

pub laws : PlansAreLawful
laws plan =
    record {
      lawful = lawful plan;
      fits = fits plan;
      somewhere = somewhere plan;
      factor_front = factor_front plan;
      factor_end = factor_end plan;
      bounded = λ t h. factor_length t plan h;
      nowhere = nowhere plan;
      longest_steps = longest_steps plan;
      each = λ cells. inr (omega arith, λ t some h. omega (arith, factor_length t plan h));
      admitting = λ h j i l. admits_some _ (h j i l);
      apart = none_both plan;
      never_both = never_both;
      parts = parts plan;
      shortest_pattern = shortest_pattern plan;
      shortest_image = shortest_image plan;
      shortest_none = shortest_none plan;
    }
