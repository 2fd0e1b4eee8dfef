-- A sheet whose states carry the fits of the texts that lead to them is right.
use Rattle.std.proofs.Common.{◌≡◌, ℕ, ◌<◌, List, [], ◌∷◌, length, Some, None, Option, sym, refl, ap, ◌∙◌, subst, arith}
use Rattle.pattern.specs.Fits.{Fitting, fitting}
use Rattle.pattern.specs.Images.{Images, Lawful, FittingLawful, images_of}
use Rattle.pattern.specs.Rows.{Letters}
use Rattle.pattern.proofs.Laws.{lawful, fits}
use Rattle.automaton.specs.Automata.{Automaton, Right, onward, led}
use Rattle.automaton.proofs.Fitting.{none_more}
use Rattle.automaton.specs.Tagged.{Goes, Tagged, TaggedSheetsAreRight}

module _ (K : ℕ) (images : Images) (laws : Lawful images) (f : Fitting) (ok : FittingLawful K images f) (sheet : Automaton) (states : ℕ) (tag : ℕ → ℕ × ℕ) (tagged : Tagged K f sheet states tag) where
  leads : (t : List ℕ) → Letters K t → 0 < length t → Goes states tag (led sheet t) (f.fits_of t)
  unfolding led
  leads [] l some = absurd (omega arith)
  leads (a ∷ []) l some = rw (ok.one a l.0) (tagged.begins a l.0)
  leads (a ∷ (b ∷ t)) l some = go (led sheet (b ∷ t)) (leads (b ∷ t) l.1 (omega arith))
    where
      go : (r : Option ℕ) → Goes states tag r (f.fits_of (b ∷ t)) → Goes states tag (onward sheet r a) (f.fits_of (a ∷ (b ∷ t)))
      go None h = none_more K images laws f ok a (b ∷ t) (omega arith) h
      go (Some q) h = rw (ok.more a (b ∷ t) l.0 (omega arith), ← h.1) (tagged.goes q a h.0 l.0)

  at : (t : List ℕ) (q : ℕ) → Letters K t → 0 < length t → led sheet t ≡ Some q → Goes states tag (Some q) (f.fits_of t)
  at t q l some e = subst (λ (r : Option ℕ). Goes states tag r (f.fits_of t)) e (leads t l some)

  found : (t : List ℕ) → Letters K t → 0 < length t → images.Factor t → (q : ℕ) × (led sheet t ≡ Some q)
  found t l some h = go (led sheet t) refl
    where
      go : (r : Option ℕ) → led sheet t ≡ r → (q : ℕ) × (led sheet t ≡ Some q)
      go None e = absurd ((ok.somewhere t some).0 h (subst (λ (r : Option ℕ). Goes states tag r (f.fits_of t)) e (leads t l some)))
      go (Some q) e = (q, e)

  pub tagged_right : Right K images sheet
  tagged_right =
      record {
        fits = λ t q l some e. (ok.somewhere t some).1 (at t q l some e).2;
        reaches = found;
        marked = λ t q l some e. tagged.marked q (at t q l some e).0 ∙ ap f.marks (at t q l some e).1 ∙ ok.marked t some;
        prefixed = λ t q l some e.
            let same : sheet.prefix q ≡ f.prefix (f.fits_of t) = tagged.prefixed q (at t q l some e).0 ∙ ap f.prefix (at t q l some e).1 in
            (λ h. (ok.prefixed t some).0 (sym same ∙ h), λ h. same ∙ (ok.prefixed t some).1 h);
      }

pub tagged_sheets_are_right_lem : TaggedSheetsAreRight
tagged_sheets_are_right_lem K plan well = tagged_right K (images_of plan) (lawful plan well.nonempty) (fitting plan) (fits plan well K)
