-- Worked examples, by computation: small plans over small rows. The letters A and B are 0 and 1, and as steps the sets 1 and 2.
use Rattle.std.specs.Prelude.{◌≡◌, ℕ, List, [], ◌∷◌, reverse, Some, None}
use Rattle.pattern.specs.Fits.{fits_of}
use Rattle.pattern.specs.Images.{images_of}
use Rattle.pattern.specs.Rows.{Hit, full}

abbrev pub aba : List (List ℕ)
aba = (1 ∷ 2 ∷ 1 ∷ []) ∷ []

abbrev pub ab_and_b : List (List ℕ)
ab_and_b = (1 ∷ 2 ∷ []) ∷ (2 ∷ []) ∷ []

abbrev pub hit : ℕ → ℕ → ℕ → Hit
hit start end marks = record { start = start; end = end; marks = marks }

pub record Examples : Type 0 where
  -- the pattern ABA over ABABA
  pub overlapping : full (images_of aba) (Some 0 ∷ Some 1 ∷ Some 0 ∷ Some 1 ∷ Some 0 ∷ []) ≡ hit 0 2 1 ∷ hit 2 4 1 ∷ []
  -- the lines AB and B over AB: at one end, the later start first
  pub two_lines : full (images_of ab_and_b) (Some 0 ∷ Some 1 ∷ []) ≡ hit 1 1 2 ∷ hit 0 1 1 ∷ []
  -- the pattern A over A, damage, A
  pub damaged : full (images_of ((1 ∷ []) ∷ [])) (Some 0 ∷ None ∷ Some 0 ∷ []) ≡ hit 0 0 1 ∷ hit 2 2 1 ∷ []
  -- the fits of the words A, B A and A B A in ABA: A closes at step 2 and is inner at step 0; B A is the text AB, inner at step 0;
  -- A B A closes at step 0
  pub fits_a : fits_of aba (reverse (0 ∷ [])) ≡ (4, 1)
  pub fits_ba : fits_of aba (reverse (1 ∷ 0 ∷ [])) ≡ (0, 1)
  pub fits_aba : fits_of aba (reverse (0 ∷ 1 ∷ 0 ∷ [])) ≡ (1, 0)
