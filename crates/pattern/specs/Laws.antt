-- What is known of a plan's images and fits: later proofs use these laws, and not how patterns, images and fits are defined.
use Rattle.std.specs.Prelude.{◌≡◌, ℕ, ◌+◌, ◌<◌, ◌≤◌, true, ◌↔◌, List, [], ◌++◌, length, ◌≢◌, bit_and, slice_index, slice_index_or}
use Rattle.pattern.specs.Patterns.{admits, spells, marks_of, shortest, longest, Filled}
use Rattle.pattern.specs.Fits.{rests, begins, closing_of, inner_of, fits_of, fitting, Nonempty}
use Rattle.pattern.specs.Images.{Any, Lawful, Each, FittingLawful, PartOf, images_of}

-- what the plan reader sees to: every pattern has a step, every step admits a letter, and there are at most 64 steps
pub record Wellformed (plan : List (List ℕ)) : Type 0 where
  pub nonempty : Nonempty plan
  pub filled : Filled plan
  pub few : length (rests plan) ≤ 64

pub record Laws (plan : List (List ℕ)) : Type 0 where
  -- all that the search asks of images
  pub lawful : Nonempty plan → Lawful (images_of plan)
  -- all that the judge and the drawing ask of fits: those of a longer text depend only on the fits and the letter, and marks and
  -- proper prefixes are read off them
  pub fits : Wellformed plan → (K : ℕ) → FittingLawful K (images_of plan) (fitting plan)
  -- a text of some letters is a factor exactly if it has a fit
  pub somewhere : (t : List ℕ) → 0 < length t → (images_of plan).Factor t ↔ (fits_of plan t ≢ (0, 0))
  -- a front, and an end, of a text that fits somewhere fit somewhere
  pub factor_front : (u v : List ℕ) → (images_of plan).Factor (u ++ v) → (images_of plan).Factor u
  pub factor_end : (u v : List ℕ) → 0 < length v → (images_of plan).Factor (u ++ v) → (images_of plan).Factor v
  -- nothing longer than the longest pattern fits
  pub bounded : (t : List ℕ) → (images_of plan).Factor t → length t ≤ longest plan
  pub nowhere : (t : List ℕ) → longest plan < length t → fits_of plan t ≡ (0, 0)
  pub longest_steps : longest plan ≤ length (rests plan)
  pub each : (cells : ℕ) → Each (images_of plan) cells (longest plan + 1)
  -- a step that is not the empty set admits a letter
  pub admitting : Filled plan → (j i : ℕ) → i < length (slice_index_or plan j []) → (a : ℕ) × (admits (slice_index (slice_index_or plan j []) i) a ≡ true)
  -- no step is a closing and an inner fit of one text; so no text is an image and a proper front of the same pattern
  pub apart : (t : List ℕ) → bit_and (closing_of plan t) (inner_of plan t) ≡ 0
  pub never_both : (p t : List ℕ) → spells p t ≡ true → begins p t ≢ true
  -- a text of some letters is a factor exactly if it is a part of an image
  pub parts : Filled plan → (t : List ℕ) → 0 < length t → (images_of plan).Factor t ↔ PartOf (marks_of plan) t
  -- the shortest length is that of a pattern, and of an image; it is 0 where there is no pattern
  pub shortest_pattern : 0 < length plan → Any (λ p. length p ≡ shortest plan) plan
  pub shortest_image : 0 < length plan → Filled plan → (t : List ℕ) × (0 < marks_of plan t) × (length t ≡ shortest plan)
  pub shortest_none : Nonempty plan → (shortest plan ≡ 0) ↔ (length plan ≡ 0)

abbrev pub PlansAreLawful : Type 0
PlansAreLawful = (plan : List (List ℕ)) → Laws plan
