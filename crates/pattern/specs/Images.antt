-- What a search looks for: a set of texts, the images, each with its marks.
-- All else is proved of any such set. Only `images_of`, and `fitting` of Fits, know what a pattern is.
use Rattle.std.specs.Prelude.{◌≡◌, ℕ, ◌<◌, ◌≤◌, true, ◌⊎◌, ◌↔◌, List, [], ◌∷◌, ◌++◌, length, ◌≢◌}
use Rattle.pattern.specs.Patterns.{spells, marks_of, shortest}
use Rattle.pattern.specs.Fits.{rests, begins, Fitting}

-- some element of the list has the property
pub data Any {A : Type 0} (P : A → Type 0) : List A → Type 0 where
  here : {x : A} {xs : List A} → P x → Any P (x ∷ xs)
  there : {x : A} {xs : List A} → Any P xs → Any P (x ∷ xs)

-- the marks of a text say which images it is (0: it is none); the factors, and the proper prefixes of images; the shortest length
pub record Images : Type 1 where
  pub marks : List ℕ → ℕ
  pub Factor : List ℕ → Type 0
  pub Proper : List ℕ → Type 0
  pub shortest : ℕ

abbrev pub Image : Images → List ℕ → Type 0
Image images t = 0 < images.marks t

-- what a search needs to know of them
pub record Lawful (images : Images) : Type 0 where
  -- a front of an image, with letters left over, is a proper prefix
  pub front_proper : (u v : List ℕ) → 0 < length u → 0 < length v → 0 < images.marks (u ++ v) → images.Proper u
  pub image_factor : (t : List ℕ) → 0 < length t → 0 < images.marks t → images.Factor t
  pub proper_factor : (t : List ℕ) → 0 < length t → images.Proper t → images.Factor t
  -- an end of a factor is a factor
  pub factor_end : (u v : List ℕ) → 0 < length v → images.Factor (u ++ v) → images.Factor v
  -- no image is shorter than the shortest length
  pub least : (t : List ℕ) → 0 < images.marks t → images.shortest ≤ length t
  -- where the shortest length is 0 there are no images
  pub none : images.shortest ≡ 0 → (t : List ℕ) → images.marks t ≡ 0

-- in a row of so many cells, reading back from one place fetches at most `each` cells: as many as there are, or one more than
-- the longest factor has letters
abbrev pub Each : Images → ℕ → ℕ → Type 0
Each images cells each = (cells ≤ each) ⊎ ((0 < each) × ((t : List ℕ) → 0 < length t → images.Factor t → length t < each))

-- fits tell all that is asked of a text, over the letters below K
pub record FittingLawful (K : ℕ) (images : Images) (f : Fitting) : Type 0 where
  pub one : (a : ℕ) → a < K → f.fits_of (a ∷ []) ≡ f.first a
  -- the fits of a longer text depend only on the fits and the letter
  pub more : (a : ℕ) (t : List ℕ) → a < K → 0 < length t → f.fits_of (a ∷ t) ≡ f.extend (f.fits_of t) a
  -- a text fits somewhere exactly if it is a factor
  pub somewhere : (t : List ℕ) → 0 < length t → images.Factor t ↔ (f.fits_of t ≢ (0, 0))
  pub marked : (t : List ℕ) → 0 < length t → f.marks (f.fits_of t) ≡ images.marks t
  pub prefixed : (t : List ℕ) → 0 < length t → (f.prefix (f.fits_of t) ≡ true) ↔ images.Proper t

-- ---- parts of texts with marks

-- the text is a part of an image
pub record PartOf (marks : List ℕ → ℕ) (t : List ℕ) : Type 0 where
  pub before : List ℕ
  pub after : List ℕ
  pub whole : 0 < marks (before ++ (t ++ after))

-- the text is a proper prefix of an image: letters are left over
pub record FrontOf (marks : List ℕ → ℕ) (t : List ℕ) : Type 0 where
  pub after : List ℕ
  pub more : 0 < length after
  pub whole : 0 < marks (t ++ after)

-- ---- the images of a plan

-- from a step on, with these steps left, the text fits: closing, or inner
abbrev pub FitsAt : List ℕ → List ℕ → Type 0
FitsAt t rest = (spells rest t ≡ true) ⊎ (begins rest t ≡ true)

-- a text is a factor if it fits at some step, and a proper prefix if some image is longer and begins with it
abbrev pub images_of : List (List ℕ) → Images
images_of plan = record { marks = marks_of plan; Factor = λ t. Any (FitsAt t) (rests plan); Proper = FrontOf (marks_of plan); shortest = shortest plan }
