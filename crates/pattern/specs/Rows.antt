-- Rows of cells, and the full list of a row's hits. A row is a list of cells, each a letter or damage (None).
use Rattle.std.specs.Prelude.{◌≡◌, ℕ, zero, suc, ◌-◌, ◌<◌, ◌≤◌, ◌⊎◌, ◌↔◌, List, [], ◌∷◌, ◌++◌, length, Some, None, Option, slice_index_or}
use Rattle.pattern.specs.Images.{Images, Any, images_of}

-- the cell at a place: None where it is damaged, and past the row's end
abbrev pub cell : List (Option ℕ) → ℕ → Option ℕ
cell row i = slice_index_or row i None

-- one letter more before a text
abbrev pub cons : Option ℕ → Option (List ℕ) → Option (List ℕ)
cons None t = None
cons (Some a) None = None
cons (Some a) (Some t) = Some (a ∷ t)

-- the letters of the n cells from s on, if none is damaged
unfoldable pub text : List (Option ℕ) → ℕ → ℕ → Option (List ℕ)
text row s zero = Some []
text row s (suc n) = cons (cell row s) (text row (suc s) n)

-- every letter is below K
abbrev pub Letters : ℕ → List ℕ → Type 0
Letters K [] = Unit {0}
Letters K (a ∷ t) = (a < K) × Letters K t

-- every undamaged cell holds a letter below K
abbrev pub Lettered : ℕ → List (Option ℕ) → Type 0
Lettered K row = (i a : ℕ) → cell row i ≡ Some a → a < K

-- the cells from start to end, both counted, are an image with these marks
pub record Hit : Type 0 where
  pub start : ℕ
  pub end : ℕ
  pub marks : ℕ

-- a hit, unless there are no marks
abbrev pub hit_if : ℕ → ℕ → ℕ → List Hit
hit_if s e zero = []
hit_if s e (suc m) = record { start = s; end = e; marks = suc m } ∷ []

-- the hit of the cells from s to e, if they are undamaged and an image
abbrev pub hit_of : Images → ℕ → ℕ → Option (List ℕ) → List Hit
hit_of images s e None = []
hit_of images s e (Some t) = hit_if s e (images.marks t)

-- the hits that end at e and start below s, by falling start: n cells lie from s to e
unfoldable pub end_hits : Images → List (Option ℕ) → ℕ → ℕ → ℕ → List Hit
end_hits images row e zero n = []
end_hits images row e (suc s) n = hit_of images s e (text row s (suc n)) ++ end_hits images row e s (suc n)

-- the hits of the k ends from e on
unfoldable pub later_hits : Images → List (Option ℕ) → ℕ → ℕ → List Hit
later_hits images row e zero = []
later_hits images row e (suc k) = end_hits images row e (suc e) 0 ++ later_hits images row (suc e) k

-- every hit of the row: by rising end, at equal ends by falling start
unfoldable pub full : Images → List (Option ℕ) → List Hit
full images row = later_hits images row 0 (length row)

-- the hit is one of the list
abbrev pub In : Hit → List Hit → Type 0
In h hs = Any (λ x. h ≡ x) hs

-- what a hit of a row is: undamaged cells inside it that form an image, and the marks of that image
pub record IsHit (images : Images) (row : List (Option ℕ)) (h : Hit) : Type 0 where
  pub ordered : h.start ≤ h.end
  pub inside : h.end < length row
  pub t : List ℕ
  pub read : text row h.start (suc h.end - h.start) ≡ Some t
  pub spelled : h.marks ≡ images.marks t
  pub some : 0 < h.marks

-- the order of hits: by rising end, at equal ends by falling start
abbrev pub Before : Hit → Hit → Type 0
Before h g = (h.end < g.end) ⊎ ((h.end ≡ g.end) × (g.start < h.start))

-- each hit comes before all that follow it, so none stands twice
abbrev pub Sorted : List Hit → Type 0
Sorted [] = Unit {0}
Sorted (h ∷ hs) = ((g : Hit) → In g hs → Before h g) × Sorted hs

-- the full list has the row's hits and no others, each once, in order
pub record FullList (images : Images) (row : List (Option ℕ)) : Type 0 where
  pub has : (h : Hit) → IsHit images row h ↔ In h (full images row)
  pub sorted : Sorted (full images row)

-- (the proof has it of any images)
abbrev pub FullListHolds : Type 0
FullListHolds = (plan : List (List ℕ)) (row : List (Option ℕ)) → FullList (images_of plan) row
