-- Words, and the order in which they are judged.
-- A word is kept in reading order: the log is read backwards, so its first letter is the latest event. Turned into log order it
-- is a text, `reverse w`.
use Rattle.std.specs.Prelude.{◌≡◌, ℕ, ◌<◌, ◌⊎◌, ◌↔◌, List, [], ◌∷◌, reverse, length}

infix 4 ◌≺◌ ◌≼◌
abbrev pub Word : Type 0
Word = List ℕ

-- at the first letter that differs, that of the left word is the smaller
abbrev pub Smaller : Word → Word → Type 0
Smaller [] v = ⊥
Smaller (a ∷ u) [] = ⊥
Smaller (a ∷ u) (b ∷ v) = (a < b) ⊎ ((a ≡ b) × Smaller u v)

-- word order: the shorter first, then by the first letter that differs
abbrev pub Precedes : Word → Word → Type 0
Precedes u v = (length u < length v) ⊎ ((length u ≡ length v) × Smaller u v)

-- ---- the same order on texts, for proofs: a text grows at its front as the reading goes back, so its first letter was read last

-- u·a comes before v·b where u comes before v, or where u is v and a is below b
abbrev pub ◌≺◌ : List ℕ → List ℕ → Type 0
[] ≺ [] = ⊥
[] ≺ (b ∷ v) = Unit {0}
(a ∷ u) ≺ [] = ⊥
(a ∷ u) ≺ (b ∷ v) = (u ≺ v) ⊎ ((u ≡ v) × (a < b))

abbrev pub ◌≼◌ : List ℕ → List ℕ → Type 0
u ≼ v = (u ≡ v) ⊎ (u ≺ v)

-- the order of words is that of their texts; and it is a strict total order
pub record WordOrder : Type 0 where
  pub by_texts : (u v : Word) → Precedes u v ↔ (reverse u ≺ reverse v)
  pub irreflexive : (u : Word) → Precedes u u → ⊥
  pub transitive : (u v w : Word) → Precedes u v → Precedes v w → Precedes u w
  pub total : (u v : Word) → (u ≡ v) ⊎ (Precedes u v ⊎ Precedes v u)
