-- A sheet whose states carry fits: only its table is spoken of, and no text, and yet no word is wrong for it.
use Rattle.std.specs.Prelude.{◌≡◌, ℕ, ◌<◌, List, Some, None, Option, ◌≢◌}
use Rattle.pattern.specs.Fits.{Fitting, fitting}
use Rattle.pattern.specs.Images.{images_of}
use Rattle.pattern.specs.Laws.{Wellformed}
use Rattle.automaton.specs.Automata.{Automaton, Right}

-- the states that texts of some letters lead to: those after state 1
abbrev pub After : ℕ → ℕ → Type 0
After states q = (1 < q) × (q < states)

-- no arrow where there is no fit, else one to a state with these fits
abbrev pub Goes : ℕ → (ℕ → ℕ × ℕ) → Option ℕ → ℕ × ℕ → Type 0
Goes states tag None fits = fits ≡ (0, 0)
Goes states tag (Some q) fits = After states q × (tag q ≡ fits) × (fits ≢ (0, 0))

-- the states after 1 and below `states` carry the fits `tag`
pub record Tagged (K : ℕ) (f : Fitting) (sheet : Automaton) (states : ℕ) (tag : ℕ → ℕ × ℕ) : Type 0 where
  pub begins : (a : ℕ) → a < K → Goes states tag (sheet.arrow 1 a) (f.first a)
  pub goes : (q a : ℕ) → After states q → a < K → Goes states tag (sheet.arrow q a) (f.extend (tag q) a)
  pub marked : (q : ℕ) → After states q → sheet.marks q ≡ f.marks (tag q)
  pub prefixed : (q : ℕ) → After states q → sheet.prefix q ≡ f.prefix (tag q)

-- (the proof has it of any lawful images and fits)
abbrev pub TaggedSheetsAreRight : Type 0
TaggedSheetsAreRight = (K : ℕ) (plan : List (List ℕ)) → Wellformed plan → (sheet : Automaton) (states : ℕ) (tag : ℕ → ℕ × ℕ) → Tagged K (fitting plan) sheet states tag → Right K (images_of plan) sheet
