-- Which texts write which plan: a grammar, with the set of letters that each step denotes.
use Rattle.std.specs.Prelude.{◌≡◌, ℕ, ◌+◌, ◌-◌, ◌^◌, ◌<◌, ◌≤◌, true, cond, ◌⊎◌, ◌↔◌, List, [], ◌∷◌, ◌++◌, map, length, Ok, nat_lt}
use Rattle.pattern.specs.Patterns.{admits}
use Rattle.notation.specs.Reading.{byte, read_plan}

-- the byte of a letter's sign: A to Z for the letters 0 to 25, a to f for those from 26 on
abbrev pub byte_of : ℕ → ℕ
byte_of a = cond (nat_lt a 26) (byte "A" + a) (byte "a" + (a - 26))

-- each is one of the first K letters
abbrev pub Below : ℕ → List ℕ → Type 0
Below K [] = Unit {0}
Below K (a ∷ ls) = (a < K) × Below K ls

-- the letter is one of these
abbrev pub Among : ℕ → List ℕ → Type 0
Among a [] = ⊥
Among a (b ∷ ls) = (a ≡ b) ⊎ Among a ls

-- the set of those of the first K letters that have the property
pub record SetOf (K : ℕ) (P : ℕ → Type 0) (set : ℕ) : Type 0 where
  pub small : set < 2 ^ K
  pub holds : (a : ℕ) → a < K → ((admits set a ≡ true) ↔ P a)

-- the text of a step, and the set of letters that it admits
pub data StepText (K : ℕ) : List ℕ → ℕ → Type 0 where
  -- the sign of a letter
  letter : (a : ℕ) {set : ℕ} → a < K → SetOf K (λ b. b ≡ a) set → StepText K (byte_of a ∷ []) set
  -- a dot: every letter
  dot : {set : ℕ} → SetOf K (λ b. Unit {0}) set → StepText K (byte "." ∷ []) set
  -- signs in [ and ]: one of these letters
  one_of : (ls : List ℕ) {set : ℕ} → 0 < length ls → Below K ls → SetOf K (λ b. Among b ls) set → StepText K (byte "[" ∷ map byte_of ls ++ byte "]" ∷ []) set
  -- signs in [^ and ]: one of the others, of which there is one
  none_of : (ls : List ℕ) {set : ℕ} → 0 < length ls → Below K ls → SetOf K (λ b. Among b ls → ⊥) set → 0 < set → StepText K (byte "[" ∷ byte "^" ∷ map byte_of ls ++ byte "]" ∷ []) set

-- the text of a line, and its pattern: the texts of its steps, and byte 10
pub data LineText (K : ℕ) : List ℕ → List ℕ → Type 0 where
  ends : LineText K (byte "\n" ∷ []) []
  goes : (x t : List ℕ) {set : ℕ} {p : List ℕ} → StepText K x set → LineText K t p → LineText K (x ++ t) (set ∷ p)

-- the text writes the plan: the texts of its lines, each with a step
pub data Writes (K : ℕ) : List ℕ → List (List ℕ) → Type 0 where
  nothing : Writes K [] []
  line : (x t : List ℕ) {p : List ℕ} {ps : List (List ℕ)} → LineText K x p → 0 < length p → Writes K t ps → Writes K (x ++ t) (p ∷ ps)

-- how many steps there are in all
abbrev pub all_steps : List (List ℕ) → ℕ
all_steps [] = 0
all_steps (p ∷ ps) = length p + all_steps ps

-- the limits: 1 to 32 letters, at most 65,536 bytes, 1 to 32 patterns, and at most 64 steps in all
pub record Limits (K : ℕ) (text : List ℕ) (plan : List (List ℕ)) : Type 0 where
  pub some_letter : 1 ≤ K
  pub letters : K ≤ 32
  pub bytes : length text ≤ 65536
  pub some_pattern : 0 < length plan
  pub patterns : length plan ≤ 32
  pub steps : all_steps plan ≤ 64

-- a text is read as a plan exactly if it writes that plan, within the limits
abbrev pub ReadsWhatIsWritten : Type 0
ReadsWhatIsWritten = (K : ℕ) (text : List ℕ) (plan : List (List ℕ)) → (read_plan K text ≡ Ok plan) ↔ (Writes K text plan × Limits K text plan)
