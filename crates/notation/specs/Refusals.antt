-- Why a text is refused: its alphabet, its size or its last byte, or else the first line that is wrong.
use Rattle.std.specs.Prelude.{◌≡◌, ℕ, ◌+◌, ◌-◌, ◌<◌, ◌≤◌, ◌↔◌, List, [], ◌∷◌, ◌++◌, map, length, Err, ◌≢◌}
use Rattle.notation.specs.declared.LineFault.{LineFault}
use Rattle.notation.specs.declared.LineFault.TheVariants.{TooManyLines, BadSign, BadSet, NoLetter, TooManySteps, EmptyLine}
use Rattle.notation.specs.declared.PlanRefusal.{PlanRefusal}
use Rattle.notation.specs.declared.PlanRefusal.TheVariants.{Letters, Text, Line}
use Rattle.notation.specs.Reading.{byte, read_plan}
use Rattle.notation.specs.Grammar.{byte_of, Below, Among, StepText, Writes, all_steps}

-- the texts of steps, one after the other
pub data StepsText (K : ℕ) : List ℕ → List ℕ → Type 0 where
  none : StepsText K [] []
  more : (x t : List ℕ) {set : ℕ} {p : List ℕ} → StepText K x set → StepsText K t p → StepsText K (x ++ t) (set ∷ p)

-- what is wrong behind a [
pub data WrongSet (K : ℕ) (t : List ℕ) : LineFault → Type 0 where
  -- the text does not go on with an optional ^, signs of letters and a ]
  no_set : ((ls rest : List ℕ) → 0 < length ls → Below K ls → (t ≢ map byte_of ls ++ byte "]" ∷ rest) × (t ≢ byte "^" ∷ (map byte_of ls ++ byte "]" ∷ rest))) → WrongSet K t BadSet
  -- it does, with ^, and the signs are those of all letters
  no_other : (ls rest : List ℕ) → 0 < length ls → Below K ls → t ≡ byte "^" ∷ (map byte_of ls ++ byte "]" ∷ rest) → ((a : ℕ) → a < K → Among a ls) → WrongSet K t NoLetter

-- what is wrong with the step at the front of the text, where there is room for so many steps
pub data WrongStep (K room : ℕ) (t : List ℕ) : LineFault → Type 0 where
  -- no step begins with this byte
  no_sign : (b : ℕ) (rest : List ℕ) → t ≡ b ∷ rest → ((a : ℕ) → a < K → b ≢ byte_of a) → (b ≢ byte ".") → (b ≢ byte "[") → (b ≢ byte "\n") → WrongStep K room t BadSign
  wrong_set : (rest : List ℕ) {f : LineFault} → t ≡ byte "[" ∷ rest → WrongSet K rest f → WrongStep K room t f
  -- it is a step, and there is no room for it
  one_too_many : (x rest : List ℕ) {set : ℕ} → t ≡ x ++ rest → StepText K x set → room ≡ 0 → WrongStep K room t TooManySteps

-- what is wrong with a line, after the steps p, where there is room for so many lines and steps
pub data WrongLine (K left room : ℕ) (p t : List ℕ) : LineFault → Type 0 where
  line_too_many : left ≡ 0 → p ≡ [] → 0 < length t → WrongLine K left room p t TooManyLines
  no_step : (rest : List ℕ) → 0 < left → p ≡ [] → t ≡ byte "\n" ∷ rest → WrongLine K left room p t EmptyLine
  wrong_step : {f : LineFault} → 0 < left → WrongStep K room t f → WrongLine K left room p t f

-- the lines before line n write the patterns `plan`, the steps p of line n are right, and from `here` on it is wrong
pub record WrongAt (K : ℕ) (text : List ℕ) (n : ℕ) (f : LineFault) : Type 0 where
  pub plan : List (List ℕ)
  pub before : List ℕ
  pub p : List ℕ
  pub front : List ℕ
  pub here : List ℕ
  pub is : text ≡ before ++ (front ++ here)
  pub number : n ≡ length plan + 1
  pub written : Writes K before plan
  pub patterns : length plan ≤ 32
  pub right : StepsText K front p
  pub steps : all_steps plan + length p ≤ 64
  pub wrong : WrongLine K (32 - length plan) (64 - (all_steps plan + length p)) p here f

-- the alphabet, the size and the last byte of the text are right
pub record Proper (K : ℕ) (text : List ℕ) : Type 0 where
  pub some_letter : 1 ≤ K
  pub letters : K ≤ 32
  pub bytes : length text ≤ 65536
  pub before : List ℕ
  pub ended : text ≡ before ++ byte "\n" ∷ []

-- why a text is refused: the first of the questions that is answered no
abbrev pub Reason : ℕ → List ℕ → PlanRefusal → Type 0
Reason K text Letters = 1 ≤ K → K ≤ 32 → ⊥
Reason K text Text = (1 ≤ K) × (K ≤ 32) × (length text ≤ 65536 → (before : List ℕ) → text ≢ before ++ byte "\n" ∷ [])
Reason K text (Line n f) = Proper K text × WrongAt K text n f

-- a text is refused so exactly if there is that reason
abbrev pub RefusesForItsReason : Type 0
RefusesForItsReason = (K : ℕ) (text : List ℕ) (r : PlanRefusal) → (read_plan K text ≡ Err r) ↔ Reason K text r
