-- What the values of the code mean: the patterns of a plan, and what reading answers.
use Rattle.std.specs.Prelude.{◌≡◌, ℕ, ◌+◌, ◌<◌, ◌≤◌, cond, List, [], ◌∷◌, ◌++◌, length, Ok, Err, Result}
use Rattle.notation.specs.declared.LineFault.{LineFault}
use Rattle.notation.specs.declared.PlanRefusal.{PlanRefusal}
use Rattle.notation.specs.declared.PlanRefusal.TheVariants.{Letters}
use Rattle.notation.specs.Reading.{Found, found, faulty, between}
use Rattle.notation.specs.Grammar.{Writes, Limits}
use Rattle.notation.specs.Refusals.{Reason}
use Rattle.pattern.specs.Laws.{Wellformed}
use Rattle.plan.specs.Sets.{Steps, Within}
use Rattle.plan.specs.Spans.{items, plan_in}
use Rattle.plan.specs.declared.copy_vec.CopyVec.{CopyVec}
use Rattle.plan.specs.declared.steps.Scanner.{Scanner}
use Rattle.plan.specs.declared.Plan.{Plan}

-- how many letters the alphabet of a plan has
abbrev pub letters_of : Plan → ℕ
letters_of plan = plan.alphabet.letters

-- the patterns of a plan, each a list of steps
abbrev pub patterns_of : Plan → List (List ℕ)
patterns_of plan = plan_in (items plan.spans) (items plan.steps)

-- what holds of the patterns of every plan over K letters
pub record Sound (K : ℕ) (plan : List (List ℕ)) : Type 0 where
  pub some_letter : 1 ≤ K
  pub letters : K ≤ 32
  pub patterns : length plan ≤ 32
  -- every pattern has a step, every step admits a letter, and there are at most 64 steps
  pub well : Wellformed plan
  pub within : Within K plan

-- ---- what reading answers

-- a step and the text that is left behind it, or a fault
abbrev pub found_set : Scanner → Result ℕ LineFault → Found ℕ
found_set left (Ok set) = found set left.rest.now
found_set left (Err f) = faulty f

-- the steps of a line and the text that is left behind it, or a fault
abbrev pub found_line : Scanner → Result (CopyVec ℕ 64) LineFault → Found (List ℕ)
found_line left (Ok steps) = found (items steps) left.rest.now
found_line left (Err f) = faulty f

-- the patterns of the plan, or the refusal
abbrev pub planned : Result Plan PlanRefusal → Result (List (List ℕ)) PlanRefusal
planned (Ok plan) = Ok (patterns_of plan)
planned (Err e) = Err e

-- the plan has the letters that were asked for
abbrev pub Over : ℕ → Result Plan PlanRefusal → Type 0
Over K (Ok plan) = letters_of plan ≡ K
Over K (Err e) = Unit {0}

-- a plan is what the text writes by the grammar, within the limits; a refusal has its reason
abbrev pub Right : ℕ → List ℕ → Result Plan PlanRefusal → Type 0
Right K text (Ok plan) = Writes K text (patterns_of plan) × Limits K text (patterns_of plan)
Right K text (Err e) = Reason K text e

-- the plan without patterns, for 1 to 32 letters
abbrev pub empty_plan : ℕ → Result (List (List ℕ)) PlanRefusal
empty_plan K = cond (between 1 32 K) (Ok []) (Err Letters)

-- ---- one pattern more

-- there is room for the pattern, and its steps are sets of the plan's letters
pub record Room (plan : Plan) (p : List ℕ) : Type 0 where
  pub some : 0 < length p
  pub steps : length (items plan.steps) + length p ≤ 64
  pub patterns : length (items plan.spans) < 32
  pub sets : Steps (letters_of plan) p

-- the plan with the pattern after the others
pub record More (plan : Plan) (p : List ℕ) (new : Plan) : Type 0 where
  pub letters : new.alphabet ≡ plan.alphabet
  pub patterns : length (items new.spans) ≡ length (items plan.spans) + 1
  pub count : length (items new.steps) ≡ length (items plan.steps) + length p
  pub more : patterns_of new ≡ patterns_of plan ++ (p ∷ [])
