-- Texts tried by hand, and what they are read as.
use Rattle.std.specs.Prelude.{◌≡◌, [], ◌∷◌, Ok, Err, codes}
use Rattle.notation.specs.declared.LineFault.TheVariants.{BadSet, NoLetter, EmptyLine}
use Rattle.notation.specs.declared.PlanRefusal.TheVariants.{Text, Line}
use Rattle.notation.specs.Reading.{read_plan}

-- a step is a set of letters as a number: A is 1, B is 2, both together are 3
pub record Examples : Type 0 where
  pub one_line : read_plan 26 (codes "ABA\n") ≡ Ok ((1 ∷ 2 ∷ 1 ∷ []) ∷ [])
  pub two_lines : read_plan 26 (codes "AB\nB\n") ≡ Ok ((1 ∷ 2 ∷ []) ∷ (2 ∷ []) ∷ [])
  pub one_sign : read_plan 26 (codes "A\n") ≡ Ok ((1 ∷ []) ∷ [])
  pub sets : read_plan 4 (codes "A.[BC]\n[^A]\n") ≡ Ok ((1 ∷ 15 ∷ 6 ∷ []) ∷ (14 ∷ []) ∷ [])
  -- no letter is left; there is no text; a range is no set; a line has no step
  pub none_left : read_plan 2 (codes "[^AB]\n") ≡ Err (Line 1 NoLetter)
  pub no_text : read_plan 2 [] ≡ Err Text
  pub no_range : read_plan 4 (codes "A\n[A-C]\n") ≡ Err (Line 2 BadSet)
  pub no_step : read_plan 4 (codes "\n") ≡ Err (Line 1 EmptyLine)
