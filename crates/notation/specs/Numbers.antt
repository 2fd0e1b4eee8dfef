-- The numbers of the refusals, and the lines that they name.
use Rattle.std.specs.Prelude.{ℕ, Some, None, Option}
use Rattle.notation.specs.declared.LineFault.{LineFault}
use Rattle.notation.specs.declared.LineFault.TheVariants.{TooManyLines, BadSign, BadSet, NoLetter, TooManySteps, EmptyLine}
use Rattle.notation.specs.declared.PlanRefusal.{PlanRefusal}
use Rattle.notation.specs.declared.PlanRefusal.TheVariants.{Letters, Text, Line}

-- the question that a line answers with no
abbrev pub fault_number : LineFault → ℕ
fault_number TooManyLines = 3
fault_number BadSign = 4
fault_number BadSet = 5
fault_number NoLetter = 6
fault_number TooManySteps = 7
fault_number EmptyLine = 8

-- the question that a text answers with no
abbrev pub number_of : PlanRefusal → ℕ
number_of Letters = 1
number_of Text = 2
number_of (Line n f) = fault_number f

-- from the third question on a refusal names the line
abbrev pub line_of_refusal : PlanRefusal → Option ℕ
line_of_refusal Letters = None
line_of_refusal Text = None
line_of_refusal (Line n f) = Some n
