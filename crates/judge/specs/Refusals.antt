-- The numbers of the refusals, each that of the question that is answered by no, and why no sheet is drawn.
use Rattle.std.specs.Prelude.{ℕ}
use Rattle.sheet.specs.declared.refusals.Unmade.{Unmade}
use Rattle.judge.specs.declared.refusals.JudgeRefusal.{JudgeRefusal}
use Rattle.judge.specs.declared.refusals.JudgeRefusal.TheVariants.{Letters, Shortest, Room, Pairs, Word}
use Rattle.judge.specs.declared.refusals.DrawRefusal.{DrawRefusal}
use Rattle.judge.specs.declared.refusals.DrawRefusal.TheVariants.{Words, States}

abbrev pub number_of : JudgeRefusal → ℕ
number_of Letters = 32
number_of Shortest = 33
number_of Room = 34
number_of Pairs = 35
number_of (Word length) = 36

abbrev pub draw_number_of : DrawRefusal → ℕ
draw_number_of Words = 20
draw_number_of States = 21

-- a drawing is refused, or memory is wanting
abbrev pub DrawError : Type 0
DrawError = Unmade DrawRefusal
