-- What is left of the line is read as the line is, after the steps that were read.
use Rattle.std.proofs.Common.{◌≡◌, ◌-◌, ◌≤◌, [], length}
use Rattle.notation.specs.Reading.{steps_of}
use Rattle.plan.specs.Spans.{items}
use Rattle.plan.proofs.steps.Scanner.line.Given as goal

abbrev pub invariant-loop-self : goal.invariant-loop-self
invariant-loop-self l =
    (l.self.alphabet ≡ l.fn.self.alphabet)
    × (steps_of l.self.alphabet.letters (l.room - length (items l.steps)) (items l.steps) l.self.rest.now ≡ steps_of l.fn.self.alphabet.letters l.room [] l.fn.self.rest.now)
    × (length (items l.steps) ≤ l.room)

abbrev pub decreases-loop-self : goal.decreases-loop-self
decreases-loop-self l = l.room - length (items l.steps)
