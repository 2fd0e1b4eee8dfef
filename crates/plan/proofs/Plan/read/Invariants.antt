-- What is left of the text is read as the text is, after the lines that were read.
use Rattle.std.proofs.Common.{◌≡◌, ◌-◌, [], length}
use Rattle.notation.specs.Reading.{lines_of}
use Rattle.plan.specs.Spans.{items}
use Rattle.plan.specs.Views.{letters_of, patterns_of}
use Rattle.plan.proofs.Plan.read.Given as goal

abbrev pub invariant-loop-lines : goal.invariant-loop-lines
invariant-loop-lines l =
    (lines_of l.letters (32 - length (items l.plan.spans)) (64 - length (items l.plan.steps)) (patterns_of l.plan) l.lines.rest.now ≡ lines_of l.letters 32 64 [] l.text)
    × (letters_of l.plan ≡ l.letters)
    × (l.lines.alphabet.letters ≡ l.letters)

abbrev pub decreases-loop-lines : goal.decreases-loop-lines
decreases-loop-lines l = 32 - length (items l.plan.spans)
