-- What is left of the set is read as the set is, after the letters that were read.
use Rattle.std.proofs.Common.{◌≡◌, length}
use Rattle.notation.specs.Reading.{set_of}
use Rattle.plan.proofs.steps.Scanner.set.Given as goal

abbrev pub invariant-loop-self : goal.invariant-loop-self
invariant-loop-self l =
    (l.self.alphabet ≡ l.fn.self.alphabet)
    × (set_of l.self.alphabet.letters l.set l.self.rest.now ≡ set_of l.fn.self.alphabet.letters 0 l.fn.self.rest.now)

abbrev pub decreases-loop-self : goal.decreases-loop-self
decreases-loop-self l = length l.self.rest.now
