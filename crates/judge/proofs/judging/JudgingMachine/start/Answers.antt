-- The empty word stands in state 1.
use Rattle.std.proofs.Common.{refl}
use Rattle.automaton.specs.Judging.{judge}
use Rattle.judge.proofs.judging.JudgingMachine.start.Goals as goal

pub returns : goal.returns
unfolding judge
returns c = record { answer = refl; none = refl }
