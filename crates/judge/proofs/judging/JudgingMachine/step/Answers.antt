-- The step of the judging machine.
use Rattle.std.proofs.Common.{◌∙◌}
use Rattle.automaton.specs.Judging.{judge, settled}
use Rattle.pattern.specs.Fits.{fitting}
use Rattle.plan.specs.Views.{patterns_of}
use Rattle.sheet.specs.Views.{automaton_of}
use Rattle.judge.proofs.judging.JudgingMachine.step.Goals as goal

pub returns : goal.returns
unfolding judge
returns c =
    record {
      answer =
          c.settle.ensures.answer
          ∙ (λ i. settled (fitting (patterns_of c.args.self.now.plan.now)) (automaton_of c.args.self.now.sheet.now) (c.follow.ensures.answer i) (c.grown-fits.ensures.answer i));
    }
