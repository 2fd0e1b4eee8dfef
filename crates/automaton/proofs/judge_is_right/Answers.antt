-- `judge_is_right`: the theorem of proofs/Judging.
use Rattle.automaton.proofs.Judging.{judge_is_right_lem}
use Rattle.automaton.proofs.judge_is_right.Goals as goal

pub returns : goal.returns
returns c = judge_is_right_lem
