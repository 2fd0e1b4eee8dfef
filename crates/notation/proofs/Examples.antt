-- The texts that were tried by hand: the definition computes what they are read as.
use Rattle.std.proofs.Common.{refl}
use Rattle.notation.specs.Reading.{read_plan, sign_of, closed, in_set, set_of, others_of, bracket_of, by_sign, step_of, as_next, next_of, at_last, goes_on_by, steps_of, filled, line_of, by_line, lines_of}
use Rattle.notation.specs.Examples.{Examples}

pub examples : Examples
unfolding read_plan sign_of closed in_set set_of others_of bracket_of by_sign step_of as_next next_of at_last goes_on_by steps_of filled line_of by_line lines_of
examples = record { one_line = refl; two_lines = refl; one_sign = refl; sets = refl; none_left = refl; no_text = refl; no_range = refl; no_step = refl }
