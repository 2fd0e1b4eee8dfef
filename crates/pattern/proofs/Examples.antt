-- The worked examples hold by computation.
use Rattle.std.proofs.Common.{refl}
use Rattle.pattern.specs.Patterns.{admits, spells, marks_of}
use Rattle.pattern.specs.Fits.{tails, rests, steps_where, begins, closing_of, inner_of}
use Rattle.pattern.specs.Rows.{text, end_hits, later_hits, full}
use Rattle.pattern.specs.Examples.{Examples}

pub examples : Examples
unfolding admits spells marks_of tails rests steps_where begins closing_of inner_of text end_hits later_hits full
examples = record { overlapping = refl; two_lines = refl; damaged = refl; fits_a = refl; fits_ba = refl; fits_aba = refl }
