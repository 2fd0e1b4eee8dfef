-- The worked examples: those about words from the crates that define them, the others by computation.
use Rattle.std.proofs.Common.{◌≡◌, refl}
use Rattle.pattern.proofs.Examples.{examples as rows}
use Rattle.automaton.proofs.Examples.{searches}
use Rattle.exploration.proofs.Examples.{judgements}
use Rattle.notation.proofs.Examples.{examples as texts}
use Rattle.pattern.specs.Patterns.{admits, spells, marks_of}
use Rattle.pattern.specs.Fits.{tails, rests, steps_where, begins}
use Rattle.pattern.specs.Rows.{text, end_hits, later_hits, full}
use Rattle.logs.specs.Blocks.{weighted, check_of, verdict_of}
use Rattle.logs.specs.EventLogs.{record_cells, block_cells, cells_from, event_row}
use Rattle.logs.specs.Records.{record_cell}
use Rattle.worked.specs.Examples.{one_event, WorkedExamples}

event_check : check_of one_event ≡ 11798873
unfolding weighted check_of
event_check = refl

pub worked_examples : WorkedExamples
unfolding admits spells marks_of tails rests steps_where begins text end_hits later_hits full weighted check_of verdict_of record_cells block_cells cells_from event_row record_cell
worked_examples =
    record {
      draws = judgements.draws;
      overlapping = (rows.overlapping, searches.overlapping);
      unmarked_a = (judgements.wrong_a, refl);
      unlinked_ba = (judgements.wrong_ba, refl);
      two_lines = (texts.two_lines, rows.two_lines);
      too_short = (refl, searches.too_short);
      none_left = (texts.none_left, refl);
      no_text = (texts.no_text, refl);
      event = (refl, refl);
      zero_block = (refl, refl, refl);
      words = ((judgements.not_five, refl), (judgements.six, judgements.well));
      damaged = (rows.damaged, searches.damaged);
    }
