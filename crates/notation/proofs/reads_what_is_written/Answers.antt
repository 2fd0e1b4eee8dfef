-- The theorem that a text is read as what it writes.
use Rattle.notation.proofs.Plans.{reads_what_is_written_lem}
use Rattle.notation.proofs.reads_what_is_written.Goals as goal

pub returns : goal.returns
returns c = reads_what_is_written_lem
