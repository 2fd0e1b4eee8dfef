use Rattle.sheet.proofs.Files as files
use Rattle.sheet.proofs.reading.reading_inverts_writing.Goals as goal

pub returns : goal.returns
returns c = files.reading_inverts_writing_lem
