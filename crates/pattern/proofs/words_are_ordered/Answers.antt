-- `words_are_ordered`: the theorem of proofs/Words.
use Rattle.pattern.proofs.Words.{word_order}
use Rattle.pattern.proofs.words_are_ordered.Goals as goal

pub returns : goal.returns
returns c = word_order
