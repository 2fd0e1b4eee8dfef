-- `wrong_by_texts`: the theorem of proofs/Wrong.
use Rattle.automaton.proofs.Wrong.{wrong_by_texts_lem}
use Rattle.automaton.proofs.wrong_by_texts.Goals as goal

pub returns : goal.returns
returns c = wrong_by_texts_lem
