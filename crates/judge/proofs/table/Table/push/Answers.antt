-- To set the entry is to write its group.
use Rattle.judge.specs.Moves.{node_of}
use Rattle.judge.proofs.Groups.{words_set}
use Rattle.judge.proofs.table.Table.push.Goals as goal

pub returns-clause-held : goal.returns-clause-held
returns-clause-held c = words_set c.args.self.now.letters c.args.self.now.entries.now c.args.self.now.size c.args.parent c.args.letter (node_of c.args.node)
