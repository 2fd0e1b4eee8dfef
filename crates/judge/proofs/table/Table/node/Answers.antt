-- The entry's words are those of its group.
use Rattle.std.proofs.Common.{sym, ◌∙◌}
use Rattle.judge.proofs.Groups.{node_is}
use Rattle.judge.proofs.table.Table.node.Goals as goal

pub returns : goal.returns
returns c = record { answer = c.from.ensures ∙ sym (node_is c.args.self.now.entries.now c.args.row) }
