-- The first entry in use that has the node.
use Rattle.std.proofs.Common.{◌≡◌, take, rules, tests}
use Rattle.std.proofs.lemmas.Iterator.{IsFirst-from_position, YieldsList-from_slice}
use Rattle.judge.specs.Moves.{node_of}
use Rattle.judge.specs.Tables.{node_in}
use Rattle.judge.proofs.Groups.{finds}
use Rattle.judge.proofs.table.Table.find.Goals as goal

pub returns : goal.returns
returns c =
    let es = c.args.self.now.entries.now in
    let n = node_of c.args.node in
    record {
      answer =
          finds es c.args.self.now.size n c.position.result c.args.self.now.room
          (IsFirst-from_position _ _ _ (λ e. node_in e ≡ n) (λ e. node_in e ≡ n → ⊥) c.position.ensures.ran (YieldsList-from_slice (take c.args.self.now.size es) cc) (λ x q k. search (rules, tests)) (λ x q k. search (rules, tests)));
    }
