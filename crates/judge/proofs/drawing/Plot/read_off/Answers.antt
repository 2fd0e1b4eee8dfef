-- All states, then all arrows.
use Rattle.judge.specs.Tables.{words_in}
use Rattle.judge.proofs.Entries.{some}
use Rattle.judge.proofs.Plotting.{drawn_for}
use Rattle.judge.proofs.drawing.Plot.read_off.Goals as goal

pub returns : goal.returns
returns c =
    let plan = c.args.self.now.plan.now in
    let w = words_in c.args.self.now.table.now in
    let size = c.args.self.now.table.now.size in
    record { answer = drawn_for plan w size c.arrows.new.sheet c.requires.complete.all (some c.args.self.now c.requires.complete) c.arrows.ensures.held }
