-- The entry that is found is the one that the letter leads to.
use Rattle.std.proofs.Common.{◌≡◌, arith}
use Rattle.automaton.specs.Machines.{to}
use Rattle.pattern.specs.Fits.{fitting}
use Rattle.exploration.specs.Drawing.{drawing}
use Rattle.plan.specs.Views.{letters_of, patterns_of}
use Rattle.exploration.specs.Links.{cells, node_at}
use Rattle.judge.specs.Moves.{node_of}
use Rattle.judge.specs.Tables.{words_in}
use Rattle.judge.proofs.Entries.{room, found_leads, found_in}
use Rattle.judge.proofs.drawing.Plot.target.Goals as goal

pub node-requires : goal.node-requires
node-requires c = record { entry = omega (arith, room c.args.self.now c.requires.complete) }

pub returns-in-Ok-Some-clause-answer : goal.returns-in-Ok-Some-clause-answer
returns-in-Ok-Some-clause-answer c =
    let plan = c.args.self.now.plan.now in
    let K = letters_of plan in
    let w = words_in c.args.self.now.table.now in
    let size = c.args.self.now.table.now.size in
    let h = rw c.in-Ok-Some.field-0-is at c.in-Ok-Some.ensures.answer in
    let step = (drawing (fitting (patterns_of plan))).step in
    let n = node_of c.in-Ok-Some.node in
    let e : step (node_at w c.args.row) c.args.letter ≡ to n = cc (c.node.ensures.answer, h) in
    found_leads K (fitting (patterns_of plan)) (cells K w size) c.requires.complete.all.all c.args.row c.args.letter n c.find.result c.requires.entry c.requires.spelt e (found_in K w size n c.find.result c.find.ensures.answer)
