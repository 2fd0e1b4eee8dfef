-- What each outcome of a letter leaves.
use Rattle.std.proofs.Common.{◌*◌, ◌≤◌, sym, ◌∙◌, mul-le-mul_left, arith}
use Rattle.exploration.proofs.Cells.{settle_dead, settle_wrong, settle_known, settle_new, settle_full, settle_trace}
use Rattle.judge.specs.Moves.{node_of}
use Rattle.judge.specs.Tables.{words_in}
use Rattle.judge.proofs.Groups.{length_words}
use Rattle.judge.proofs.Turns.{moved, room, known, unknown, stepped}
use Rattle.judge.proofs.table.Table.take_turn.Goals as goal

pub node-requires : goal.node-requires
node-requires g c = record { entry = omega (arith, room c.args.self.now.entries.now c.requires.sound) }

pub push-requires-clause-room : goal.push-requires-clause-room
push-requires-clause-room g c = omega (arith, room c.args.self.now.entries.now c.requires.sound)

pub push-requires-clause-link : goal.push-requires-clause-link
push-requires-clause-link g c =
    let h : c.args.row * c.args.self.now.letters ≤ c.args.row * 32 = mul-le-mul_left c.args.row c.requires.few in
    omega (arith, h, room c.args.self.now.entries.now c.requires.sound)

pub returns-in-Err-clause-answer : goal.returns-in-Err-clause-answer
returns-in-Err-clause-answer g c =
    let e = stepped (g.M.Machine.meaning c.args.machine.now) c.node.ensures.answer c.in-Err.ensures.answer in
    record {
      size = c.args.self.now.size;
      room = c.requires.sound.fits;
      letter = c.requires.spelt;
      first = settle_wrong c.requires.sound c.requires.entry c.requires.spelt e;
      traceable = settle_trace c.requires.sound c.requires.entry;
    }

pub returns-in-Ok-None-clause-answer : goal.returns-in-Ok-None-clause-answer
returns-in-Ok-None-clause-answer g c =
    let e = stepped (g.M.Machine.meaning c.args.machine.now) c.node.ensures.answer (rw c.in-Ok-None.field-0-is at c.in-Ok-None.ensures.answer) in
    (settle_dead c.requires.sound c.requires.entry e, c.requires.entry)

pub returns-in-Ok-Some-clause-answer : goal.returns-in-Ok-Some-clause-answer
returns-in-Ok-Some-clause-answer g c =
    let e = stepped (g.M.Machine.meaning c.args.machine.now) c.node.ensures.answer (rw c.in-Ok-Some.field-0-is at c.in-Ok-Some.ensures.answer) in
    let k = known (words_in c.args.self.now) c.args.self.now.size (node_of c.in-Ok-Some.node) c.find.result c.find.ensures.answer (sym c.is_some.ensures ∙ c.if-is_some.true) in
    (settle_known c.requires.sound c.requires.entry c.requires.spelt e k, c.requires.entry)

pub returns-in-Ok-Some-2-clause-answer : goal.returns-in-Ok-Some-2-clause-answer
returns-in-Ok-Some-2-clause-answer g c =
    let e = stepped (g.M.Machine.meaning c.args.machine.now) c.node.ensures.answer (rw c.in-Ok-Some.field-0-is at c.in-Ok-Some.ensures.answer) in
    let u = unknown (words_in c.args.self.now) c.args.self.now.size (node_of c.in-Ok-Some.node) c.find.result c.find.ensures.answer (sym c.is_some.ensures ∙ c.if-is_some.false) in
    record { text = _; more = settle_full c.requires.sound c.requires.entry c.requires.spelt e u (omega (arith, length_words c.args.self.now.entries.now)) }

pub returns-in-Ok-Some-3-clause-answer : goal.returns-in-Ok-Some-3-clause-answer
returns-in-Ok-Some-3-clause-answer g c =
    let e = stepped (g.M.Machine.meaning c.args.machine.now) c.node.ensures.answer (rw c.in-Ok-Some.field-0-is at c.in-Ok-Some.ensures.answer) in
    let u = unknown (words_in c.args.self.now) c.args.self.now.size (node_of c.in-Ok-Some.node) c.find.result c.find.ensures.answer (sym c.is_some.ensures ∙ c.if-is_some.false) in
    let new = settle_new c.requires.sound c.requires.entry c.requires.spelt e u (omega (arith, room c.args.self.now.entries.now c.requires.sound, length_words c.args.self.now.entries.now)) in
    (moved c.push.ensures.same.letters c.push.ensures.held c.push.ensures.size new, omega arith)
