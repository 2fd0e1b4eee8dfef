-- The first entry, the end of a row, and the end of all.
use Rattle.std.proofs.Common.{arith}
use Rattle.exploration.proofs.Cells.{settle_row, settle_end}
use Rattle.judge.proofs.Turns.{begun, room}
use Rattle.judge.proofs.table.Table.explore.Goals as goal

pub loop-row-init : goal.loop-row-init
loop-row-init g c = record { sound = begun c.args.self.now.entries.now c.push.ensures.same.letters c.requires.empty c.push.ensures.held c.push.ensures.size c.start.ensures.answer c.requires.room; row = omega arith; same = c.push.ensures.same }

pub loop-row-smaller : goal.loop-row-smaller
loop-row-smaller g c = omega (arith, room c.loop-letter.self.entries.now c.loop-letter.invariant.sound)

pub loop-row-preserved : goal.loop-row-preserved
loop-row-preserved g c = record { sound = settle_row c.loop-letter.invariant.sound c.loop-letter.invariant.entry (omega (arith, c.loop-letter.invariant.same.letters, c.loop-row.invariant.same.letters)); row = omega arith; same = c.loop-letter.invariant.same }

pub returns-clause-answer : goal.returns-clause-answer
returns-clause-answer g c = record { room = c.loop-row.invariant.sound.fits; all = settle_end c.loop-row.invariant.sound c.loop-row-test.false }
