-- What each verdict says of the sheet.
use Rattle.std.proofs.Common.{refl, ◌∙◌, arith}
use Rattle.judge.proofs.Groups.{groups_words}
use Rattle.judge.proofs.Verdicts.{complete, too_many, pairs_held, spellable, spelt_room, shows}
use Rattle.judge.proofs.judging.Judging.judge_over.Goals as goal

pub spell-size-requires : goal.spell-size-requires
spell-size-requires c =
    let fails = rw c.in-Err-Faulty.field-0-is at c.in-Err-Faulty.ensures.answer in
    spellable c.args.self.now.plan.now c.args.self.now.sheet.now c.args.cells.now fails (omega arith) c.args.word.now (omega arith)

pub bounds-word-size : goal.bounds-word-size
bounds-word-size c =
    let fails = rw c.in-Err-Faulty.field-0-is at c.in-Err-Faulty.ensures.answer in
    spelt_room c.args.self.now.plan.now c.args.self.now.sheet.now c.args.cells.now fails (omega arith) c.spell-size.ensures (omega arith)

pub returns-in-Ok : goal.returns-in-Ok
returns-in-Ok c =
    let told = complete c.args.self.now.plan.now c.args.self.now.sheet.now c.args.cells.now c.in-Ok.ensures.answer (omega arith) (groups_words c.explore.new.self.entries.now ∙ c.explore.ensures.same.groups ∙ c.over-table.ensures.groups) in
    record { answer = (record { letters = omega arith; shortest = omega arith; room = (omega arith, omega arith) }, told.0, told.1, refl) }

pub returns-in-Err-Full : goal.returns-in-Err-Full
returns-in-Err-Full c =
    let over = rw c.in-Err-Full.field-0-is at c.in-Err-Full.ensures.answer in
    record {
      answer = (
        record { letters = omega arith; shortest = omega arith; room = (omega arith, omega arith) },
        too_many c.args.self.now.plan.now c.args.self.now.sheet.now c.args.cells.now over (omega arith) (groups_words c.explore.new.self.entries.now ∙ c.explore.ensures.same.groups ∙ c.over-table.ensures.groups),
        refl,
      );
    }

pub returns-in-Err-Faulty : goal.returns-in-Err-Faulty
returns-in-Err-Faulty c =
    let fails = rw c.in-Err-Faulty.field-0-is at c.in-Err-Faulty.ensures.answer in
    record {
      answer = (
        record { letters = omega arith; shortest = omega arith; room = (omega arith, omega arith) },
        pairs_held c.args.self.now.plan.now c.args.self.now.sheet.now c.args.cells.now fails (omega arith) (groups_words c.explore.new.self.entries.now ∙ c.explore.ensures.same.groups ∙ c.over-table.ensures.groups),
        shows c.args.self.now.plan.now c.args.self.now.sheet.now c.args.cells.now fails (omega arith) c.spell-size.ensures (omega arith),
      );
    }
