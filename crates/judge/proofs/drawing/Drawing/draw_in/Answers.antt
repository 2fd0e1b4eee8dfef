-- What the exploration says of the number of states.
use Rattle.std.proofs.Common.{◌≡◌, false, Ok, Err, rules, arith}
use Rattle.judge.specs.declared.refusals.DrawRefusal.TheVariants.{States}
use Rattle.sheet.specs.declared.refusals.Unmade.TheVariants.{Refused}
use Rattle.std.specs.Result.{is_ok}
use Rattle.plan.specs.Views.{letters_of}
use Rattle.judge.specs.Tables.{words_in}
use Rattle.judge.proofs.Groups.{groups_words, length_words}
use Rattle.judge.proofs.Entries.{stopped, suffice, made}
use Rattle.judge.proofs.drawing.Drawing.draw_in.Goals as goal

pub returns-in_err-map_err : goal.returns-in_err-map_err
returns-in_err-map_err c =
    let e : c.from_residual.result ≡ Err (Refused States) = search rules in
    let f : is_ok c.explore.result ≡ false = search rules in
    rw e (record {
      answer =
          stopped c.args.self.now.plan.now c.explore.new.self.letters (words_in c.explore.new.self) c.explore.new.self.size c.explore.result c.explore.ensures.answer f (omega arith)
          (omega (arith, groups_words c.explore.new.self.entries.now, c.explore.ensures.same.groups, c.over-table.ensures.groups));
    })

pub read_off-requires : goal.read_off-requires
read_off-requires c =
    let e : c.explore.result ≡ Ok c.in_ok-map_err.field-0 = search rules in
    let all = rw e at c.explore.ensures.answer in
    let k : c.explore.new.self.letters ≡ letters_of c.args.self.now.plan.now = omega arith in
    record {
      complete =
          record {
            few = omega (arith, all.room, length_words c.explore.new.self.entries.now, c.explore.ensures.same.groups, c.over-table.ensures.groups);
            all = rw k at all;
          };
    }

pub returns : goal.returns
returns c =
    let e : c.explore.result ≡ Ok c.in_ok-map_err.field-0 = search rules in
    let all = rw e at c.explore.ensures.answer in
    let k : c.explore.new.self.letters ≡ letters_of c.args.self.now.plan.now = omega arith in
    record { answer = made c.args.self.now.plan.now c.read_off.result c.read_off.ensures.answer (suffice c.args.self.now.plan.now all k (omega (arith, all.room, length_words c.explore.new.self.entries.now, c.explore.ensures.same.groups, c.over-table.ensures.groups))) }
