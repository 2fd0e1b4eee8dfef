use Rattle.std.proofs.Common.{◌-◌, vec_items, vec_len, arith}
use Rattle.sheet.proofs.Goods.{sheet_good, good_set, turned_is}
use Rattle.sheet.proofs.Places.{exist}
use Rattle.sheet.proofs.Sheet.set_arrow.Goals as goal

pub invariant_of-self : goal.invariant_of-self
invariant_of-self c =
    let sheet = c.args.self.now in
    let e = exist sheet c.args.from c.args.letter c.args.to c.if-not-has_places.ensures.answer in
    let g =
    good_set sheet.letters (vec_len sheet.states) (vec_items sheet.states) (c.args.from - 1) c.index_mut.result.now c.args.letter c.args.to
    (omega (arith, sheet.states.ok.0))
    c.index_mut.ensures.value
    e.letter_in_lem
    sheet.few
    e.to_in
    (sheet_good sheet)
    in
    record {
      some = sheet.some;
      few = sheet.few;
      started = sheet.started;
      counted = sheet.counted;
      marked = λ k. (g k).marks;
      wide = λ k. (g k).wide;
      inside = λ k. (g k).inside;
      bare = λ k. (g k).bare;
    }

pub returns : goal.returns
returns c =
    let sheet = c.args.self.now in
    let e = exist sheet c.args.from c.args.letter c.args.to c.if-not-has_places.ensures.answer in
    record {
      answer = c.if-not-has_places.ensures.answer;
      held =
          turned_is sheet.letters sheet.shortest c.args.from (c.args.from - 1) (vec_items sheet.states) c.index_mut.result.now c.args.letter c.args.to
          (omega arith)
          (omega (arith, sheet.states.ok.0))
          c.index_mut.ensures.value;
    }
