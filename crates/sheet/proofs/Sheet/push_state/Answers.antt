use Rattle.std.proofs.Common.{is_ok, vec_items, vec_len, arith, rules}
use Rattle.std.proofs.lemmas.List.{length-map}
use Rattle.sheet.proofs.Goods.{sheet_good, good_pushed, pushed_is}
use Rattle.sheet.proofs.Sheet.push_state.Goals as goal

pub invariant_of-self : goal.invariant_of-self
invariant_of-self c =
    let sheet = c.args.self.now in
    let g =
    good_pushed (is_ok c.push.result) sheet.letters (vec_len sheet.states) (vec_len c.push.new.self) c.args.marks c.args.prefix (vec_items sheet.states) (vec_items c.push.new.self)
    (omega arith)
    (search rules)
    c.push.ensures.len
    (sheet_good sheet)
    in
    record {
      some = sheet.some;
      few = sheet.few;
      started = search rules;
      counted = search rules;
      marked = λ k. (g k).marks;
      wide = λ k. (g k).wide;
      inside = λ k. (g k).inside;
      bare = λ k. (g k).bare;
    }

pub returns : goal.returns
returns c =
    let sheet = c.args.self.now in
    record {
      answer = (
        simp length-map (omega (arith, sheet.states.ok.0)),
        simp length-map (search rules),
        pushed_is sheet.letters sheet.shortest c.args.marks c.args.prefix (vec_items sheet.states) (vec_items c.push.new.self) sheet.few (search rules),
      );
    }
