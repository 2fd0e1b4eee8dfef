use Rattle.std.proofs.Common.{◌≡◌, ℕ, List, [], ◌∷◌, vec_items, vec_len, sym, subst, arith, rules}
use Rattle.sheet.specs.declared.states.State.{State}
use Rattle.sheet.specs.States.{Each, absent, Good}
use Rattle.sheet.proofs.Goods.{each_none, each_push, absent_good, single_is}
use Rattle.sheet.proofs.Sheet.single.Goals as goal
use Rattle.sheet.proofs.Sheet.single.Goals.{After-push_reserved}

items : (c : After-push_reserved) → vec_items c.push_reserved.new.self ≡ absent ∷ []
items c = search rules

one : (letters n : ℕ) → Each (Good letters n) (absent ∷ [])
one letters n = each_push (Good letters n) (absent_good letters n) [] absent (each_none (Good letters n) (absent_good letters n)) (absent_good letters n)

goods : (c : After-push_reserved) → Each (Good c.args.letters (vec_len c.push_reserved.new.self)) (vec_items c.push_reserved.new.self)
goods c =
    let n = vec_len c.push_reserved.new.self in
    subst (λ (xs : List State). Each (Good c.args.letters n) xs) (sym (items c)) (one c.args.letters n)

pub invariant_of-result : goal.invariant_of-result
invariant_of-result c =
    let g = goods (goal.at.invariant_of-result c).After-push_reserved in
    record {
      some = omega arith;
      few = omega arith;
      started = search rules;
      counted = search rules;
      marked = λ k. (g k).marks;
      wide = λ k. (g k).wide;
      inside = λ k. (g k).inside;
      bare = λ k. (g k).bare;
    }

pub returns : goal.returns
returns c = record { answer = single_is c.args.letters c.args.shortest (vec_items c.push_reserved.new.self) (omega arith) (omega arith) (items (goal.at.returns c).After-push_reserved) }
