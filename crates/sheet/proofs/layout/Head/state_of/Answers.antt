use Rattle.std.proofs.Common.{ℕ, List, drop, subst, arith}
use Rattle.sheet.proofs.Parts.{Arrows, state_entry, state_good}
use Rattle.sheet.proofs.layout.Head.state_of.Goals as goal

pub returns : goal.returns
returns c =
    let part = c.args.part.now in
    let here : Arrows c.split_at.result.1.now c.arrows_of.result =
    record { wide = c.arrows_of.ensures.wide; there = c.arrows_of.ensures.answer; bare = c.arrows_of.ensures.bare }
    in
    let read : Arrows (drop 5 part) c.arrows_of.result = subst (λ (xs : List ℕ). Arrows xs c.arrows_of.result) c.split_at.ensures.back here in
    record {
      answer = state_entry c.args.self.letters part c.requires.long c.args.self.few c.arrows_of.result read c.split_at.result.0.now c.from_be_bytes.result c.split_at.ensures.front c.from_be_bytes.ensures;
      good = state_good c.args.self.letters part c.requires.long c.args.self.few c.arrows_of.result read c.args.self.states c.from_be_bytes.result _ (omega arith) c.requires.good;
    }
