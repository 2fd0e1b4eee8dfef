use Rattle.std.proofs.Common.{◌≡◌, ℕ, ◌+◌, true, List, [], ◌++◌, ◌∷◌, map, length, vec_items, vec_len, sym, ap, ◌∙◌, subst, arith, rules}
use Rattle.std.specs.Slice.Iter.{chunks_exact_rest, chunks_exact_size}
use Rattle.std.proofs.lemmas.Bool.{and_parts}
use Rattle.std.proofs.lemmas.List.{append-nil}
use Rattle.sheet.specs.declared.states.State.{State}
use Rattle.sheet.specs.States.{Each, Good}
use Rattle.sheet.specs.Files.{entry_size, cut, sound, entry_of}
use Rattle.sheet.specs.Views.{entry_in}
use Rattle.sheet.proofs.Files.{length_cut}
use Rattle.sheet.proofs.Goods.{each_none, each_push, absent_good}
use Rattle.sheet.proofs.Parts.{Left, left_next, left_none, left_then, more_states}
use Rattle.sheet.proofs.layout.Head.states_of.Goals as goal
use Rattle.sheet.proofs.layout.Head.states_of.Goals.{In-Some}

pub loop-part-init : goal.loop-part-init
loop-part-init c =
    let h = c.args.self in
    let empty : vec_items c.in_ok-all.all ≡ [] = search rules in
    let none : vec_len c.in_ok-all.all ≡ 0 = search rules in
    let good = absent_good h.letters h.states in
    let is = c.into_iter-part-iterator.ensures.into_iter_gives in
    let size : chunks_exact_size c.into_iter-part-iterator.result ≡ entry_size h.letters =
    ap chunks_exact_size is ∙ c.chunks_exact-part-items.ensures.size ∙ c.entry_size.ensures.answer
    in
    let rest : chunks_exact_rest c.into_iter-part-iterator.result ≡ c.args.body.now = ap chunks_exact_rest is ∙ c.chunks_exact-part-items.ensures.rest in
    let count = length_cut (entry_size h.letters) h.states (chunks_exact_rest c.into_iter-part-iterator.result) in (
      omega (arith, size),
      tt,
      size,
      record {
        count = h.states;
        long = ap length rest ∙ c.requires.long;
        holds = (
          ap (λ (xs : List ℕ). sound h.states (cut (entry_size h.letters) h.states xs)) rest ∙ c.requires.good,
          ap (λ (xs : List State). map (entry_in h.letters) xs ++ map entry_of (cut (entry_size h.letters) h.states (chunks_exact_rest c.into_iter-part-iterator.result))) empty
              ∙ ap (λ (xs : List ℕ). map entry_of (cut (entry_size h.letters) h.states xs)) rest,
          omega arith,
        );
      },
      subst (λ (xs : List State). Each (Good h.letters h.states) xs) (sym empty) (each_none (Good h.letters h.states) good),
      search rules,
    )

-- the part that is read and those behind it
next : (c : In-Some) → Left (entry_size c.args.self.letters) (chunks_exact_rest c.next.new.self) (λ parts.
    (sound c.args.self.states (c.in-Some.part.now ∷ parts) ≡ true)
    × (map (entry_in c.args.self.letters) (vec_items c.loop-part.all) ++ map entry_of (c.in-Some.part.now ∷ parts) ≡ map entry_of (cut (entry_size c.args.self.letters) c.args.self.states c.args.body.now))
    × (vec_len c.loop-part.all + length (c.in-Some.part.now ∷ parts) ≡ c.args.self.states))
next c =
    left_next (entry_size c.args.self.letters) _ (chunks_exact_rest c.loop-part.part-iterator) c.in-Some.part.now (chunks_exact_rest c.next.new.self)
    (omega arith) c.in-Some.ensures.steps.1.0 (c.in-Some.ensures.steps.1.1 ∙ c.loop-part.invariant.2) c.loop-part.invariant.3

pub state_of-requires-clause-good : goal.state_of-requires-clause-good
state_of-requires-clause-good c =
    let left = next (goal.at.state_of-requires-clause-good c).In-Some in
    (and_parts _ _ left.holds.0).0

pub push_reserved-requires : goal.push_reserved-requires
push_reserved-requires c =
    let left = next (goal.at.push_reserved-requires c).In-Some in
    let few = left.holds.2 in
    omega (arith, few, c.loop-part.invariant.5)

pub loop-part-preserved : goal.loop-part-preserved
loop-part-preserved c =
    let h = c.args.self in
    let items = vec_items c.loop-part.all in
    let pushed : vec_items c.push_reserved.new.self ≡ items ++ c.state_of.result ∷ [] = c.push_reserved.ensures.items in (
      omega (arith, c.loop-part.invariant.0, c.in-Some.ensures.steps.0),
      tt,
      c.in-Some.ensures.steps.0 ∙ c.loop-part.invariant.2,
      left_then _ _ _ _
          (λ parts e. (
            (and_parts _ _ e.0).1,
            ap (λ (xs : List State). map (entry_in h.letters) xs ++ map entry_of parts) pushed ∙ more_states h.letters items c.state_of.result c.in-Some.part.now parts _ c.state_of.ensures.answer e.1,
            omega (arith, e.2, c.push_reserved.ensures.len),
          ))
          (next (goal.at.loop-part-preserved c).In-Some),
      subst (λ (xs : List State). Each (Good h.letters h.states) xs) (sym pushed)
          (each_push (Good h.letters h.states) (absent_good h.letters h.states) items c.state_of.result c.loop-part.invariant.4 c.state_of.ensures.good),
      search rules,
    )

pub returns-clause-answer : goal.returns-clause-answer
returns-clause-answer c =
    let none = left_none (entry_size c.args.self.letters) _ (chunks_exact_rest c.loop-part.part-iterator) (omega (arith, c.in-None.ensures.steps.1.0, c.loop-part.invariant.2)) c.loop-part.invariant.3 in
    sym (append-nil _) ∙ none.1
