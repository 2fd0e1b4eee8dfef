use Rattle.std.proofs.Common.{◌≡◌, ℕ, vec_items, vec_len, sym, ◌∙◌, subst, arith}
use Rattle.sheet.specs.States.{Each, Good}
use Rattle.sheet.proofs.Files.{bytes_from_typed, reading_inverts_writing_lem}
use Rattle.sheet.proofs.Heads.{reads, count_read, no_memory}
use Rattle.sheet.proofs.Sheet.read.Goals as goal
use Rattle.sheet.proofs.Sheet.read.Goals.{In_ok-states}

pub returns-in_err-states-clause-answer : goal.returns-in_err-states-clause-answer
returns-in_err-states-clause-answer c = no_memory _ _ _ c.in_ok-head.ensures.answer c.from_residual-in_err-states.result c.from_residual-in_err-states.ensures.1

count : (c : In_ok-states) → vec_len c.in_ok-states.states ≡ c.in_ok-head.head.states
count c = c.in_ok-states.states.ok.0 ∙ count_read _ _ _ c.in_ok-head.ensures.answer (vec_items c.in_ok-states.states) c.in_ok-states.ensures.answer

pub invariant_of-result : goal.invariant_of-result
invariant_of-result c =
    let h = c.in_ok-head.head in
    let v = c.in_ok-states.states in
    let n = count c in
    let states = c.in_ok-head.ensures.answer.begins.states in
    let small = c.type_inv.bytes 0 in
    let peopled = h.peopled in
    let g = subst (λ (m : ℕ). Each (Good h.letters m) (vec_items v)) (sym n) c.in_ok-states.ensures.good in
    record {
      some = h.some;
      few = h.few;
      started = omega arith;
      counted = omega arith;
      marked = λ i. (g i).marks;
      wide = λ i. (g i).wide;
      inside = λ i. (g i).inside;
      bare = λ i. (g i).bare;
    }

pub returns : goal.returns
returns c =
    let bytes = c.args.bytes.now in
    let read = reads _ _ _ c.in_ok-head.ensures.answer (vec_items c.in_ok-states.states) c.in_ok-states.ensures.answer in
    record {
      answer = read;
      file = ((reading_inverts_writing_lem bytes _ (bytes_from_typed bytes (λ i. (c.type_inv.bytes i).fits))).0 read).0;
    }
