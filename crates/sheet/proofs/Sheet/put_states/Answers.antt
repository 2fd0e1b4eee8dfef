use Rattle.std.proofs.Common.{◌≡◌, ℕ, ◌+◌, ◌*◌, ◌<◌, ◌≤◌, false, List, [], length, get_or, vec_items, vec_len, sym, ap, ◌∙◌, add-one, mul-le-mul_right, suc-mul, arith}
use lib.Seq.{paste}
use Rattle.std.proofs.lemmas.List.{get_or_default, length-take, length-drop}
use Rattle.std.proofs.lemmas.Slice.{put_mid-paste}
use Rattle.sheet.specs.declared.states.State.{State}
use Rattle.sheet.specs.Files.{entry_size, entry_bytes}
use Rattle.sheet.specs.Views.{entry_in}
use Rattle.sheet.proofs.Writes.{length_one, state_there, written_more, states_written}
use Rattle.sheet.proofs.Sheet.put_states.Goals as goal

-- one part more
next : (i size : ℕ) → (i + 1) * size ≡ i * size + size
next i size = ap (λ (k : ℕ). k * size) (add-one i) ∙ suc-mul i size

-- what a read past the end would give
abbrev unread : State
unread = record { marks = 0; prefix = false; arrows = [] }

pub put_state-requires : goal.put_state-requires
put_state-requires c =
    let sheet = c.args.self.now in
    let i = c.loop-i.i in
    let size = c.entry_size-size.result in
    let e = c.entry_size-size.ensures.answer in
    let n : vec_len sheet.states * size ≡ vec_len sheet.states * entry_size sheet.letters = ap (λ (k : ℕ). vec_len sheet.states * k) e in
    let h : i + 1 ≤ vec_len sheet.states = omega (arith, c.deref-state-items.ensures.len) in
    let m : (i + 1) * size ≤ vec_len sheet.states * size = mul-le-mul_right size h in
    let k = next i size in
    let g = state_there sheet c.deref-state-items.result.now i unread c.deref-state-items.ensures.value c.loop-i-test.true in
    let w = g.wide in
    let few = sheet.few in
    record {
      long = simp (length-take, length-drop) (omega (arith, c.requires.long, c.loop-i.auto.body));
      wide = omega arith;
    }

pub loop-i-preserved : goal.loop-i-preserved
loop-i-preserved c =
    let sheet = c.args.self.now in
    let items = vec_items sheet.states in
    let i = c.loop-i.i in
    let size = c.entry_size-size.result in
    let e = c.entry_size-size.ensures.answer in
    let k = next i size in
    let s : State = get_or c.deref-state-items.result.now i unread in
    let l = c.deref-state-items.ensures.len in
    let h : i < length items = omega (arith, sheet.states.ok.0) in
    let there : s ≡ get_or items i s = ap (λ (xs : List State). get_or xs i unread) c.deref-state-items.ensures.value ∙ get_or_default items i unread s h in
    let g = state_there sheet c.deref-state-items.result.now i unread c.deref-state-items.ensures.value c.loop-i-test.true in
    put_mid-paste (i * size) _ c.loop-i.body c.put_state.new.part (entry_bytes (entry_in sheet.letters s)) (entry_size sheet.letters)
    c.put_state.ensures.after (omega arith) (sym (length_one sheet.letters items sheet.wide sheet.few s g.wide))
    ∙ ap (λ (n : ℕ). paste c.loop-i.body (i * n) (entry_bytes (entry_in sheet.letters s)) (entry_size sheet.letters)) e
    ∙ written_more sheet.letters items sheet.wide sheet.few c.args.body.now c.loop-i.body i s h there c.loop-i.invariant

pub returns : goal.returns
returns c = record { after = states_written c.args.self.now c.args.body.now c.loop-i.body c.loop-i.i c.requires.long (omega (arith, c.deref-state-items.ensures.len)) c.loop-i.invariant }
