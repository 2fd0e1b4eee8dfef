use Rattle.std.proofs.Common.{ℕ, ◌*◌, sym, ap, ◌∙◌}
use Rattle.sheet.proofs.Heads.{begun_long, begun_content}
use Rattle.sheet.proofs.reading.parts_of.Goals as goal

pub returns-then-body-head : goal.returns-then-body-head
returns-then-body-head c =
    let size = ap (λ (n : ℕ). c.in_ok-head.head.states * n) c.entry_size.ensures.answer in
    record { answer = begun_long _ _ _ c.in_ok-head.ensures.answer (λ e. c.if-body-head.true (e ∙ sym size)) }

pub returns-then-not-are_sound : goal.returns-then-not-are_sound
returns-then-not-are_sound c =
    let size = ap (λ (n : ℕ). c.in_ok-head.head.states * n) c.entry_size.ensures.answer in
    record { answer = begun_content _ _ _ c.in_ok-head.ensures.answer (c.if-body-head.false ∙ size) (sym c.if-not-are_sound.ensures.answer) }
