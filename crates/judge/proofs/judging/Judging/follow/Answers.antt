-- No sheet has a state above the most.
use Rattle.std.proofs.Common.{◌≡◌, ◌<◌, None, rules, ◌∙◌, arith}
use Rattle.judge.proofs.States.{arrow_above}
use Rattle.judge.proofs.judging.Judging.follow.Goals as goal

pub returns-in_err-ok : goal.returns-in_err-ok
returns-in_err-ok c =
    let none : c.from_residual.result ≡ None = search rules in
    let above : c.args.state < 65536 → ⊥ = search rules in
    record { answer = none ∙ arrow_above c.args.self.now.sheet.now c.args.state c.args.letter (omega (arith, above)) }
