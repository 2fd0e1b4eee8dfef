-- A step is read as the definition reads it.
use Rattle.std.proofs.Common.{ℕ, ◌<◌, get_or, sym, ap, ◌∙◌, arith, ltb-false, ltb-true}
use Rattle.std.proofs.lemmas.Nat.{one_shl}
use Rattle.notation.specs.Reading.{found, by_sign}
use Rattle.notation.proofs.Signs.{letter_means}
use Rattle.notation.proofs.Turns.{tail, step_by, step_none, sign_other}
use Rattle.plan.proofs.steps.Scanner.step.Goals as goal

pub returns-in_default-clause-answer : goal.returns-in_default-clause-answer
returns-in_default-clause-answer c = sym (step_none c.args.self.now.alphabet.letters c.args.self.now.rest.now (omega (arith, ltb-true, ltb-false)))

below : (c : goal.In-Letter) → c.in-Letter.a < 32
below c = omega (arith, (letter_means c.args.self.now.alphabet.letters (get_or c.args.self.now.rest.now 0 0) c.in-Letter.a c.in-Letter.ensures).0)

pub overflow_shl-result : goal.overflow_shl-result
overflow_shl-result c = below c

pub returns-in-Letter-clause-answer : goal.returns-in-Letter-clause-answer
unfolding by_sign
returns-in-Letter-clause-answer c =
    ap (λ (n : ℕ). found n (tail c.args.self.now.rest.now)) (one_shl c.in-Letter.a 32 (below c))
    ∙ sym (step_by c.args.self.now.alphabet.letters c.args.self.now.rest.now (omega (arith, ltb-true, ltb-false)) _ c.in-Letter.ensures)

pub returns-in-Dot-clause-answer : goal.returns-in-Dot-clause-answer
unfolding by_sign
returns-in-Dot-clause-answer c =
    ap (λ (n : ℕ). found n (tail c.args.self.now.rest.now)) c.every.ensures
    ∙ sym (step_by c.args.self.now.alphabet.letters c.args.self.now.rest.now (omega (arith, ltb-true, ltb-false)) _ c.in-Dot.ensures)

pub returns-in-Open-clause-answer : goal.returns-in-Open-clause-answer
unfolding by_sign
returns-in-Open-clause-answer c =
    c.bracket.ensures.answer
    ∙ sym (step_by c.args.self.now.alphabet.letters c.args.self.now.rest.now (omega (arith, ltb-true, ltb-false)) _ c.in-Open.ensures)

pub returns-in_default-sign-clause-answer : goal.returns-in_default-sign-clause-answer
returns-in_default-sign-clause-answer c =
    sym (sign_other _ _ _ c.in_default-sign.not-Letter c.in_default-sign.not-Dot c.in_default-sign.not-Open)
    ∙ sym (step_by c.args.self.now.alphabet.letters c.args.self.now.rest.now (omega (arith, ltb-true, ltb-false)) _ c.sign.ensures)
