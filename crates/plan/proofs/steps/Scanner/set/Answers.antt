-- The letters of a set up to its closing bracket.
use Rattle.std.proofs.Common.{ℕ, ◌<◌, get_or, sym, ap, ◌∙◌, arith, ltb-false, ltb-true}
use lib.Bits.{bit_or}
use Rattle.std.proofs.lemmas.Nat.{one_shl}
use Rattle.notation.specs.Reading.{set_of, in_set}
use Rattle.notation.proofs.Signs.{letter_means}
use Rattle.notation.proofs.Turns.{tail, set_by, set_none, set_other, closed_none, closed_some}
use Rattle.plan.proofs.steps.Scanner.set.Goals as goal

below : (c : goal.In-Letter) → c.in-Letter.a < 32
below c = omega (arith, (letter_means c.loop-self.self.alphabet.letters (get_or c.loop-self.self.rest.now 0 0) c.in-Letter.a c.in-Letter.ensures).0)

pub overflow_shl-set : goal.overflow_shl-set
overflow_shl-set c = below c

pub loop-self-preserved : goal.loop-self-preserved
unfolding in_set
loop-self-preserved c =
    let K = c.loop-self.self.alphabet.letters in
    let rest = c.loop-self.self.rest.now in (
      c.loop-self.invariant.0,
      ap (λ (n : ℕ). set_of K (bit_or c.loop-self.set n) (tail rest)) (one_shl c.in-Letter.a 32 (below c))
          ∙ sym (set_by K c.loop-self.set rest (omega (arith, ltb-true, ltb-false)) _ c.in-Letter.ensures)
          ∙ c.loop-self.invariant.1,
    )

pub returns-clause-answer : goal.returns-clause-answer
returns-clause-answer c =
    sym (set_none c.loop-self.self.alphabet.letters c.loop-self.set c.loop-self.self.rest.now (omega (arith, ltb-true, ltb-false))) ∙ c.loop-self.invariant.1

pub returns-then-set-eq0-clause-answer : goal.returns-then-set-eq0-clause-answer
unfolding in_set
returns-then-set-eq0-clause-answer c =
    sym (closed_none c.loop-self.set (tail c.loop-self.self.rest.now) c.if-set-eq0.true)
    ∙ sym (set_by c.loop-self.self.alphabet.letters c.loop-self.set c.loop-self.self.rest.now (omega (arith, ltb-true, ltb-false)) _ c.in-Close.ensures)
    ∙ c.loop-self.invariant.1

pub returns-else-set-eq0-clause-answer : goal.returns-else-set-eq0-clause-answer
unfolding in_set
returns-else-set-eq0-clause-answer c =
    sym (closed_some c.loop-self.set (tail c.loop-self.self.rest.now) c.if-set-eq0.false)
    ∙ sym (set_by c.loop-self.self.alphabet.letters c.loop-self.set c.loop-self.self.rest.now (omega (arith, ltb-true, ltb-false)) _ c.in-Close.ensures)
    ∙ c.loop-self.invariant.1

pub returns-in_default-sign-clause-answer : goal.returns-in_default-sign-clause-answer
returns-in_default-sign-clause-answer c =
    sym (set_other _ _ _ _ c.in_default-sign.not-Letter c.in_default-sign.not-Close)
    ∙ sym (set_by c.loop-self.self.alphabet.letters c.loop-self.set c.loop-self.self.rest.now (omega (arith, ltb-true, ltb-false)) _ c.sign.ensures)
    ∙ c.loop-self.invariant.1
