-- A line is read as the definition reads it.
use Rattle.std.proofs.Common.{◌≡◌, ℕ, ◌+◌, ◌-◌, ◌<◌, List, length, get_or, sym, ap, ◌∙◌, arith, ltb-false, ltb-true, eqb-true, true-eqb, false-eqb}
use borrow.Author.Tests.{eqb-false}
use Rattle.std.proofs.lemmas.List.{length_push}
use Rattle.std.proofs.lemmas.Result.{err_from_is_err_and}
use Rattle.notation.specs.Reading.{step_of, steps_of, filled, next_of, ended, as_next}
use Rattle.notation.proofs.Turns.{tail, next_end, next_on, as_wrong, as_step, steps_end, steps_wrong, steps_full, steps_more, filled_none, filled_some, filled_faulty, line_left}
use Rattle.plan.specs.Spans.{items}
use Rattle.plan.specs.declared.alphabet.Alphabet.{Alphabet}
use Rattle.plan.proofs.steps.Scanner.line.Goals as goal
use Rattle.plan.proofs.steps.Scanner.line.Goals.{In-10, After-step, then-self-lt1, else-self-lt1+in_default-1}

-- the line ends here
ends : (c : In-10) → next_of c.loop-self.self.alphabet.letters c.loop-self.self.rest.now ≡ ended (tail c.loop-self.self.rest.now)
ends c = next_end c.loop-self.self.alphabet.letters c.loop-self.self.rest.now (omega (arith, ltb-false)) (omega (arith, eqb-true))

-- or a step begins
begins : (c : After-step) → next_of c.loop-self.self.alphabet.letters c.loop-self.self.rest.now ≡ as_next (step_of c.loop-self.self.alphabet.letters c.loop-self.self.rest.now)
begins c =
    let rest = c.loop-self.self.rest.now in
    let other : 0 < length rest → get_or rest 0 0 ≡ 10 → ⊥ =
    elim c.if-self-lt1.branch [ then-self-lt1 w ↦ λ h e. omega (arith, ltb-true) | else-self-lt1+in_default-1 w ↦ λ h e. omega (arith, eqb-false) ]
    in
    next_on c.loop-self.self.alphabet.letters rest other

pub returns-then-is_empty-clause-answer : goal.returns-then-is_empty-clause-answer
returns-then-is_empty-clause-answer c =
    let none : length (items c.loop-self.steps) ≡ 0 = omega (arith, true-eqb _ 0 c.if-is_empty.ensures) in
    line_left _ _ _ _ _ _ _ _ c.loop-self.invariant.1
    (ap filled (steps_end c.loop-self.self.alphabet.letters _ c.loop-self.self.rest.now _ _ (ends (goal.at.returns-then-is_empty-clause-answer c).In-10)) ∙ filled_none _ _ none)

pub returns-else-is_empty-clause-answer : goal.returns-else-is_empty-clause-answer
returns-else-is_empty-clause-answer c =
    let some : 0 < length (items c.loop-self.steps) = omega (arith, false-eqb _ 0 c.if-is_empty.ensures) in
    line_left _ _ _ _ _ _ _ _ c.loop-self.invariant.1
    (ap filled (steps_end c.loop-self.self.alphabet.letters _ c.loop-self.self.rest.now _ _ (ends (goal.at.returns-else-is_empty-clause-answer c).In-10)) ∙ filled_some _ _ some)

pub returns-in_err-set-clause-answer : goal.returns-in_err-set-clause-answer
returns-in_err-set-clause-answer c =
    let p = err_from_is_err_and c.from_residual.result c.from_residual.ensures.1 in
    rw (p.1, p.2)
    (line_left _ _ _ _ _ _ _ _ c.loop-self.invariant.1
    (ap filled (steps_wrong c.loop-self.self.alphabet.letters _ c.loop-self.self.rest.now _ _ (begins (goal.at.returns-in_err-set-clause-answer c).After-step ∙ ap as_next (sym c.in_err-set.ensures.answer) ∙ as_wrong _)) ∙ filled_faulty _))

pub returns-then-len-room-clause-answer : goal.returns-then-len-room-clause-answer
returns-then-len-room-clause-answer c =
    line_left _ _ _ _ _ _ _ _ c.loop-self.invariant.1
    (ap filled (steps_full c.loop-self.self.alphabet.letters _ c.loop-self.self.rest.now (c.args.room - length (items c.loop-self.steps)) _ _ (omega (arith, c.len.ensures.value)) (begins (goal.at.returns-then-len-room-clause-answer c).After-step ∙ ap as_next (sym c.in_ok-set.ensures.answer) ∙ as_step _ _)) ∙ filled_faulty _)

pub loop-self-preserved : goal.loop-self-preserved
loop-self-preserved c =
    let K = c.loop-self.self.alphabet.letters in
    let had = items c.loop-self.steps in
    let rest = c.step.new.self.rest.now in
    let left = c.args.room - length (items c.push.new.self) in
    let size : length (items c.push.new.self) ≡ length had + 1 = ap length c.push.ensures ∙ length_push had c.in_ok-set.set in (
      c.step.ensures.same ∙ c.loop-self.invariant.0,
      ap (λ (a : Alphabet). steps_of a.letters left (items c.push.new.self) rest) c.step.ensures.same
          ∙ ap (λ (l : List ℕ). steps_of K left l rest) c.push.ensures
          ∙ sym (steps_more K had c.loop-self.self.rest.now (c.args.room - length had) left c.in_ok-set.set rest (omega (arith, c.len.ensures.value)) (begins (goal.at.loop-self-preserved c).After-step ∙ ap as_next (sym c.in_ok-set.ensures.answer) ∙ as_step _ _))
          ∙ c.loop-self.invariant.1,
      omega (arith, c.len.ensures.value),
    )
