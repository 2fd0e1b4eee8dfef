-- The text of a plan is read as the definition reads it.
use Rattle.std.proofs.Common.{◌≡◌, ℕ, ◌+◌, ◌-◌, ◌<◌, length, Ok, Err, sym, subst, ap, ap₂, ◌∙◌, arith, rules, true-eqb, false-eqb}
use Rattle.std.proofs.lemmas.Result.{err_from_is_err_and}
use Rattle.std.proofs.lemmas.List.{length-take}
use Rattle.notation.specs.declared.PlanRefusal.TheVariants.{Line}
use Rattle.notation.specs.declared.LineFault.{LineFault}
use Rattle.notation.specs.Reading.{found, line_of}
use Rattle.notation.proofs.Turns.{lines_end, lines_full, lines_wrong, lines_again, read_text}
use Rattle.plan.specs.Spans.{items}
use Rattle.plan.specs.Views.{patterns_of, found_line}
use Rattle.plan.specs.declared.alphabet.Alphabet.{Alphabet}
use Rattle.plan.proofs.Building.{length_plan}
use Rattle.plan.proofs.Reading.{right, emptied, refused, begun, lines, room, ok_before, err_before}
use Rattle.plan.proofs.Plan.read.Goals as goal
use Rattle.plan.proofs.Plan.read.Goals.{After-line, In_ok-pattern}

-- the line is read over the letters that were asked for
next : (c : After-line) → found_line c.line.new.self c.line.result ≡ line_of c.args.letters (64 - length (items c.loop-lines.plan.steps)) c.loop-lines.lines.rest.now
next c = c.line.ensures.answer ∙ ap₂ (λ (K n : ℕ). line_of K (64 - n) c.loop-lines.lines.rest.now) c.loop-lines.invariant.2 c.len-in-loop-lines.ensures.value

-- and it is a pattern
good : (c : In_ok-pattern) → found_line c.line.new.self c.line.result ≡ line_of c.args.letters (64 - length (items c.loop-lines.plan.steps)) c.loop-lines.lines.rest.now → found (items c.in_ok-pattern.pattern) c.line.new.self.rest.now ≡ line_of c.args.letters (64 - length (items c.loop-lines.plan.steps)) c.loop-lines.lines.rest.now
good c e =
    let is : c.line.result ≡ Ok c.in_ok-pattern.pattern = ok_before c.line.result c.map_err.result _ _ c.map_err.ensures.cases c.map_err.ensures.variant c.in_ok-pattern.was in
    subst (λ r. found_line c.line.new.self r ≡ line_of c.args.letters (64 - length (items c.loop-lines.plan.steps)) c.loop-lines.lines.rest.now) is e

pub returns-in_err-plan-clause-answer : goal.returns-in_err-plan-clause-answer
returns-in_err-plan-clause-answer c =
    let p = err_from_is_err_and c.from_residual.result c.from_residual.ensures.1 in
    rw (p.1, p.2) (refused c.args.letters c.args.text.now _ c.in_err-plan.ensures.answer)

pub returns-then-not-whole-clause-answer : goal.returns-then-not-whole-clause-answer
returns-then-not-whole-clause-answer c =
    sym (read_text c.args.letters c.args.text.now (emptied c.args.letters (patterns_of c.in_ok-plan.plan) c.in_ok-plan.ensures.answer).0 (sym c.if-not-whole.ensures))

pub loop-lines-init : goal.loop-lines-init
loop-lines-init c =
    let made = c.in_ok-plan.ensures in
    (begun c.args.letters c.args.text.now c.in_ok-plan.plan made.answer, made.letters, made.letters)

pub returns-then-number-gt-MOST_LINES : goal.returns-then-number-gt-MOST_LINES
returns-then-number-gt-MOST_LINES c =
    let plan = c.loop-lines.plan in
    let count : c.len.result ≡ length (patterns_of plan) = c.len.ensures.value ∙ sym (length_plan plan) in
    let some : 0 < length c.loop-lines.lines.rest.now = omega (arith, false-eqb _ 0 c.loop-lines-test.ensures) in
    let answer =
    ap (λ (n : ℕ). Err (Line (n + 1) LineFault.TooManyLines)) count
    ∙ sym (lines_full c.args.letters (64 - length (items plan.steps)) (patterns_of plan) (32 - length (items plan.spans)) c.loop-lines.lines.rest.now some (omega (arith, c.len.ensures.value)))
    ∙ c.loop-lines.invariant.0 ∙ lines c.args.letters c.args.text.now c.in_ok-plan.plan c.in_ok-plan.ensures.answer c.if-not-whole.ensures
    in
    record { answer = answer; letters = tt; right = right c.args.letters c.args.text.now (Err (Line _ LineFault.TooManyLines)) answer }

pub returns-in_err-pattern : goal.returns-in_err-pattern
returns-in_err-pattern c =
    let plan = c.loop-lines.plan in
    let count : c.len.result ≡ length (patterns_of plan) = c.len.ensures.value ∙ sym (length_plan plan) in
    let some : 0 < length c.loop-lines.lines.rest.now = omega (arith, false-eqb _ 0 c.loop-lines-test.ensures) in
    let was = err_before c.line.result c.map_err.result _ (λ f. Line (c.len.result + 1) f) c.in_err-pattern.field-0.0 c.map_err.ensures.cases (λ e d h. search rules) c.in_err-pattern.was in
    let fault = was.0 in
    let wrong = subst (λ r. found_line c.line.new.self r ≡ line_of c.args.letters (64 - length (items plan.steps)) c.loop-lines.lines.rest.now) was.1 (next (goal.at.returns-in_err-pattern c).After-line) in
    let answer =
    ap (λ (n : ℕ). Err (Line (n + 1) fault)) count
    ∙ sym (lines_wrong c.args.letters (64 - length (items plan.steps)) (patterns_of plan) (32 - length (items plan.spans)) c.loop-lines.lines.rest.now fault some (omega (arith, c.len.ensures.value)) wrong)
    ∙ c.loop-lines.invariant.0 ∙ lines c.args.letters c.args.text.now c.in_ok-plan.plan c.in_ok-plan.ensures.answer c.if-not-whole.ensures
    in
    let p = err_from_is_err_and c.from_residual-in_err-pattern.result c.from_residual-in_err-pattern.ensures.1 in
    rw (p.1, p.2, was.2) (record { answer = answer; letters = tt; right = right c.args.letters c.args.text.now (Err (Line _ fault)) answer })

pub with-plan-requires : goal.with-plan-requires
with-plan-requires c =
    let plan = c.loop-lines.plan in
    let pattern = c.in_ok-pattern.pattern in
    room c.args.letters plan c.loop-lines.lines.rest.now (items pattern) c.as_slice.result.now c.line.new.self.rest.now c.loop-lines.invariant.1 (omega (arith, c.len.ensures.value)) (omega (arith, length-take plan.steps.count plan.steps.places, plan.steps.within)) c.as_slice.ensures (good (goal.at.with-plan-requires c).In_ok-pattern (next (goal.at.with-plan-requires c).After-line))

pub loop-lines-preserved : goal.loop-lines-preserved
loop-lines-preserved c =
    let plan = c.loop-lines.plan in
    let more = c.with-plan.result in
    let pattern = c.in_ok-pattern.pattern in
    let some : 0 < length c.loop-lines.lines.rest.now = omega (arith, false-eqb _ 0 c.loop-lines-test.ensures) in (
      lines_again c.args.letters (length (items plan.spans)) (length (items more.spans)) (length (items plan.steps)) (length (items more.steps)) (patterns_of plan) (patterns_of more) c.loop-lines.lines.rest.now (items pattern) c.as_slice.result.now c.line.new.self.rest.now
          some (omega (arith, c.len.ensures.value)) (good (goal.at.loop-lines-preserved c).In_ok-pattern (next (goal.at.loop-lines-preserved c).After-line)) c.as_slice.ensures c.with-plan.ensures.patterns c.with-plan.ensures.count c.with-plan.ensures.more
          ∙ c.loop-lines.invariant.0,
      ap (λ (a : Alphabet). a.letters) c.with-plan.ensures.letters ∙ c.loop-lines.invariant.1,
      ap (λ (a : Alphabet). a.letters) c.line.ensures.same ∙ c.loop-lines.invariant.2,
    )

pub returns : goal.returns
returns c =
    let plan = c.loop-lines.plan in
    let none : length c.loop-lines.lines.rest.now ≡ 0 = omega (arith, true-eqb _ 0 c.loop-lines-test.ensures) in
    let answer =
    sym (lines_end c.args.letters (64 - length (items plan.steps)) (patterns_of plan) (32 - length (items plan.spans)) c.loop-lines.lines.rest.now none)
    ∙ c.loop-lines.invariant.0 ∙ lines c.args.letters c.args.text.now c.in_ok-plan.plan c.in_ok-plan.ensures.answer c.if-not-whole.ensures
    in
    record { answer = answer; letters = c.loop-lines.invariant.1; right = right c.args.letters c.args.text.now (Ok plan) answer }
