-- The set behind an opening bracket.
use Rattle.std.proofs.Common.{◌≡◌, ℕ, ◌-◌, ◌<◌, length, get_or, sym, ap, ◌∙◌, arith, ltb-false, ltb-true, eqb-true}
use borrow.Author.Tests.{eqb-false}
use Rattle.std.proofs.lemmas.Result.{err_from_is_err_and}
use Rattle.notation.specs.Reading.{found, every, set_of, others_of, bracket_of}
use Rattle.notation.proofs.Turns.{tail, bracket_others, bracket_set, others_none, others_some, others_faulty}
use Rattle.notation.proofs.Sets.{set_below}
use Rattle.plan.specs.declared.alphabet.Alphabet.{Alphabet}
use Rattle.plan.proofs.steps.Scanner.bracket.Goals as goal
use Rattle.plan.proofs.steps.Scanner.bracket.Goals.{In-94, After-every-all, in_default-via-then-self-lt1, in_default-via-else-self-lt1+in_default-1}

pub returns-in_default-clause-answer : goal.returns-in_default-clause-answer
returns-in_default-clause-answer c =
    let text = c.args.self.now.rest.now in
    let other : 0 < length text → get_or text 0 0 ≡ 94 → ⊥ =
    elim c.in_default.branch [
      | in_default-via-then-self-lt1 w ↦ λ h e. omega (arith, ltb-true)
      | in_default-via-else-self-lt1+in_default-1 w ↦ λ h e. omega (arith, eqb-false)
    ]
    in
    c.set.ensures.answer ∙ sym (bracket_set c.args.self.now.alphabet.letters text other)

-- the text begins with a ^
others : (c : In-94) → bracket_of c.args.self.now.alphabet.letters c.args.self.now.rest.now ≡ others_of c.args.self.now.alphabet.letters (set_of c.args.self.now.alphabet.letters 0 (tail c.args.self.now.rest.now))
others c = bracket_others c.args.self.now.alphabet.letters c.args.self.now.rest.now (omega (arith, ltb-false)) (omega (arith, eqb-true))

pub returns-in_err-all_but-clause-answer : goal.returns-in_err-all_but-clause-answer
returns-in_err-all_but-clause-answer c =
    let K = c.args.self.now.alphabet.letters in
    let p = err_from_is_err_and c.from_residual.result c.from_residual.ensures.1 in
    rw (p.1, p.2) (sym (others_faulty K _) ∙ ap (others_of K) c.in_err-all_but.ensures.answer ∙ sym (others (goal.at.returns-in_err-all_but-clause-answer c).In-94))

-- the set of all letters is that of the alphabet as it was
all : (c : After-every-all) → c.every-all.result ≡ every c.args.self.now.alphabet.letters
all c = c.every-all.ensures ∙ ap (λ (a : Alphabet). every a.letters) c.in_ok-all_but.ensures.same

pub overflow_sub-result : goal.overflow_sub-result
overflow_sub-result c =
    omega (arith, set_below c.args.self.now.alphabet.letters (tail c.args.self.now.rest.now) _ _ (sym c.in_ok-all_but.ensures.answer), all (goal.at.overflow_sub-result c).After-every-all)

pub returns-then-all_but-all-clause-answer : goal.returns-then-all_but-all-clause-answer
returns-then-all_but-all-clause-answer c =
    let K = c.args.self.now.alphabet.letters in
    sym (others_none K c.in_ok-all_but.all_but c.set-2.new.self.rest.now (c.if-all_but-all.true ∙ all (goal.at.returns-then-all_but-all-clause-answer c).After-every-all))
    ∙ ap (others_of K) c.in_ok-all_but.ensures.answer ∙ sym (others (goal.at.returns-then-all_but-all-clause-answer c).In-94)

pub returns-else-all_but-all-clause-answer : goal.returns-else-all_but-all-clause-answer
returns-else-all_but-all-clause-answer c =
    let K = c.args.self.now.alphabet.letters in
    let is = all (goal.at.returns-else-all_but-all-clause-answer c).After-every-all in
    ap (λ (n : ℕ). found (n - c.in_ok-all_but.all_but) c.set-2.new.self.rest.now) is
    ∙ sym (others_some K c.in_ok-all_but.all_but c.set-2.new.self.rest.now (λ e. c.if-all_but-all.false (e ∙ sym is)))
    ∙ ap (others_of K) c.in_ok-all_but.ensures.answer ∙ sym (others (goal.at.returns-else-all_but-all-clause-answer c).In-94)
