use Rattle.std.proofs.Common.{◌≡◌, ◌≤◌, Some, None, length, sym, ap, ◌∙◌, rules}
use Rattle.std.specs.Option.{option_copied}
use Rattle.std.proofs.lemmas.List.{get_or_default, get_or_past}
use Rattle.std.proofs.lemmas.Bool.{ltb-true, ltb-false}
use Rattle.sheet.specs.Tables.{arrow_of, arrow_from}
use Rattle.sheet.specs.Views.{table_of, state_at}
use Rattle.sheet.proofs.Entries.{arrow_there}
use Rattle.sheet.proofs.Sheet.follow.Goals as goal
use Rattle.sheet.proofs.Sheet.follow.Goals.{In_ok-state}

there : (c : In_ok-state) → state_at c.args.self.now c.args.state ≡ Some c.in_ok-state.field-0.now
there c = sym c.state.ensures.answer ∙ ap option_copied c.in_ok-state.was

pub returns-in_err-get : goal.returns-in_err-get
returns-in_err-get c =
    let s = c.in_ok-state.field-0.now in
    let e = arrow_there c.args.self.now c.args.state c.args.letter s (there (goal.at.returns-in_err-get c).In_ok-state) in
    let past : length s.arrows ≤ c.args.letter = ltb-false _ _ (sym c.in_err-get.ensures.lookup.0) in
    let none : arrow_from (table_of c.args.self.now) c.args.state c.args.letter ≡ None = e ∙ ap arrow_of (get_or_past s.arrows c.args.letter 0 past) in
    record { answer = cc }

pub returns : goal.returns
returns c =
    let s = c.in_ok-state.field-0.now in
    let e = arrow_there c.args.self.now c.args.state c.args.letter s (there (goal.at.returns c).In_ok-state) in
    let look = c.in_ok-get.ensures.lookup in
    let it = get_or_default s.arrows c.args.letter c.in_ok-get.field-0.now 0 (ltb-true _ _ (sym look.0)) in
    let same : c.map.result ≡ c.arrow_in.result = search rules in
    record { answer = same ∙ c.arrow_in.ensures ∙ ap arrow_of (look.1 ∙ it) ∙ sym e }
