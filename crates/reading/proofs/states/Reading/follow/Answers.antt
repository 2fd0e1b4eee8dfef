-- `follow`: one cell more is looked at.
use Rattle.std.proofs.Common.{◌≡◌, ℕ, ◌-◌, ◌≤◌, Some, None, Option, sym, ap, ◌∙◌}
use Rattle.pattern.specs.Rows.{cell}
use Rattle.automaton.proofs.Ticks.{following_front, following_damage, following_to}
use Rattle.sheet.specs.Views.{automaton_of}
use Rattle.reading.specs.Cells.{letters_in}
use Rattle.reading.specs.Spots.{conf_of}
use Rattle.reading.proofs.Looking.{fetched, read_letter, read_fault, looked_letter, looked_fault}
use Rattle.reading.proofs.states.Reading.follow.Goals as goal

pub returns-then-at-clause-answer : goal.returns-then-at-clause-answer
returns-then-at-clause-answer g c =
    sym (following_front (automaton_of c.args.self.now.sheet) (letters_in (g.T.Trace.row c.args.self.now.trace)) (conf_of c.args.at) c.if-at.true)

pub returns-in-Ok : goal.returns-in-Ok
returns-in-Ok g c =
    let s = c.args.at in
    let cells = g.T.Trace.row c.args.self.now.trace in
    let row = letters_in cells in
    let a = c.in-Ok.letter in
    let within : s.o ≤ s.p = c.if-at.false in
    let at : cell row (s.p - s.o) ≡ Some a = read_letter cells (s.p - s.o) a (sym c.in-Ok.ensures) in
    record {
      looked = looked_letter row s a within at;
      answer = c.follow.ensures.answer ∙ sym (following_to (automaton_of c.args.self.now.sheet) row (conf_of s) a within at);
    }

pub returns-in-Err : goal.returns-in-Err
returns-in-Err g c =
    let s = c.args.at in
    let cells = g.T.Trace.row c.args.self.now.trace in
    let row = letters_in cells in
    let within : s.o ≤ s.p = c.if-at.false in
    let at : cell row (s.p - s.o) ≡ None = read_fault cells (s.p - s.o) c.in-Err.field-0 (sym c.in-Err.ensures) in
    record {
      looked = ap (λ (d : Option ℕ). conf_of (fetched s d)) c.or-damaged.ensures ∙ looked_fault row s within at;
      answer = sym (following_damage (automaton_of c.args.self.now.sheet) row (conf_of s) within at);
    }
