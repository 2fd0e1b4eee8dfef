-- The first state, one state more, and all of them.
use Rattle.std.proofs.Common.{◌≡◌, ◌+◌, Ok, rules, ap, ◌∙◌, arith}
use Rattle.automaton.specs.Judging.{Node}
use Rattle.pattern.specs.Fits.{fitting}
use Rattle.plan.specs.Views.{patterns_of}
use Rattle.sheet.specs.Views.{table_of}
use Rattle.judge.specs.Tables.{words_in}
use Rattle.judge.specs.Plots.{fits_at}
use Rattle.judge.proofs.Groups.{length_used, length_others, other_node}
use Rattle.judge.proofs.Entries.{room, some}
use Rattle.judge.proofs.Plotting.{bare_more}
use Rattle.judge.proofs.drawing.Plot.states.Goals as goal

pub slice_bounds-entry-items-count : goal.slice_bounds-entry-items-count
slice_bounds-entry-items-count c =
    let table = c.args.self.now.table.now in
    omega (arith, some c.args.self.now c.requires.complete, length_used table.entries.now c.used.result.now table.size c.used.ensures.answer (room c.args.self.now c.requires.complete))

pub slice_bounds-entry-items-start : goal.slice_bounds-entry-items-start
slice_bounds-entry-items-start c =
    let table = c.args.self.now.table.now in
    omega (arith, some c.args.self.now c.requires.complete, length_used table.entries.now c.used.result.now table.size c.used.ensures.answer (room c.args.self.now c.requires.complete))

pub loop-entry-preserved : goal.loop-entry-preserved
loop-entry-preserved c =
    let plan = c.args.self.now.plan.now in
    let table = c.args.self.now.table.now in
    let w = words_in table in
    let k = c.loop-entry.entry-index + 1 in
    let e : c.push_state.result ≡ Ok c.in_ok-map_err.field-0 = search rules in
    let s = rw e at c.push_state.ensures.answer in
    let n = other_node table.entries.now c.used.result.now table.size c.used.ensures.answer (room c.args.self.now c.requires.complete) c.loop-entry.entry-index c.loop-entry-test.true in
    let f : c.from.result.fits ≡ fits_at w k = ap (λ (n : Node). (n.1, n.2)) (c.from.ensures ∙ n) in
    bare_more plan w k (table_of c.loop-entry.sheet) (table_of c.push_state.new.self) c.marks.result c.is_prefix.result (omega arith) c.loop-entry.invariant
    (c.marks.ensures.answer ∙ ap (fitting (patterns_of plan)).marks f) (c.is_prefix.ensures.answer ∙ ap (fitting (patterns_of plan)).prefix f) s.2

pub returns : goal.returns
returns c =
    let table = c.args.self.now.table.now in
    let n = length_others table.entries.now c.used.result.now table.size c.used.ensures.answer (room c.args.self.now c.requires.complete) in
    let e : c.loop-entry.entry-index + 1 ≡ table.size = omega (arith, n, some c.args.self.now c.requires.complete, c.loop-entry-test.false, c.loop-entry.auto.entry-index-end) in
    record { answer = rw (← e) c.loop-entry.invariant }
