-- The marks of a text, from its fits.
use Rattle.std.proofs.Common.{◌≡◌, ◌-◌, ℕ, zero, length, map, drop, ap, ◌∙◌, arith}
use lib.Lanes.{mask_l}
use Rattle.pattern.specs.Fits.{bit, fitting}
use Rattle.plan.specs.Spans.{items}
use Rattle.plan.specs.Views.{patterns_of}
use Rattle.plan.specs.declared.span.Span.{Span}
use Rattle.plan.proofs.Fitting.{marks_word}
use Rattle.plan.proofs.Marks.{marks_more, marks_are}
use Rattle.plan.proofs.Plan.marks.Goals as goal

pub loop-j-preserved : goal.loop-j-preserved
loop-j-preserved c =
    let long = ap length c.as_slice-spans.ensures in
    marks_more c.args.self.now c.args.fits c.loop-j.marks c.loop-j.j (c.loop-j.j - 1) c.as_slice-spans.result.now _ c.as_slice-spans.ensures (omega arith) (omega (arith, long)) c.loop-j.invariant

pub returns : goal.returns
returns c =
    let e : c.loop-j.j ≡ zero = omega arith in
    let is : c.loop-j.marks ≡ (fitting (patterns_of c.args.self.now)).marks c.args.fits =
    c.loop-j.invariant
    ∙ ap (λ (i : ℕ). mask_l (drop i (map (λ (s : Span). bit c.args.fits.0 s.first) (items c.args.self.now.spans)))) e
    ∙ marks_are c.args.self.now c.args.fits
    in
    record { answer = is; word = marks_word c.args.self.now c.args.fits _ is }
