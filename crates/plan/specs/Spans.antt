-- Which patterns lie in the steps of a plan.
use Rattle.std.specs.Prelude.{ℕ, List, map, length, take}
use Rattle.pattern.specs.Fits.{plan_of}
use Rattle.plan.specs.declared.copy_vec.CopyVec.{CopyVec}
use Rattle.plan.specs.declared.span.Span.{Span}

-- the items of a vector
abbrev pub items : {T : Type 0} {N : ℕ} → CopyVec T N → List T
items v = take v.count v.places

-- the first step of each pattern, and how many steps it has
abbrev pub firsts_of : List Span → List ℕ
firsts_of spans = map (λ s. s.first) spans

abbrev pub lengths_of : List Span → List ℕ
lengths_of spans = map (λ s. s.length) spans

-- the patterns that lie so in the steps
abbrev pub plan_in : List Span → List ℕ → List (List ℕ)
plan_in spans steps = plan_of (length spans) (firsts_of spans) (lengths_of spans) steps
