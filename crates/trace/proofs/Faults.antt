-- An answer whose damage is told anew by a function. Assumes nothing.
use Rattle.std.proofs.Common.{◌≡◌, ℕ, Ok, Err, Result, MatchResult, IsErrAnd, ap}
use Rattle.trace.specs.declared.fault.Fault.{Fault}
use Rattle.trace.specs.Layers.{refault, reanswer}

module _ {D E : Type 0} (f : D → E) where
  pub reanswered : (R : Fault D → Fault E → Type 0) → ((x : Fault D) (y : Fault E) → R x y → y ≡ refault f x) → (r : Result ℕ (Fault D)) (s : Result ℕ (Fault E)) → MatchResult r (λ n. s ≡ Ok n) (λ x. IsErrAnd s (R x)) → s ≡ reanswer f r
  reanswered R tells (Ok n) s h = h
  reanswered R tells (Err x) (Ok n) h = absurd h
  reanswered R tells (Err x) (Err y) h = ap Err (tells x y h)
