-- The row that each layer shows, of the rows below it.
--   window f t   the cells from f up to, and without, t, as far as there are any
--   join xs ys   the cells of xs and then those of ys, 2 ^ 24 at most; each damage says which of the two it comes from
-- (A reversal shows `reverse` of the row below it.)
--   tagged, refault, reanswer   a cell, a fault, an answer whose damage is told in another way
-- Assumes nothing.
use Rattle.std.specs.Prelude.{ℕ, ◌-◌, List, ◌++◌, map, take, drop, Ok, Err, Result}
use Rattle.trace.specs.declared.fault.Fault.{Fault}
use Rattle.trace.specs.declared.fault.Fault.TheVariants.{NoSuchCell, Damaged}
use Rattle.trace.specs.declared.fault.Origin.{Origin}
use Rattle.trace.specs.declared.fault.Origin.TheVariants.{First, Second}

unfoldable pub window : {X : Type 0} → ℕ → ℕ → List X → List X
window f t xs = take (t - f) (drop f xs)

module _ {D E : Type 0} (f : D → E) where
  abbrev pub tagged : Result ℕ D → Result ℕ E
  tagged (Ok n) = Ok n
  tagged (Err d) = Err (f d)

  abbrev pub refault : Fault D → Fault E
  refault NoSuchCell = NoSuchCell
  refault (Damaged d) = Damaged (f d)

  abbrev pub reanswer : Result ℕ (Fault D) → Result ℕ (Fault E)
  reanswer (Ok n) = Ok n
  reanswer (Err x) = Err (refault x)

unfoldable pub join : {D : Type 0} → List (Result ℕ D) → List (Result ℕ D) → List (Result ℕ (Origin D))
join xs ys = take 16777216 (map (tagged First) xs ++ map (tagged Second) ys)
