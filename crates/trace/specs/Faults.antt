-- A fault whose damage is told anew.
--   ForDamage x P   if the fault is a damage, P holds of it
--   Retold R x y    y is the fault x, and where x is a damage, R ties it to that of y
-- Assumes nothing.
use Rattle.std.specs.Prelude.{◌≡◌, ⊤}
use Rattle.trace.specs.declared.fault.Fault.{Fault}
use Rattle.trace.specs.declared.fault.Fault.TheVariants.{NoSuchCell, Damaged}

abbrev pub ForDamage : {D : Type 0} → Fault D → (D → Type 0) → Type 0
ForDamage {D} x P = (d : D) → x ≡ Damaged d → P d

abbrev pub Retold : {D E : Type 0} → (D → E → Type 0) → Fault D → Fault E → Type 0
Retold R NoSuchCell NoSuchCell = ⊤
Retold R NoSuchCell (Damaged e) = ⊥
Retold R (Damaged d) NoSuchCell = ⊥
Retold R (Damaged d) (Damaged e) = R d e
