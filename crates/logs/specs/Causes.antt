-- The causes of damage, each with its number; and the text of an event log's damage, each character by its code. Assumes nothing.
use Rattle.std.specs.Prelude.{ℕ, List, ◌++◌, codes, decimal}
use Rattle.logs.specs.declared.cause.Cause.{Cause}
use Rattle.logs.specs.declared.cause.Cause.TheVariants.{NotASign, Check, Number, Header, Record}
use Rattle.logs.specs.declared.cause.EventDamage.{EventDamage}

abbrev pub cause_number : Cause → ℕ
cause_number NotASign = 1
cause_number Check = 2
cause_number Number = 3
cause_number Header = 4
cause_number Record = 5

abbrev pub damage_text : EventDamage → List ℕ
damage_text damage = codes "cause " ++ (decimal (cause_number damage.cause) ++ (codes " at byte " ++ decimal damage.offset))
