-- The lines of a listing: what is said of a cell, by what asking for it answers, and how it is written.
--   note_of, line_of         what the line is made from
--   damage_text, cell_text   its text, each character by its code
-- Assumes nothing.
use Rattle.std.specs.Prelude.{ℕ, List, ◌++◌, Ok, Err, codes, decimal, Result}
use Rattle.std.proofs.Math.Utf8.{encode}
use Rattle.std.specs.Option.{unwrap_or}
use Rattle.trace.specs.Signs.{sign_of}
use Rattle.trace.specs.declared.fault.Fault.{Fault}
use Rattle.trace.specs.declared.fault.Fault.TheVariants as fault
use Rattle.logs.specs.Causes.{cause_number}
use Rattle.logs.specs.declared.cause.EventDamage.{EventDamage}
use Rattle.console.specs.declared.listing.CellLine.{CellLine}
use Rattle.console.specs.declared.listing.CellLine.TheVariants.{Missing, Letter, Damaged}
use Rattle.console.specs.declared.listing.DamageNote.{DamageNote}

abbrev pub note_of : EventDamage → DamageNote
note_of damage = record { cause = cause_number damage.cause; offset = damage.offset }

-- a number that is no letter is shown as `?`, whose code is 63
abbrev pub line_of : ℕ → Result ℕ (Fault EventDamage) → CellLine
line_of cell (Ok letter) = Letter cell (unwrap_or (sign_of letter) 63)
line_of cell (Err fault.NoSuchCell) = Missing cell
line_of cell (Err (fault.Damaged damage)) = Damaged cell (note_of damage)

abbrev pub damage_text : DamageNote → List ℕ
damage_text note = codes "cause " ++ (decimal note.cause ++ (codes " at byte " ++ decimal note.offset))

abbrev pub cell_text : CellLine → List ℕ
cell_text (Missing cell) = decimal cell ++ codes " MISSING"
cell_text (Letter cell sign) = decimal cell ++ (codes " " ++ encode sign)
cell_text (Damaged cell damage) = decimal cell ++ (codes " DAMAGED " ++ damage_text damage)
