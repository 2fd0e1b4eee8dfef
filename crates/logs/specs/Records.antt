-- A record of an event log: 4 bytes, a minute of the day (2 bytes, 0 to 1439), a code (0 to 7: off, on, dim, key accepted, key refused,
-- join, leave, self check) and a level (0 to 255).
--   letter_of code level     the letter of an event: four for each code, by the quarter that its level lies in
--   record_cell at m n c l   the cell of the record of these four bytes, at the offset `at` of the log
-- (A byte is a level; for numbers that are no bytes the range is asked for all the same.)
-- Assumes nothing.
use Rattle.std.specs.Prelude.{ℕ, ◌+◌, ◌*◌, ◌/◌, cond, ◌&&◌, Ok, Err, Result, nat_lt}
use Rattle.logs.specs.declared.cause.Cause.{Cause}
use Rattle.logs.specs.declared.cause.Cause.TheVariants.{Record}
use Rattle.logs.specs.declared.cause.EventDamage.{EventDamage}

abbrev pub letter_of : ℕ → ℕ → ℕ
letter_of code level = 4 * code + level / 64

abbrev pub damage_of : Cause → ℕ → EventDamage
damage_of cause at = record { cause = cause; offset = at }

unfoldable pub record_cell : ℕ → ℕ → ℕ → ℕ → ℕ → Result ℕ EventDamage
record_cell at high low code level = cond (nat_lt (high * 256 + low) 1440 && (nat_lt code 8 && nat_lt level 256)) (Ok (letter_of code level)) (Err (damage_of Record at))
