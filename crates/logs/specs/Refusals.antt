-- The refusals of opening, each with its number. Assumes nothing.
use Rattle.std.specs.Prelude.{ℕ}
use Rattle.logs.specs.declared.refusal.OpenRefusal.{OpenRefusal}
use Rattle.logs.specs.declared.refusal.OpenRefusal.TheVariants.{SignLogTooLong, EventLogLength}

abbrev pub refusal_number : OpenRefusal → ℕ
refusal_number SignLogTooLong = 41
refusal_number EventLogLength = 42
