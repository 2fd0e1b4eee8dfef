-- The row of a sign log.
--   sign k b       the cell of the byte b at the offset k: `A` to `Z` are the letters 0 to 25, any other byte is damage
--   sign_cells k   the cells of bytes that begin at the offset k
--   sign_row       the row of a log of these bytes
-- Assumes nothing.
use Rattle.std.specs.Prelude.{ℕ, suc, ◌-◌, cond, ◌&&◌, List, [], ◌∷◌, Ok, Err, Result, nat_le}
use Rattle.logs.specs.declared.cause.SignDamage.{SignDamage}

abbrev pub no_sign : ℕ → SignDamage
no_sign k = record { offset = k }

abbrev pub sign : ℕ → ℕ → Result ℕ SignDamage
sign k b = cond (nat_le 65 b && nat_le b 90) (Ok (b - 65)) (Err (no_sign k))

abbrev pub sign_cells : ℕ → List ℕ → List (Result ℕ SignDamage)
sign_cells k [] = []
sign_cells k (b ∷ bs) = sign k b ∷ sign_cells (suc k) bs

abbrev pub sign_row : List ℕ → List (Result ℕ SignDamage)
sign_row bytes = sign_cells 0 bytes
