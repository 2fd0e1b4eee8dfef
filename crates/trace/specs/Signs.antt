-- The sign of a letter: A to Z for 0 to 25, a to f for 26 to 31. A sign is one ASCII character, here by its code. Assumes nothing.
use Rattle.std.specs.Prelude.{ℕ, ◌+◌, ◌-◌, cond, Some, None, Option, nat_lt}

abbrev pub sign_of : ℕ → Option ℕ
sign_of a = cond (nat_lt a 26) (Some (65 + a)) (cond (nat_lt a 32) (Some (97 + (a - 26))) None)
