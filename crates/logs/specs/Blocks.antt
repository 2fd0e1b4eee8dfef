-- A block of an event log: 512 bytes, all numbers highest byte first.
--   bytes 0 and 1 the block's number; byte 2 its count; byte 3 zero; bytes 4 to 507 its 126 records of 4 bytes; bytes 508 to 511 its check
--   byte, word16, word32   the number at an offset of a block
--   weighted b n           the first n words of the block, word w (from 0) times 2 w + 1, summed up
--   check_of               what the check has to be: 1 and that sum of the 127 words before it, modulo 2 ^ 32
--   Verdict                what is found of a block: its count, if it is sound, or else the first cause
--   verdict_of             what is found of a block that ought to have a certain number
-- Assumes nothing.
use Rattle.std.specs.Prelude.{ℕ, zero, suc, ◌+◌, ◌*◌, ◌%◌, ◌^◌, Bool, cond, ◌&&◌, ◌||◌, List, ◌==◌, nat_le, slice_index, Ok, Err, Result}
use Rattle.logs.specs.declared.cause.Cause.{Cause}
use Rattle.logs.specs.declared.cause.Cause.TheVariants.{Check, Number, Header}

abbrev pub byte : List ℕ → ℕ → ℕ
byte b i = slice_index b i

abbrev pub word16 : List ℕ → ℕ → ℕ
word16 b i = byte b i * 256 + byte b (i + 1)

abbrev pub word32 : List ℕ → ℕ → ℕ
word32 b i = byte b i * 16777216 + byte b (i + 1) * 65536 + byte b (i + 2) * 256 + byte b (i + 3)

unfoldable pub weighted : List ℕ → ℕ → ℕ
weighted b zero = 0
weighted b (suc w) = weighted b w + word32 b (4 * w) * (2 * w + 1)

unfoldable pub check_of : List ℕ → ℕ
check_of b = (1 + weighted b 127) % 2 ^ 32

-- byte 3 is zero, and the count is 126, or, in the last block, at most that
abbrev pub well_headed : Bool → List ℕ → Bool
well_headed last b = byte b 3 == 0 && (byte b 2 == 126 || (last && nat_le (byte b 2) 126))

abbrev pub Verdict : Type 0
Verdict = Result ℕ Cause

unfoldable pub verdict_of : ℕ → Bool → List ℕ → Verdict
verdict_of number last b =
    cond (word32 b 508 == check_of b)
    (cond (word16 b 0 == number)
    (cond (well_headed last b) (Ok (byte b 2)) (Err Header))
    (Err Number))
    (Err Check)
