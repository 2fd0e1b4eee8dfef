-- The row of an event log.
--   record_cells at n bs    the cells of the first n records of bs, which stand at the offset `at` of the log
--   block_cells place v b   the cells of the block at this place, of which v was found: its count of records, or 126 damaged cells
--   cells_from place left   the cells of `left` blocks, the first of them at this place
--   event_row               the row of a log of these bytes
--   record_at bytes at           the cell of the record at an offset of the log
--   cell_in place n v            cell n of the block at this place, of which v was found
-- What opening a log finds out, and answers.
--   verdict_at bytes k     what is found of block k
--   cells_of, cell_count   how many cells a block gives, and all blocks together
--   WellSized              the question that opening asks: is the length a multiple of 512, at most 65,536?
-- Assumes nothing.
use Rattle.std.specs.Prelude.{◌≡◌, ℕ, zero, suc, ◌+◌, ◌*◌, ◌/◌, ◌%◌, ◌<◌, ◌≤◌, Bool, true, false, List, [], ◌∷◌, ◌++◌, length, take, drop, replicate, Ok, Err, Result, ◌==◌, slice_index_or}
use Rattle.logs.specs.declared.cause.EventDamage.{EventDamage}
use Rattle.logs.specs.Blocks.{byte, Verdict, verdict_of}
use Rattle.logs.specs.Records.{record_cell, damage_of}

unfoldable pub record_cells : ℕ → ℕ → List ℕ → List (Result ℕ EventDamage)
record_cells at zero bs = []
record_cells at (suc n) bs = record_cell at (byte bs 0) (byte bs 1) (byte bs 2) (byte bs 3) ∷ record_cells (at + 4) n (drop 4 bs)

unfoldable pub block_cells : ℕ → Verdict → List ℕ → List (Result ℕ EventDamage)
block_cells place (Ok n) b = record_cells (512 * place + 4) n (drop 4 b)
block_cells place (Err cause) b = replicate 126 (Err (damage_of cause (512 * place)))

-- no block is left: this is the last one
abbrev pub none_left : ℕ → Bool
none_left zero = true
none_left (suc left) = false

-- a block's number has to be its place
unfoldable pub cells_from : ℕ → ℕ → List ℕ → List (Result ℕ EventDamage)
cells_from place zero bytes = []
cells_from place (suc left) bytes =
    block_cells place (verdict_of place (none_left left) (take 512 bytes)) (take 512 bytes) ++ cells_from (suc place) left (drop 512 bytes)

unfoldable pub event_row : List ℕ → List (Result ℕ EventDamage)
event_row bytes = cells_from 0 (length bytes / 512) bytes

abbrev pub record_at : List ℕ → ℕ → Result ℕ EventDamage
record_at bytes at = record_cell at (byte bytes at) (byte bytes (at + 1)) (byte bytes (at + 2)) (byte bytes (at + 3))

unfoldable pub cell_in : ℕ → ℕ → Verdict → List ℕ → Result ℕ EventDamage
cell_in place n (Ok count) bytes = record_at bytes (512 * place + 4 + 4 * n)
cell_in place n (Err cause) bytes = Err (damage_of cause (512 * place))

abbrev pub block_at : List ℕ → ℕ → List ℕ
block_at bytes k = take 512 (drop (512 * k) bytes)

abbrev pub verdict_at : List ℕ → ℕ → Verdict
verdict_at bytes k = verdict_of k (k + 1 == length bytes / 512) (block_at bytes k)

abbrev pub cells_of : Verdict → ℕ
cells_of (Ok n) = n
cells_of (Err cause) = 126

abbrev pub cell_count : ℕ → List Verdict → ℕ
cell_count zero verdicts = 0
cell_count (suc n) verdicts = 126 * n + cells_of (slice_index_or verdicts n (Ok 0))

abbrev pub WellSized : List ℕ → Type 0
WellSized bytes = (length bytes % 512 ≡ 0) × (length bytes ≤ 65536)

-- each of the first n blocks was judged
abbrev pub Judged : List ℕ → List Verdict → ℕ → Type 0
Judged bytes verdicts n = (k : ℕ) → k < n → slice_index_or verdicts k (Ok 0) ≡ verdict_at bytes k
