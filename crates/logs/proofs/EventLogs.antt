-- One block more of an event log was judged; and where a cell of the log stands. Assumes nothing.
use Rattle.std.proofs.Common.{◌≡◌, ℕ, ◌+◌, ◌-◌, ◌*◌, ◌/◌, ◌<◌, eqb, ◌≢◌, List, [], length, get_or, take, drop, set, Ok, ap, ◌∙◌, add-zero, lit≤, arith, get_or-set_other, get_or-set_same, below_more}
use Rattle.std.specs.Simd.{first_chunks}
use Rattle.logs.specs.Blocks.{byte, Verdict, verdict_of}
use Rattle.logs.specs.Records.{record_cell}
use Rattle.logs.specs.EventLogs.{record_at, block_at, verdict_at, Judged}
use Rattle.logs.proofs.Blocks.{chunk_at, byte_of_four}

-- one block more was judged: the code's part of the bytes is the block
pub judged_more : (bytes : List ℕ) (verdicts : List Verdict) (n : ℕ) (v : Verdict) → n < length verdicts → Judged bytes verdicts n → v ≡ verdict_of n (eqb (n + 1) (length bytes / 512)) (take ((512 * n + 512) - 512 * n) (drop (512 * n) bytes)) → Judged bytes (set verdicts n v) (n + 1)
judged_more bytes verdicts n v h judged e =
    let size : (512 * n + 512) - 512 * n ≡ 512 = omega arith in
    below_more (λ k. get_or (set verdicts n v) k (Ok 0) ≡ verdict_at bytes k) n
    (λ k l. let other : k ≢ n = omega arith in rw get_or-set_other (judged k l))
    (rw get_or-set_same (e ∙ ap (λ (m : ℕ). verdict_of n (eqb (n + 1) (length bytes / 512)) (take m (drop (512 * n) bytes))) size))

-- the same, of a block that the code takes from the chunks of the bytes
pub judged_chunk : (bytes : List ℕ) (verdicts : List Verdict) (n : ℕ) (v : Verdict) (blocks : List (List ℕ)) → n < length verdicts → Judged bytes verdicts n → blocks ≡ first_chunks 512 (length bytes / 512) bytes → length blocks ≡ length bytes / 512 → n < length blocks → v ≡ verdict_of n (eqb (n + 1) (length blocks)) (get_or blocks n []) → Judged bytes (set verdicts n v) (n + 1)
judged_chunk bytes verdicts n v blocks h judged are size l e =
    let part : 512 ≡ (512 * n + 512) - 512 * n = omega arith in
    let block : get_or blocks n [] ≡ block_at bytes n = ap (λ (xs : List (List ℕ)). get_or xs n []) are ∙ chunk_at 512 (length bytes / 512) n bytes (omega arith) in
    judged_more bytes verdicts n v h judged (e ∙ (λ i. verdict_of n (eqb (n + 1) (size i)) (block i)) ∙ ap (λ (m : ℕ). verdict_of n (eqb (n + 1) (length bytes / 512)) (take m (drop (512 * n) bytes))) part)

-- record n of a block, as the code takes it from the log's chunks of four
pub record_of_chunk : (bytes : List ℕ) (words : List (List ℕ)) (block n : ℕ) → words ≡ first_chunks 4 (length bytes / 4) bytes → block < length bytes / 512 → n < 126 → (let at : ℕ = 512 * block + 4 + 4 * n in let w : List ℕ = get_or words (at / 4) [] in record_cell at (byte w 0) (byte w 1) (byte w 2) (byte w 3) ≡ record_at bytes at)
record_of_chunk bytes words block n are h l =
    let at : ℕ = 512 * block + 4 + 4 * n in
    let there : 4 * (at / 4) ≡ at = omega arith in
    let chunk : get_or words (at / 4) [] ≡ take 4 (drop at bytes) = ap (λ (xs : List (List ℕ)). get_or xs (at / 4) []) are ∙ chunk_at 4 (length bytes / 4) (at / 4) bytes (omega arith) ∙ ap (λ (m : ℕ). take 4 (drop m bytes)) there in
    let first = byte_of_four bytes at 0 (lit≤ tt) ∙ ap (byte bytes) (add-zero at) in
    let second = byte_of_four bytes at 1 (lit≤ tt) in
    let third = byte_of_four bytes at 2 (lit≤ tt) in
    let fourth = byte_of_four bytes at 3 (lit≤ tt) in
    (λ i. record_cell at (byte (chunk i) 0) (byte (chunk i) 1) (byte (chunk i) 2) (byte (chunk i) 3)) ∙ (λ i. record_cell at (first i) (second i) (third i) (fourth i))
