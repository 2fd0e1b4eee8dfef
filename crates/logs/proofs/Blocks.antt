-- Chunks of bytes, and the check of a block, word by word. Assumes nothing.
use Rattle.std.proofs.Common.{◌≡◌, ℕ, zero, suc, ◌+◌, ◌*◌, ◌<◌, ◌%◌, ◌^◌, List, [], get_or, take, drop, sym, refl, ap, ◌∙◌, lit≤, add-zero, add_assoc, add-one, mul-zero, mul-suc, not-suc-le-zero, le_of_suc-le-suc, arith, get_or-take, get_or-drop, drop-drop}
use Rattle.std.specs.Simd.{first_chunks}
use native.Mathlib.Nat.{add-mod}
use Rattle.logs.specs.Blocks.{byte, word32, weighted, check_of}

module _ (n : ℕ) where
  pub chunk_at : (k i : ℕ) (xs : List ℕ) → i < k → get_or (first_chunks n k xs) i [] ≡ take n (drop (n * i) xs)
  chunk_at zero i xs h = absurd (not-suc-le-zero h)
  chunk_at (suc k) zero xs h = ap (λ (m : ℕ). take n (drop m xs)) (sym (mul-zero n))
  chunk_at (suc k) (suc i) xs h =
      let next : n + n * i ≡ n * suc i = omega (arith, mul-suc n i) in
      chunk_at k i (drop n xs) (le_of_suc-le-suc h) ∙ ap (take n) (drop-drop (n * i) n xs ∙ ap (λ (m : ℕ). drop m xs) next)

-- byte j of the four that stand at an offset
pub byte_of_four : (b : List ℕ) (at j : ℕ) → j < 4 → byte (take 4 (drop at b)) j ≡ byte b (at + j)
byte_of_four b at j h = get_or-take 4 (drop at b) j 0 h ∙ get_or-drop at b j 0

-- word w of the block, as the code takes it from the block's chunks of four
pub word_of_chunk : (b : List ℕ) (n k w : ℕ) → w < n → w < k → word32 (get_or (take n (first_chunks 4 k b)) w []) 0 ≡ word32 b (4 * w)
word_of_chunk b n k w h l =
    let chunk = get_or-take n (first_chunks 4 k b) w [] h ∙ chunk_at 4 k w b l in
    let high : byte b (4 * w + 0) ≡ byte b (4 * w) = ap (byte b) (add-zero (4 * w)) in
    ap (λ (c : List ℕ). word32 c 0) chunk
    ∙ (λ i. (byte_of_four b (4 * w) 0 (lit≤ tt) ∙ high) i * 16777216 + byte_of_four b (4 * w) 1 (lit≤ tt) i * 65536 + byte_of_four b (4 * w) 2 (lit≤ tt) i * 256 + byte_of_four b (4 * w) 3 (lit≤ tt) i)

pub check_none : (b : List ℕ) → 1 ≡ (1 + weighted b 0) % 2 ^ 32
unfolding weighted
check_none b = refl

-- one word more, each number kept below 2 ^ 32
pub check_more : (b : List ℕ) (w : ℕ) → ((1 + weighted b w) % 2 ^ 32 + word32 b (4 * w) * (2 * w + 1) % 2 ^ 32) % 2 ^ 32 ≡ (1 + weighted b (w + 1)) % 2 ^ 32
unfolding weighted
check_more b w =
    let m : ℕ = 2 ^ 32 in
    let x : ℕ = word32 b (4 * w) * (2 * w + 1) in
    sym (add-mod (1 + weighted b w) x m) ∙ ap (λ (n : ℕ). n % m) (add_assoc 1 (weighted b w) x) ∙ ap (λ (k : ℕ). (1 + weighted b k) % m) (sym (add-one w))

pub check_whole : (b : List ℕ) (w : ℕ) → w ≡ 127 → (1 + weighted b w) % 2 ^ 32 ≡ check_of b
unfolding check_of
check_whole b w e = ap (λ (k : ℕ). (1 + weighted b k) % 2 ^ 32) e
