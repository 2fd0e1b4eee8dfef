-- Laws of the row of a sign log, by which the code is proved: the ruleset `signs`, and that the row is lawful. Assumes nothing.
use Rattle.std.specs.Prelude.{◌≡◌, ℕ, zero, suc, ◌+◌, ◌-◌, ◌<◌, ◌≤◌, ◌&&◌, List, [], ◌∷◌, length, Ok, Err, nat_le, slice_index, refl}
use Rattle.std.proofs.Common.{sym, ap, ◌∙◌, add-zero, zero-add, suc-add, add-suc, not-suc-le-zero, le_of_suc-le-suc, arith, lit≤}
use Rattle.std.proofs.lemmas.Bool.{cond_both, and_parts, leb-true}
use Rattle.trace.specs.Cells.{shown, cell_at, Below, Lettered, Lawful}
use Rattle.logs.specs.SignLogs.{no_sign, sign, sign_cells, sign_row}

pub length_cells : (k : ℕ) (bs : List ℕ) → length (sign_cells k bs) ≡ length bs
length_cells k [] = refl
length_cells k (b ∷ bs) = ap suc (length_cells (suc k) bs)

cell_cells : (k : ℕ) (bs : List ℕ) (i : ℕ) → i < length bs → cell_at (sign_cells k bs) i ≡ shown (sign (k + i) (slice_index bs i))
cell_cells k [] i h = absurd (not-suc-le-zero h)
cell_cells k (b ∷ bs) zero h = ap (λ (n : ℕ). shown (sign n b)) (sym (add-zero k))
cell_cells k (b ∷ bs) (suc i) h =
    cell_cells (suc k) bs i (le_of_suc-le-suc h) ∙ ap (λ (n : ℕ). shown (sign n (slice_index bs i))) (suc-add k i ∙ sym (add-suc k i))

sign_below : (k b : ℕ) → Below 26 (sign k b)
sign_below k b =
    cond_both (nat_le 65 b && nat_le b 90) (Ok (b - 65)) (Err (no_sign k)) (Below 26)
    (λ e. let p = and_parts (nat_le 65 b) (nat_le b 90) e in let l = leb-true b 90 p.1 in omega arith)
    (λ e. tt)

lettered_cells : (k : ℕ) (bs : List ℕ) → Lettered 26 (sign_cells k bs)
lettered_cells k [] = tt
lettered_cells k (b ∷ bs) = (sign_below k b, lettered_cells (suc k) bs)

pub length_signs : (bs : List ℕ) → length (sign_row bs) ≡ length bs
length_signs bs = length_cells 0 bs

pub cell_signs : (bs : List ℕ) (i : ℕ) → i < length bs → cell_at (sign_row bs) i ≡ shown (sign i (slice_index bs i))
cell_signs bs i h = cell_cells 0 bs i h ∙ ap (λ (k : ℕ). shown (sign k (slice_index bs i))) (zero-add i)

pub lawful_signs : (bs : List ℕ) → length bs ≤ 65536 → Lawful 26 (sign_row bs)
lawful_signs bs h = record {
  some_letter = lit≤ tt;
  few_letters = lit≤ tt;
  short = omega (arith, length_signs bs);
  lettered = lettered_cells 0 bs;
}

pub ruleset signs = (cell_signs, length_signs)
