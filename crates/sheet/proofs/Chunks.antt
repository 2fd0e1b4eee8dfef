-- The chunks that a body yields are the parts of the states.
use Rattle.std.proofs.Common.{◌≡◌, ℕ, suc, ◌+◌, ◌*◌, ◌/◌, ◌<◌, List, ◌∷◌, ◌++◌, length, take, drop, sym, ap, ◌∙◌, add-one, arith}
use Rattle.std.proofs.Math.Nat.{add-div_left, mul-div_cancel, div-eq_of_lt}
use Rattle.std.specs.Slice.Iter.{chunks_exact_rest, chunks_exact_size, chunks_exact_steps}
use Rattle.std.specs.declared.slice.ChunksExact.{ChunksExact}
use Rattle.std.proofs.lemmas.Iterator.{YieldsList}
use Rattle.std.proofs.lemmas.Iterator.Splits.{YieldsList-from_shown_while}
use Rattle.std.proofs.lemmas.List.{length-append, take_at, drop_at}
use Rattle.sheet.specs.Files.{cut}
use Rattle.sheet.proofs.Files.{length_cut}

module _ (size : ℕ) (positive : 0 < size) where
  -- the parts that the iterator has left
  abbrev left : ChunksExact ℕ → List (List ℕ)
  left s = cut size (length (chunks_exact_rest s) / size) (chunks_exact_rest s)

  pub cut_first : (xs part rest : List ℕ) → xs ≡ part ++ rest → length part ≡ size → cut size (length xs / size) xs ≡ part ∷ cut size (length rest / size) rest
  unfolding cut
  cut_first xs part rest e l =
      let long : length xs ≡ size + length rest = ap length e ∙ length-append part rest ∙ ap (λ (n : ℕ). n + length rest) l in
      let count : length xs / size ≡ suc (length rest / size) = ap (λ (n : ℕ). n / size) long ∙ add-div_left (length rest) positive ∙ add-one (length rest / size) in
      ap (λ (n : ℕ). cut size n xs) count
      ∙ ap (λ (x : List ℕ). x ∷ cut size (length rest / size) (drop size xs)) (ap (take size) e ∙ take_at part rest size l)
      ∙ ap (λ (ys : List ℕ). part ∷ cut size (length rest / size) ys) (ap (drop size) e ∙ drop_at part rest size l)

  pub chunks_are :
      (s : ChunksExact ℕ) (n : ℕ) → chunks_exact_size s ≡ size → length (chunks_exact_rest s) ≡ n * size
      → YieldsList chunks_exact_steps (λ x. x.now) s (cut size n (chunks_exact_rest s))
  chunks_are s n h long =
      let count : n ≡ length (chunks_exact_rest s) / size = sym (ap (λ (m : ℕ). m / size) long ∙ mul-div_cancel n positive) in
      rw count
      (YieldsList-from_shown_while chunks_exact_steps (λ x. x.now) left (λ t. chunks_exact_size t ≡ size)
      (λ a b p w. length_cut size (length (chunks_exact_rest a) / size) (chunks_exact_rest a) ∙ div-eq_of_lt (omega (arith, w.1.0, p)))
      (λ a x b p w. (w.0 ∙ p, cut_first (chunks_exact_rest a) x.now (chunks_exact_rest b) w.1.0 (w.1.1 ∙ p)))
      s h)
