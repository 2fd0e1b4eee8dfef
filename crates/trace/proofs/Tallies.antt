-- The cells that answer a letter, counted by their numbers, are the letters of the row. Assumes nothing.
use Rattle.std.proofs.Common.{◌≡◌, ℕ, suc, ◌+◌, ◌-◌, cond, Bool, List, [], ◌∷◌, length, is_ok, is_err, Ok, Err, count_by, Result, sym, refl, ap, ◌∙◌, add-zero, zero-add, arith}
use Rattle.std.specs.List.{range_with_len, filter}
use Rattle.std.proofs.lemmas.List.Sums.{sum_by-cons, length-filter}
use Rattle.trace.specs.Cells.{shown, cell_at}
use Rattle.trace.specs.Tallies.{tally_of}

module _ {D : Type 0} where
  ok_shown : (x : Result ℕ D) → is_ok (shown x) ≡ is_ok x
  ok_shown (Ok n) = refl
  ok_shown (Err d) = refl

  count_from : (xs : List (Result ℕ D)) (a : ℕ) (f : ℕ → Bool) → ((i : ℕ) → f (a + i) ≡ is_ok (cell_at xs i)) → count_by f (range_with_len a (length xs)) ≡ count_by is_ok xs
  count_from [] a f h = refl
  count_from (x ∷ xs) a f h =
      let here : f a ≡ is_ok x = ap f (sym (add-zero a)) ∙ h 0 ∙ ok_shown x in
      let next = count_from xs (a + 1) f (λ i. let e : a + 1 + i ≡ a + suc i = omega arith in ap f e ∙ h (suc i)) in
      omega (arith, sum_by-cons (λ i. cond (f i) 1 0) a (range_with_len (a + 1) (length xs)), sum_by-cons (λ y. cond (is_ok y) 1 0) x xs, ap {B = ℕ} (λ (b : Bool). cond b 1 0) here, next)

  -- a cell is a letter or it is not
  tally_split : (xs : List (Result ℕ D)) → count_by is_ok xs + count_by is_err xs ≡ length xs
  tally_split [] = refl
  tally_split (x ∷ xs) = omega (arith, sum_by-cons (λ y. cond (is_ok y) 1 0) x xs, sum_by-cons (λ y. cond (is_err y) 1 0) x xs, tally_split xs, either x)
    where
      either : (y : Result ℕ D) → cond (is_ok y) 1 0 + cond (is_err y) 1 0 ≡ 1
      either (Ok n) = refl
      either (Err d) = refl

  -- the numbers of the cells that answer a letter, as many as they are, give the tally
  pub tally_whole : (xs : List (Result ℕ D)) (n len : ℕ) → len ≡ length xs → n ≡ length (filter (λ i. is_ok (cell_at xs i)) (range_with_len 0 len)) → record { letters = n; damaged = len - n } ≡ tally_of xs
  tally_whole xs n len e h =
      let oks : n ≡ count_by is_ok xs = h ∙ length-filter (λ i. is_ok (cell_at xs i)) (range_with_len 0 len) ∙ ap (λ (k : ℕ). count_by (λ i. is_ok (cell_at xs i)) (range_with_len 0 k)) e ∙ count_from xs 0 (λ i. is_ok (cell_at xs i)) (λ i. ap (λ (k : ℕ). is_ok (cell_at xs k)) (zero-add i)) in
      let errs : len - n ≡ count_by is_err xs = omega (arith, tally_split xs) in
      λ j. record { letters = oks j; damaged = errs j }
