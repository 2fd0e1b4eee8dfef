-- Laws of rows that are cut, turned round or joined: how many cells there are, what asking for one answers, and that the row stays lawful.
-- Every answer of every layer follows from the ruleset `rows`. Assumes nothing.
use Rattle.std.specs.Prelude.{◌≡◌, ℕ, zero, suc, ◌+◌, ◌-◌, ◌<◌, ◌≤◌, min, List, [], ◌∷◌, ◌++◌, map, reverse, length, take, drop, Ok, Err, Result, slice_index_or, refl}
use Rattle.std.proofs.Common.{sym, ◌∙◌, zero-add, suc-add, not-suc-le-zero, le_of_suc-le-suc, arith, length-take, length-drop}
use Rattle.std.proofs.Math.Path.{ap}
use mathlib.Core.List.{reverse_aux}
use Rattle.std.proofs.Math.ListN.{length-append, length-map}
use Rattle.std.specs.List.{AllByRecursion}
use Rattle.std.proofs.ByRecursion.{All-take, All-drop, All-append}
use Rattle.std.proofs.lemmas.List.{get_or-reverse, get_or-append_right, length-reverse}
use Rattle.trace.specs.declared.fault.Fault.TheVariants.{NoSuchCell}
use Rattle.trace.specs.Cells.{shown, cell_at, Below, Lettered, Lawful}
use Rattle.trace.specs.declared.fault.Origin.TheVariants.{First, Second}
use Rattle.trace.specs.Layers.{window, tagged, reanswer, join}

module _ {D : Type 0} where
  pub cell_past : (xs : List (Result ℕ D)) (i : ℕ) → length xs ≤ i → cell_at xs i ≡ Err NoSuchCell
  cell_past [] i h = refl
  cell_past (x ∷ xs) zero h = absurd (not-suc-le-zero h)
  cell_past (x ∷ xs) (suc i) h = cell_past xs i (le_of_suc-le-suc h)

  pub cell_within : (xs : List (Result ℕ D)) (i : ℕ) (d : Result ℕ D) → i < length xs → cell_at xs i ≡ shown (slice_index_or xs i d)
  cell_within [] i d h = absurd (not-suc-le-zero h)
  cell_within (x ∷ xs) zero d h = refl
  cell_within (x ∷ xs) (suc i) d h = cell_within xs i d (le_of_suc-le-suc h)

  pub cell_take : (n : ℕ) (xs : List (Result ℕ D)) (i : ℕ) → i < n → cell_at (take n xs) i ≡ cell_at xs i
  cell_take zero xs i h = absurd (not-suc-le-zero h)
  cell_take (suc n) [] i h = refl
  cell_take (suc n) (x ∷ xs) zero h = refl
  cell_take (suc n) (x ∷ xs) (suc i) h = cell_take n xs i (le_of_suc-le-suc h)

  pub cell_drop : (n : ℕ) (xs : List (Result ℕ D)) (i : ℕ) → cell_at (drop n xs) i ≡ cell_at xs (n + i)
  cell_drop zero xs i = ap (cell_at xs) (sym (zero-add i))
  cell_drop (suc n) [] i = refl
  cell_drop (suc n) (x ∷ xs) i = cell_drop n xs i ∙ ap (cell_at (x ∷ xs)) (sym (suc-add n i))

  pub cell_append_left : (xs ys : List (Result ℕ D)) (i : ℕ) → i < length xs → cell_at (xs ++ ys) i ≡ cell_at xs i
  cell_append_left [] ys i h = absurd (not-suc-le-zero h)
  cell_append_left (x ∷ xs) ys zero h = refl
  cell_append_left (x ∷ xs) ys (suc i) h = cell_append_left xs ys i (le_of_suc-le-suc h)

  pub cell_append_add : (xs ys : List (Result ℕ D)) (i : ℕ) → cell_at (xs ++ ys) (length xs + i) ≡ cell_at ys i
  cell_append_add [] ys i = ap (cell_at ys) (zero-add i)
  cell_append_add (x ∷ xs) ys i = ap (cell_at (x ∷ (xs ++ ys))) (suc-add (length xs) i) ∙ cell_append_add xs ys i

  pub cell_append_right : (xs ys : List (Result ℕ D)) (i : ℕ) → length xs ≤ i → cell_at (xs ++ ys) i ≡ cell_at ys (i - length xs)
  cell_append_right xs ys i h =
      let e : length xs + (i - length xs) ≡ i = omega arith in
      ap (cell_at (xs ++ ys)) (sym e) ∙ cell_append_add xs ys (i - length xs)

  pub cell_reverse : (xs : List (Result ℕ D)) (i : ℕ) → i < length xs → cell_at (reverse xs) i ≡ cell_at xs (length xs - 1 - i)
  cell_reverse [] i h = absurd (not-suc-le-zero h)
  cell_reverse (x ∷ xs) i h =
      let k : i < length (reverse (x ∷ xs)) = simp length-reverse h in
      cell_within (reverse (x ∷ xs)) i x k ∙ ap shown (get_or-reverse (x ∷ xs) i x h) ∙ sym (cell_within (x ∷ xs) (length (x ∷ xs) - 1 - i) x (omega arith))

  -- the letter that is read is one of the alphabet
  pub letter_below : (n : ℕ) (xs : List (Result ℕ D)) (i l : ℕ) → Lettered n xs → Ok l ≡ cell_at xs i → l < n
  letter_below n [] i l h e = let z : ◌≡◌ {A = ℕ} 0 1 = cc in omega arith
  letter_below n (Ok x ∷ xs) zero l h e = let q : l ≡ x = cc in omega (arith, h.0)
  letter_below n (Err d ∷ xs) zero l h e = let z : ◌≡◌ {A = ℕ} 0 1 = cc in omega arith
  letter_below n (Ok x ∷ xs) (suc i) l h e = letter_below n xs i l h.1 e
  letter_below n (Err d ∷ xs) (suc i) l h e = letter_below n xs i l h.1 e

module _ {X : Type 0} (P : X → Type 0) where
  all_reverse_aux : (xs ys : List X) → AllByRecursion P xs → AllByRecursion P ys → AllByRecursion P (reverse_aux xs ys)
  all_reverse_aux [] ys h k = k
  all_reverse_aux (x ∷ xs) ys h k = all_reverse_aux xs (x ∷ ys) h.1 (h.0, k)

  pub all_reverse : (xs : List X) → AllByRecursion P xs → AllByRecursion P (reverse xs)
  all_reverse xs h = all_reverse_aux xs [] h tt

pub length_window : {X : Type 0} (f t : ℕ) (xs : List X) → length (window f t xs) ≡ min t (length xs) - f
unfolding window
length_window f t xs = simp (length-take, length-drop) (omega arith)

module _ {D : Type 0} where
  pub cell_window : (f t : ℕ) (xs : List (Result ℕ D)) (i : ℕ) → i < length (window f t xs) → cell_at (window f t xs) i ≡ cell_at xs (f + i)
  unfolding window
  cell_window f t xs i h =
      let l : i < t - f = omega (arith, length_window f t xs) in
      cell_take (t - f) (drop f xs) i l ∙ cell_drop f xs i

  pub lawful_window : (f t : ℕ) {n : ℕ} {xs : List (Result ℕ D)} → Lawful n xs → Lawful n (window f t xs)
  unfolding window
  lawful_window f t {n} {xs} h = record {
    some_letter = h.some_letter;
    few_letters = h.few_letters;
    short = omega (arith, length_window f t xs, h.short);
    lettered = All-take (Below n) (t - f) (drop f xs) (All-drop (Below n) f xs h.lettered);
  }

  pub lawful_reverse : {n : ℕ} {xs : List (Result ℕ D)} → Lawful n xs → Lawful n (reverse xs)
  lawful_reverse {n} {xs} h = record {
    some_letter = h.some_letter;
    few_letters = h.few_letters;
    short = omega (arith, length-reverse xs, h.short);
    lettered = all_reverse (Below n) xs h.lettered;
  }

module _ {D E : Type 0} (f : D → E) where
  pub cell_map : (xs : List (Result ℕ D)) (i : ℕ) → cell_at (map (tagged f) xs) i ≡ reanswer f (cell_at xs i)
  cell_map [] i = refl
  cell_map (Ok n ∷ xs) zero = refl
  cell_map (Err d ∷ xs) zero = refl
  cell_map (x ∷ xs) (suc i) = cell_map xs i

  below_map : (n : ℕ) (xs : List (Result ℕ D)) → Lettered n xs → Lettered n (map (tagged f) xs)
  below_map n [] h = tt
  below_map n (Ok l ∷ xs) h = (h.0, below_map n xs h.1)
  below_map n (Err d ∷ xs) h = (tt, below_map n xs h.1)

module _ {D : Type 0} where
  pub length_join : (xs ys : List (Result ℕ D)) → length (join xs ys) ≡ min 16777216 (length xs + length ys)
  unfolding join
  length_join xs ys = simp (length-take, length-append, length-map)

  pub cell_join_first : (xs ys : List (Result ℕ D)) (i : ℕ) → i < length (join xs ys) → i < length xs → cell_at (join xs ys) i ≡ reanswer First (cell_at xs i)
  unfolding join
  cell_join_first xs ys i h l =
      let k : i < 16777216 = omega (arith, length_join xs ys) in
      let m : i < length (map (tagged First) xs) = simp length-map l in
      cell_take 16777216 (map (tagged First) xs ++ map (tagged Second) ys) i k ∙ cell_append_left (map (tagged First) xs) (map (tagged Second) ys) i m ∙ cell_map First xs i

  pub cell_join_second : (xs ys : List (Result ℕ D)) (i : ℕ) → i < length (join xs ys) → length xs ≤ i → cell_at (join xs ys) i ≡ reanswer Second (cell_at ys (i - length xs))
  unfolding join
  cell_join_second xs ys i h l =
      let k : i < 16777216 = omega (arith, length_join xs ys) in
      let e : length (map (tagged First) xs) ≡ length xs = length-map xs (tagged First) in
      let m : length (map (tagged First) xs) ≤ i = simp length-map l in
      cell_take 16777216 (map (tagged First) xs ++ map (tagged Second) ys) i k ∙ cell_append_right (map (tagged First) xs) (map (tagged Second) ys) i m ∙ ap (λ (n : ℕ). cell_at (map (tagged Second) ys) (i - n)) e ∙ cell_map Second ys (i - length xs)

  pub lawful_join : {n : ℕ} {xs ys : List (Result ℕ D)} → Lawful n xs → Lawful n ys → Lawful n (join xs ys)
  unfolding join
  lawful_join {n} {xs} {ys} h k = record {
    some_letter = h.some_letter;
    few_letters = h.few_letters;
    short = omega (arith, length_join xs ys);
    lettered = All-take (Below n) 16777216 (map (tagged First) xs ++ map (tagged Second) ys)
        (All-append (Below n) (map (tagged First) xs) (map (tagged Second) ys) (below_map First n xs h.lettered) (below_map Second n ys k.lettered));
  }

pub ruleset rows = (cell_past, cell_take, cell_drop, cell_append_left, cell_append_right, cell_reverse, cell_map, cell_window, cell_join_first, cell_join_second, length_window, length_join, length-reverse, length-take, length-drop)
