-- The questions about a file, as the code puts them.
use Rattle.std.proofs.Common.{◌≡◌, ℕ, ◌+◌, ◌*◌, ◌<◌, ◌≤◌, true, false, leb, ◌⊎◌, List, length, get_or, Err, ⊎_elim, arith}
use Rattle.std.proofs.lemmas.Bool.{le-leb, lt-leb, eq-eqb, ne_eqb, and_left, and_right, and_from}
use Rattle.sheet.specs.declared.refusals.SheetRefusal.TheVariants.{Head, Edition, Counts, Length, Content}
use Rattle.sheet.specs.Files.{entry_size, sound, parts, is_counted, read_file}

-- ---- refusals

pub not_counted : (states letters : ℕ) → (states ≡ 0) ⊎ ((letters ≡ 0) ⊎ (32 < letters)) → is_counted states letters ≡ false
not_counted states letters =
    ⊎_elim
    (λ (h : states ≡ 0). and_left (leb 1 states) _ (lt-leb 1 states (omega arith)))
    (⊎_elim
    (λ (h : letters ≡ 0). and_right (leb 1 states) _ (and_left (leb 1 letters) _ (lt-leb 1 letters (omega arith))))
    (λ (h : 32 < letters). and_right (leb 1 states) _ (and_right (leb 1 letters) _ (lt-leb letters 32 h))))

pub is_counted_lem : (states letters : ℕ) → (states ≡ 0 → ⊥) → (letters ≡ 0 → ⊥) → letters ≤ 32 → is_counted states letters ≡ true
is_counted_lem states letters s l h =
    and_from _ _ (le-leb 1 states (omega arith)) (and_from _ _ (le-leb 1 letters (omega arith)) (le-leb letters 32 h))

module _ (bytes : List ℕ) where
  pub refuse_head : length bytes < 4 → read_file bytes ≡ Err Head
  unfolding read_file
  refuse_head h = rw (lt-leb 4 (length bytes) h)

  module _ (head : 4 ≤ length bytes) where
    pub refuse_edition : (get_or bytes 3 0 ≡ 1 → ⊥) → read_file bytes ≡ Err Edition
    unfolding read_file
    refuse_edition h = rw (le-leb 4 (length bytes) head, ne_eqb (get_or bytes 3 0) 1 h)

    module _ (edition : get_or bytes 3 0 ≡ 1) where
      pub refuse_counts : is_counted (get_or bytes 0 0) (get_or bytes 1 0) ≡ false → read_file bytes ≡ Err Counts
      unfolding read_file
      refuse_counts h = rw (le-leb 4 (length bytes) head, eq-eqb (get_or bytes 3 0) 1 edition, h)

      module _ (counted : is_counted (get_or bytes 0 0) (get_or bytes 1 0) ≡ true) where
        pub refuse_length : (length bytes ≡ 4 + get_or bytes 0 0 * entry_size (get_or bytes 1 0) → ⊥) → read_file bytes ≡ Err Length
        unfolding read_file
        refuse_length h = rw (le-leb 4 (length bytes) head, eq-eqb (get_or bytes 3 0) 1 edition, counted, ne_eqb (length bytes) _ h)

        pub refuse_content : length bytes ≡ 4 + get_or bytes 0 0 * entry_size (get_or bytes 1 0) → sound (get_or bytes 0 0) (parts bytes) ≡ false → read_file bytes ≡ Err Content
        unfolding read_file
        refuse_content l h = rw (le-leb 4 (length bytes) head, eq-eqb (get_or bytes 3 0) 1 edition, counted, eq-eqb (length bytes) _ l, h)
