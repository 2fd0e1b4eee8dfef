-- Looking at one cell.
use Rattle.std.proofs.Common.{◌≡◌, ℕ, zero, suc, ◌+◌, ◌-◌, ◌≤◌, List, [], ◌∷◌, length, Some, None, Ok, Err, Option, Result, sym, refl, ap, add-one, arith}
use Rattle.std.proofs.lemmas.Bool.{le-leb}
use Rattle.std.specs.List.{AllByRecursion}
use Rattle.std.specs.Option.{option_or}
use Rattle.trace.specs.declared.fault.Fault.{Fault}
use Rattle.trace.specs.Cells.{cell_at, Below, Lawful}
use Rattle.pattern.specs.Rows.{cell, Lettered}
use Rattle.automaton.specs.Search.{first_damaged}
use Rattle.reading.specs.declared.spot.Spot.{Spot}
use Rattle.reading.specs.Cells.{letters_in}
use Rattle.reading.specs.Spots.{conf_of, looked}

module _ {D : Type 0} where
  pub read_letter : (row : List (Result ℕ D)) (i a : ℕ) → cell_at row i ≡ Ok a → cell (letters_in row) i ≡ Some a
  read_letter [] i a e = absurd cc
  read_letter (Ok x ∷ row) zero a e = cc
  read_letter (Err d ∷ row) zero a e = absurd cc
  read_letter (x ∷ row) (suc i) a e = read_letter row i a e

  pub read_fault : (row : List (Result ℕ D)) (i : ℕ) (f : Fault D) → cell_at row i ≡ Err f → cell (letters_in row) i ≡ None
  read_fault [] i f e = refl
  read_fault (Ok x ∷ row) zero f e = absurd cc
  read_fault (Err d ∷ row) zero f e = refl
  read_fault (x ∷ row) (suc i) f e = read_fault row i f e

  pub length_letters : (row : List (Result ℕ D)) → length (letters_in row) ≡ length row
  length_letters [] = refl
  length_letters (x ∷ row) = ap suc (length_letters row)

  pub short_letters : {K : ℕ} {row : List (Result ℕ D)} → Lawful K row → length (letters_in row) ≤ 16777216
  short_letters {row = row} l = omega (arith, l.short, length_letters row)

  below_letters : (K : ℕ) (row : List (Result ℕ D)) → AllByRecursion (Below K) row → Lettered K (letters_in row)
  below_letters K [] b i a e = absurd cc
  below_letters K (Ok x ∷ row) b zero a e = let z : x ≡ a = cc in omega (arith, b.0)
  below_letters K (Err d ∷ row) b zero a e = absurd cc
  below_letters K (x ∷ row) b (suc i) a e = below_letters K row b.1 i a e

  pub all_letters : {K : ℕ} {row : List (Result ℕ D)} → Lawful K row → Lettered K (letters_in row)
  all_letters {K} {row} l = below_letters K row l.lettered

-- one more was fetched, and the first damaged cell is d
abbrev pub fetched : Spot → Option ℕ → Spot
fetched s d = record { p = s.p; o = s.o; q = s.q; c = s.c; fetches = s.fetches + 1; damaged = d }

module _ (row : List (Option ℕ)) (s : Spot) where
  looked_at : (d : Option ℕ) → s.o ≤ s.p → d ≡ first_damaged s.damaged (s.p - s.o) (cell row (s.p - s.o)) → conf_of (fetched s d) ≡ looked row (conf_of s)
  looked_at d h e = rw (le-leb s.o s.p h, sym e, add-one s.fetches)

  pub looked_letter : (a : ℕ) → s.o ≤ s.p → cell row (s.p - s.o) ≡ Some a → conf_of (fetched s s.damaged) ≡ looked row (conf_of s)
  looked_letter a h e = looked_at s.damaged h (rw e (go s.damaged))
    where
      go : (d : Option ℕ) → d ≡ first_damaged d (s.p - s.o) (Some a)
      go None = refl
      go (Some d) = refl

  pub looked_fault : s.o ≤ s.p → cell row (s.p - s.o) ≡ None → conf_of (fetched s (option_or s.damaged (Some (s.p - s.o)))) ≡ looked row (conf_of s)
  looked_fault h e = looked_at (option_or s.damaged (Some (s.p - s.o))) h (rw e (go s.damaged))
    where
      go : (d : Option ℕ) → option_or d (Some (s.p - s.o)) ≡ first_damaged d (s.p - s.o) None
      go None = refl
      go (Some d) = refl
