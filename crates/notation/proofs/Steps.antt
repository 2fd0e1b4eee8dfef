-- A step is read if and only if its text is one of the grammar's.
use Rattle.std.proofs.Common.{◌≡◌, ℕ, zero, suc, ◌+◌, ◌-◌, ◌^◌, ◌<◌, ◌≤◌, Bool, true, false, cond, not, eqb, ltb, ◌⊎◌, List, [], ◌∷◌, ◌++◌, map, length, sym, refl, ap, ◌∙◌, subst, ap₂, inl, inr, ⊎_elim, append_assoc, arith}
use lib.Bits.{bit_or}
use Rattle.std.proofs.lemmas.Nat.{pow_below, pow_pos}
use Rattle.std.proofs.lemmas.Bool.{cases_Bool, or_cases, or_left, or_right, not-true, not_from_false, both_ways, eqb-true, eqb-false, eq-eqb, ne_eqb, cond-false}
use Rattle.std.proofs.lemmas.Bool.Decides.{nat_tests}
use Rattle.pattern.specs.Patterns.{admits}
use Rattle.notation.specs.declared.Sign.{Sign}
use Rattle.notation.specs.declared.Sign.TheVariants.{Letter, Dot, Open, Close, Caret, Other}
use Rattle.notation.specs.declared.LineFault.TheVariants.{NoLetter}
use Rattle.notation.specs.Reading.{sign_of, Found, found, faulty, every, set_of, others_of, bracket_of, by_sign, step_of}
use Rattle.notation.specs.Grammar.{byte_of, Below, Among, SetOf, StepText, letter, dot, one_of, none_of}
use Rattle.notation.proofs.Signs.{letter_means, dot_means, open_means, letter_sign_lem, dot_sign, open_sign}
use Rattle.notation.proofs.Sets.{union, union_below, set_read, set_reads}
use Rattle.notation.proofs.Bitwise.{admits_or, admits_zero, admits_not, admits_one, same_sets}

-- ---- sets

-- there is one set of the letters with a property
pub one_set : (K : ℕ) (P : ℕ → Type 0) (m n : ℕ) → SetOf K P m → SetOf K P n → m ≡ n
one_set K P m n h l = same_sets K m n h.small l.small (λ a less. same a less (admits m a) (admits n a) refl refl)
  where
    same : (a : ℕ) → a < K → (x y : Bool) → admits m a ≡ x → admits n a ≡ y → x ≡ y
    same a less true true e f = refl
    same a less true false e f = absurd (both_ways (admits n a) f ((l.holds a less).1 ((h.holds a less).0 e)))
    same a less false true e f = absurd (both_ways (admits m a) e ((h.holds a less).1 ((l.holds a less).0 f)))
    same a less false false e f = refl

pub letter_set : (K a : ℕ) → a < K → SetOf K (λ b. b ≡ a) (2 ^ a)
letter_set K a h =
    record { small = pow_below a K h; holds = λ b less. (λ e. eqb-true b a (sym (admits_one a b) ∙ e), λ e. admits_one a b ∙ eq-eqb b a e) }

pub every_set : (K : ℕ) → SetOf K (λ b. Unit {0}) (every K)
every_set K =
    record {
      small = omega (arith, pow_pos K);
      holds = λ b less. (λ e. tt, λ u. let all : every K - 0 ≡ every K = omega arith in sym (ap (λ (x : ℕ). admits x b) all) ∙ admits_not K 0 b (pow_pos K) less ∙ ap not (admits_zero b));
    }

in_union : (had : ℕ) (ls : List ℕ) (a : ℕ) → admits (union had ls) a ≡ true → (admits had a ≡ true) ⊎ Among a ls
in_union had [] a e = inl e
in_union had (b ∷ ls) a e = by_rest (in_union (bit_or had (2 ^ b)) ls a e)
  where
    by_first : (admits had a ≡ true) ⊎ (admits (2 ^ b) a ≡ true) → (admits had a ≡ true) ⊎ ((a ≡ b) ⊎ Among a ls)
    by_first (inl h) = inl h
    by_first (inr h) = inr (inl (eqb-true a b (sym (admits_one b a) ∙ h)))

    by_rest : (admits (bit_or had (2 ^ b)) a ≡ true) ⊎ Among a ls → (admits had a ≡ true) ⊎ ((a ≡ b) ⊎ Among a ls)
    by_rest (inl h) = by_first (or_cases (admits had a) (admits (2 ^ b) a) (sym (admits_or had (2 ^ b) a) ∙ h))
    by_rest (inr h) = inr (inr h)

union_had : (had : ℕ) (ls : List ℕ) (a : ℕ) → admits had a ≡ true → admits (union had ls) a ≡ true
union_had had [] a h = h
union_had had (b ∷ ls) a h = union_had (bit_or had (2 ^ b)) ls a (admits_or had (2 ^ b) a ∙ or_left _ _ h)

union_in : (had : ℕ) (ls : List ℕ) (a : ℕ) → Among a ls → admits (union had ls) a ≡ true
union_in had [] a h = absurd h
union_in had (b ∷ ls) a (inl h) = union_had (bit_or had (2 ^ b)) ls a (admits_or had (2 ^ b) a ∙ or_right _ _ (admits_one b a ∙ eq-eqb a b h))
union_in had (b ∷ ls) a (inr h) = union_in (bit_or had (2 ^ b)) ls a h

pub union_set : (K : ℕ) (ls : List ℕ) → Below K ls → SetOf K (λ b. Among b ls) (union 0 ls)
union_set K ls h =
    record {
      small = union_below K 0 ls (pow_pos K) h;
      holds = λ a less. (λ e. ⊎_elim (λ (z : admits 0 a ≡ true). absurd (both_ways (admits 0 a) (admits_zero a) z)) (λ (m : Among a ls). m) (in_union 0 ls a e), union_in 0 ls a);
    }

-- the others
pub others_set : (K : ℕ) (P : ℕ → Type 0) (set : ℕ) → SetOf K P set → SetOf K (λ b. P b → ⊥) (every K - set)
others_set K P set h =
    record {
      small = omega (arith, pow_pos K);
      holds = λ a less. (
        λ e p. both_ways (admits set a) (not-true (admits set a) (sym (admits_not K set a h.small less) ∙ e)) ((h.holds a less).1 p),
        λ n. admits_not K set a h.small less ∙ not_from_false (admits set a) (⊎_elim (λ (e : admits set a ≡ true). absurd (n ((h.holds a less).0 e))) (λ (e : admits set a ≡ false). e) (cases_Bool (admits set a))),
      );
    }

-- a set with a letter is not 0
pub some_letters : (ls : List ℕ) → 0 < length ls → union 0 ls ≡ 0 → ⊥
some_letters [] h e = omega arith
some_letters (a ∷ ls) h e = both_ways (admits 0 a) (admits_zero a) (sym (ap (λ (x : ℕ). admits x a) e) ∙ union_in 0 (a ∷ ls) a (inl refl))

pub none_none : (ls : List ℕ) → (union 0 ls ≡ 0 → ⊥) → 0 < length ls
none_none [] h = absurd (h refl)
none_none (a ∷ ls) h = omega arith

-- ---- steps

-- a step was read: the front of the text
pub record StepRead (K : ℕ) (t : List ℕ) (set : ℕ) (rest : List ℕ) : Type 0 where
  pub front : List ℕ
  pub is : t ≡ front ++ rest
  pub text : StepText K front set

-- the text in brackets
brackets : (xs ys rest : List ℕ) → xs ≡ ys ++ 93 ∷ rest → xs ≡ (ys ++ 93 ∷ []) ++ rest
brackets xs ys rest e = e ∙ sym (append_assoc ys (93 ∷ []) rest)

-- what `others_of` takes
pub record OthersRead (K : ℕ) (y : Found ℕ) (s : ℕ) (rest : List ℕ) : Type 0 where
  pub set : ℕ
  pub is : y ≡ found set rest
  pub other : set ≡ every K → ⊥
  pub left : every K - set ≡ s

pub others_read : (K : ℕ) (y : Found ℕ) (s : ℕ) (rest : List ℕ) → others_of K y ≡ found s rest → OthersRead K y s rest
unfolding others_of
others_read K (found set t) s rest e = by_test (eqb set (every K)) refl e
  where
    by_test : (x : Bool) → eqb set (every K) ≡ x → cond x (faulty NoLetter) (found (every K - set) t) ≡ found s rest → OthersRead K (found set t) s rest
    by_test true p e = absurd (cc)
    by_test false p e = let same : t ≡ rest = cc in record { set = set; is = ap (found set) same; other = eqb-false set (every K) p; left = cc }
others_read K (faulty f) s rest e = absurd (cc)

pub bracket_read : (K : ℕ) (t : List ℕ) (s : ℕ) (rest : List ℕ) → bracket_of K t ≡ found s rest → StepRead K (91 ∷ t) s rest
unfolding bracket_of
bracket_read K [] s rest e = absurd (cc)
bracket_read K (b ∷ t) s rest e = by_test (eqb b 94) refl e
  where
    by_test : (x : Bool) → eqb b 94 ≡ x → cond x (others_of K (set_of K 0 t)) (set_of K 0 (b ∷ t)) ≡ found s rest → StepRead K (91 ∷ b ∷ t) s rest
    by_test true p e =
        let o = others_read K (set_of K 0 t) s rest e in
        let r = set_read K 0 t o.set rest o.is in
        let below : o.set < 2 ^ K = rw r.set (union_below K 0 r.letters (pow_pos K) r.below) in
        let differ : o.set ≡ every K → ⊥ = o.other in
        let set : SetOf K (λ b. Among b r.letters → ⊥) s = subst (SetOf K (λ b. Among b r.letters → ⊥)) (ap (λ (n : ℕ). every K - n) (sym r.set) ∙ o.left) (others_set K (λ b. Among b r.letters) (union 0 r.letters) (union_set K r.letters r.below)) in
        record {
          front = 91 ∷ 94 ∷ (map byte_of r.letters ++ 93 ∷ []);
          is = ap₂ (λ (n : ℕ) (l : List ℕ). 91 ∷ n ∷ l) (eqb-true b 94 p) (brackets t (map byte_of r.letters) rest r.is);
          text = none_of r.letters (none_none r.letters (λ z. r.some (r.set ∙ z))) r.below set (omega (arith, o.left, differ));
        }
    by_test false p e =
        let r = set_read K 0 (b ∷ t) s rest e in
        record {
          front = 91 ∷ (map byte_of r.letters ++ 93 ∷ []);
          is = ap (λ (l : List ℕ). 91 ∷ l) (brackets (b ∷ t) (map byte_of r.letters) rest r.is);
          text = one_of r.letters (none_none r.letters (λ z. r.some (r.set ∙ z))) r.below (subst (SetOf K (λ b. Among b r.letters)) (sym r.set) (union_set K r.letters r.below));
        }

pub step_read : (K : ℕ) (t : List ℕ) (s : ℕ) (rest : List ℕ) → step_of K t ≡ found s rest → StepRead K t s rest
unfolding step_of by_sign
step_read K [] s rest e = absurd (cc)
step_read K (b ∷ t) s rest e = by_sign_lem (sign_of K b) refl e
  where
    by_sign_lem : (x : Sign) → x ≡ sign_of K b → by_sign K t x ≡ found s rest → StepRead K (b ∷ t) s rest
    by_sign_lem (Letter a) p e =
        let m = letter_means K b a p in
        let set : 2 ^ a ≡ s = cc in
        let same : t ≡ rest = cc in
        record { front = byte_of a ∷ []; is = ap₂ ◌∷◌ m.1 same; text = subst (StepText K (byte_of a ∷ [])) set (letter a m.0 (letter_set K a m.0)) }
    by_sign_lem Dot p e =
        let set : every K ≡ s = cc in
        let same : t ≡ rest = cc in
        record { front = 46 ∷ []; is = ap₂ ◌∷◌ (dot_means K b p) same; text = subst (StepText K (46 ∷ [])) set (dot (every_set K)) }
    by_sign_lem Open p e = subst (λ (n : ℕ). StepRead K (n ∷ t) s rest) (sym (open_means K b p)) (bracket_read K t s rest e)
    by_sign_lem Close p e = absurd (cc)
    by_sign_lem Caret p e = absurd (cc)
    by_sign_lem Other p e = absurd (cc)

-- ---- and back

-- no letter's sign is a ^, a byte 10 or a [
pub letter_byte : (a : ℕ) → (byte_of a ≡ 94 → ⊥) × (byte_of a ≡ 10 → ⊥) × (byte_of a ≡ 91 → ⊥)
letter_byte a = by_test (ltb a 26) refl
  where
    by_test : (x : Bool) → ltb a 26 ≡ x → (cond x (65 + a) (97 + (a - 26)) ≡ 94 → ⊥) × (cond x (65 + a) (97 + (a - 26)) ≡ 10 → ⊥) × (cond x (65 + a) (97 + (a - 26)) ≡ 91 → ⊥)
    by_test true p = (λ e. grind (arith, nat_tests), λ e. grind (arith, nat_tests), λ e. grind (arith, nat_tests))
    by_test false p = (λ e. grind (arith, nat_tests), λ e. grind (arith, nat_tests), λ e. grind (arith, nat_tests))

pub bracket_one : (K : ℕ) (ls rest : List ℕ) → K ≤ 32 → 0 < length ls → Below K ls → bracket_of K (map byte_of ls ++ 93 ∷ rest) ≡ found (union 0 ls) rest
unfolding bracket_of
bracket_one K [] rest l h b = absurd (omega arith)
bracket_one K (a ∷ ls) rest l h b = cond-false _ _ _ (ne_eqb (byte_of a) 94 (letter_byte a).0) ∙ set_reads K 0 (a ∷ ls) rest l b (some_letters (a ∷ ls) h)

bracket_none : (K : ℕ) (ls rest : List ℕ) → K ≤ 32 → 0 < length ls → Below K ls → (union 0 ls ≡ every K → ⊥) → bracket_of K (94 ∷ (map byte_of ls ++ 93 ∷ rest)) ≡ found (every K - union 0 ls) rest
unfolding bracket_of others_of
bracket_none K ls rest l h b n = ap (others_of K) (set_reads K 0 ls rest l b (some_letters ls h)) ∙ cond-false _ _ _ (ne_eqb (union 0 ls) (every K) n)

pub step_reads : (K : ℕ) (x : List ℕ) (s : ℕ) (rest : List ℕ) → K ≤ 32 → StepText K x s → step_of K (x ++ rest) ≡ found s rest
unfolding step_of by_sign
step_reads K x s rest l (letter a h set) = ap (by_sign K rest) (letter_sign_lem K a h l) ∙ ap (λ (n : ℕ). found n rest) (one_set K (λ b. b ≡ a) (2 ^ a) s (letter_set K a h) set)
step_reads K x s rest l (dot set) = ap (by_sign K rest) (dot_sign K) ∙ ap (λ (n : ℕ). found n rest) (one_set K (λ b. Unit {0}) (every K) s (every_set K) set)
step_reads K x s rest l (one_of ls h b set) =
    ap (by_sign K ((map byte_of ls ++ 93 ∷ []) ++ rest)) (open_sign K)
    ∙ ap (bracket_of K) (append_assoc (map byte_of ls) (93 ∷ []) rest)
    ∙ bracket_one K ls rest l h b
    ∙ ap (λ (n : ℕ). found n rest) (one_set K (λ b. Among b ls) (union 0 ls) s (union_set K ls b) set)
step_reads K x s rest l (none_of ls h b set some) =
    let same : every K - union 0 ls ≡ s = one_set K (λ b. Among b ls → ⊥) (every K - union 0 ls) s (others_set K (λ b. Among b ls) (union 0 ls) (union_set K ls b)) set in
    ap (by_sign K (94 ∷ ((map byte_of ls ++ 93 ∷ []) ++ rest))) (open_sign K)
    ∙ ap (λ (t : List ℕ). bracket_of K (94 ∷ t)) (append_assoc (map byte_of ls) (93 ∷ []) rest)
    ∙ bracket_none K ls rest l h b (λ e. omega (arith, same, e))
    ∙ ap (λ (n : ℕ). found n rest) same

-- a step's text does not begin with the end of a line
pub record Begins (x : List ℕ) : Type 0 where
  pub first : ℕ
  pub others : List ℕ
  pub is : x ≡ first ∷ others
  pub goes_on : first ≡ 10 → ⊥

pub step_begins : (K : ℕ) (x : List ℕ) (s : ℕ) → StepText K x s → Begins x
step_begins K x s (letter a h set) = record { first = byte_of a; others = []; is = refl; goes_on = (letter_byte a).1 }
step_begins K x s (dot set) = record { first = 46; others = []; is = refl; goes_on = λ e. omega arith }
step_begins K x s (one_of ls h b set) = record { first = 91; others = map byte_of ls ++ 93 ∷ []; is = refl; goes_on = λ e. omega arith }
step_begins K x s (none_of ls h b set some) = record { first = 91; others = 94 ∷ (map byte_of ls ++ 93 ∷ []); is = refl; goes_on = λ e. omega arith }

-- ---- a step admits a letter, and only letters below K

holds_some : (K : ℕ) (P : ℕ → Type 0) (s a : ℕ) → a < K → P a → SetOf K P s → 0 < s
holds_some K P zero a less p is = absurd (both_ways (admits 0 a) (admits_zero a) ((is.holds a less).1 p))
holds_some K P (suc s) a less p is = omega arith

pub step_set : (K : ℕ) (x : List ℕ) (s : ℕ) → 1 ≤ K → StepText K x s → (0 < s) × (s < 2 ^ K)
step_set K x s h (letter a less is) = (holds_some K (λ b. b ≡ a) s a less refl is, is.small)
step_set K x s h (dot is) = (holds_some K (λ b. Unit {0}) s 0 h tt is, is.small)
step_set K x s h (one_of [] some b is) = absurd (omega arith)
step_set K x s h (one_of (a ∷ ls) some b is) = (holds_some K (λ b. Among b (a ∷ ls)) s a b.0 (inl refl) is, is.small)
step_set K x s h (none_of ls some b is left) = (left, is.small)
