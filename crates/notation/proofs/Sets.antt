-- What was read, where a set was.
use Rattle.std.proofs.Common.{◌≡◌, ℕ, ◌^◌, ◌<◌, ◌≤◌, Bool, true, false, cond, eqb, List, [], ◌∷◌, ◌++◌, map, sym, refl, ◌∙◌, ap₂}
use lib.Bits.{bit_or}
use Rattle.std.proofs.lemmas.Nat.{or_lt, pow_below, pow_pos}
use Rattle.std.proofs.lemmas.Bool.{eqb-false}
use Rattle.notation.specs.declared.Sign.{Sign}
use Rattle.notation.specs.declared.Sign.TheVariants.{Letter, Dot, Open, Close, Caret, Other}
use Rattle.notation.specs.declared.LineFault.TheVariants.{BadSet}
use Rattle.notation.specs.Reading.{sign_of, found, faulty, closed, in_set, set_of}
use Rattle.notation.specs.Grammar.{byte_of, Below}
use Rattle.notation.proofs.Signs.{letter_means, close_means, letter_sign_lem, close_sign}
use Rattle.notation.proofs.Turns.{closed_some}

-- the set with these letters too
abbrev pub union : ℕ → List ℕ → ℕ
union had [] = had
union had (a ∷ ls) = union (bit_or had (2 ^ a)) ls

pub union_below : (K had : ℕ) (ls : List ℕ) → had < 2 ^ K → Below K ls → union had ls < 2 ^ K
union_below K had [] h b = h
union_below K had (a ∷ ls) h b = union_below K (bit_or had (2 ^ a)) ls (or_lt K had (2 ^ a) h (pow_below a K b.0)) b.1

-- no value was found
pub record SetRead (K had : ℕ) (t : List ℕ) (s : ℕ) (rest : List ℕ) : Type 0 where
  pub letters : List ℕ
  pub is : t ≡ map byte_of letters ++ 93 ∷ rest
  pub below : Below K letters
  pub set : s ≡ union had letters
  pub some : s ≡ 0 → ⊥

closed_read : (set : ℕ) (t : List ℕ) (s : ℕ) (rest : List ℕ) (none : Bool) → eqb set 0 ≡ none → cond none (faulty BadSet) (found set t) ≡ found s rest → (s ≡ set) × (t ≡ rest) × (s ≡ 0 → ⊥)
closed_read set t s rest true z e = absurd (cc)
closed_read set t s rest false z e = let same : set ≡ s = cc in (sym same, cc, λ n. eqb-false set 0 z (same ∙ n))

pub set_read : (K had : ℕ) (t : List ℕ) (s : ℕ) (rest : List ℕ) → set_of K had t ≡ found s rest → SetRead K had t s rest
unfolding set_of in_set closed
set_read K had [] s rest e = absurd (cc)
set_read K had (b ∷ t) s rest e = by_sign_lem (λ now. set_read K now t s rest) (sign_of K b) refl e
  where
    by_sign_lem : ((now : ℕ) → set_of K now t ≡ found s rest → SetRead K now t s rest) → (x : Sign) → x ≡ sign_of K b → in_set (λ now. set_of K now t) had t x ≡ found s rest → SetRead K had (b ∷ t) s rest
    by_sign_lem more (Letter a) p e =
        let m = letter_means K b a p in
        let r = more (bit_or had (2 ^ a)) e in
        record { letters = a ∷ r.letters; is = ap₂ ◌∷◌ m.1 r.is; below = (m.0, r.below); set = r.set; some = r.some }
    by_sign_lem more Dot p e = absurd (cc)
    by_sign_lem more Open p e = absurd (cc)
    by_sign_lem more Close p e =
        let c = closed_read had t s rest (eqb had 0) refl e in
        record { letters = []; is = ap₂ ◌∷◌ (close_means K b p) c.1; below = tt; set = c.0; some = c.2 }
    by_sign_lem more Caret p e = absurd (cc)
    by_sign_lem more Other p e = absurd (cc)

pub set_below : (K : ℕ) (t : List ℕ) (s : ℕ) (rest : List ℕ) → set_of K 0 t ≡ found s rest → s < 2 ^ K
set_below K t s rest e = let r = set_read K 0 t s rest e in rw r.set (union_below K 0 r.letters (pow_pos K) r.below)

-- and back
pub set_reads : (K had : ℕ) (ls rest : List ℕ) → K ≤ 32 → Below K ls → (union had ls ≡ 0 → ⊥) → set_of K had (map byte_of ls ++ 93 ∷ rest) ≡ found (union had ls) rest
unfolding set_of in_set
set_reads K had [] rest l b n = rw (close_sign K) (closed_some had rest n)
set_reads K had (a ∷ ls) rest l b n = rw (letter_sign_lem K a b.0 l) (set_reads K (bit_or had (2 ^ a)) ls rest l b.1 n)
