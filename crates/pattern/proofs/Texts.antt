-- The text of a part of a row.
use Rattle.std.proofs.Common.{◌≡◌, ℕ, zero, suc, ◌+◌, List, [], ◌∷◌, ◌++◌, length, Some, None, Option, refl, ap, ◌∙◌, add-zero, add-suc, suc-add, zero-add, arith}
use Rattle.pattern.specs.Rows.{cell, cons, text, Letters, Lettered}

pub record Cons (x : Option ℕ) (y : Option (List ℕ)) (t : List ℕ) : Type 0 where
  pub a : ℕ
  pub u : List ℕ
  pub head : x ≡ Some a
  pub tail : y ≡ Some u
  pub is : t ≡ a ∷ u

pub uncons : (x : Option ℕ) (y : Option (List ℕ)) (t : List ℕ) → cons x y ≡ Some t → Cons x y t
uncons None y t h = absurd (let z : ◌≡◌ {A = ℕ} 0 1 = cc in omega arith)
uncons (Some a) None t h = absurd (let z : ◌≡◌ {A = ℕ} 0 1 = cc in omega arith)
uncons (Some a) (Some u) t h = record { a = a; u = u; head = refl; tail = refl; is = cc }

pub joins : (x : Option ℕ) (y : Option (List ℕ)) (a : ℕ) (u : List ℕ) → x ≡ Some a → y ≡ Some u → cons x y ≡ Some (a ∷ u)
joins x y a u e f = rw (e, f)

pub text_length : (row : List (Option ℕ)) (s n : ℕ) (t : List ℕ) → text row s n ≡ Some t → length t ≡ n
unfolding text
text_length row s zero t h = let e : t ≡ [] = cc in rw e
text_length row s (suc n) t h =
    let r = uncons (cell row s) (text row (suc s) n) t h in
    rw r.is (ap suc (text_length row (suc s) n r.u r.tail))

pub text_letters : (K : ℕ) (row : List (Option ℕ)) → Lettered K row → (s n : ℕ) (t : List ℕ) → text row s n ≡ Some t → Letters K t
unfolding text
text_letters K row all s zero t h = let e : t ≡ [] = cc in rw e tt
text_letters K row all s (suc n) t h =
    let r = uncons (cell row s) (text row (suc s) n) t h in
    rw r.is (all s r.a r.head, text_letters K row all (suc s) n r.u r.tail)

pub record Cut (row : List (Option ℕ)) (s m d : ℕ) (t : List ℕ) : Type 0 where
  pub u : List ℕ
  pub v : List ℕ
  pub is : t ≡ u ++ v
  pub left : text row s m ≡ Some u
  pub right : text row (s + m) d ≡ Some v

pub text_cut : (row : List (Option ℕ)) (s m d : ℕ) (t : List ℕ) → text row s (m + d) ≡ Some t → Cut row s m d t
unfolding text
text_cut row s zero d t h = record { u = []; v = t; is = refl; left = refl; right = rw (add-zero s) (rw (zero-add d) at h) }
text_cut row s (suc m) d t h =
    let r = uncons (cell row s) (text row (suc s) (m + d)) t (rw (suc-add m d) at h) in
    let c = text_cut row (suc s) m d r.u r.tail in
    record {
      u = r.a ∷ c.u;
      v = c.v;
      is = r.is ∙ ap {B = List ℕ} (λ x. r.a ∷ x) c.is;
      left = joins (cell row s) (text row (suc s) m) r.a c.u r.head c.left;
      right = rw (add-suc s m, ← (suc-add s m)) c.right;
    }
