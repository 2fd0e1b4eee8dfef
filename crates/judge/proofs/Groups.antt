-- The words of the entries of a table, and the entries one by one.
use Rattle.std.proofs.Common.{◌≡◌, ℕ, zero, suc, ◌+◌, ◌-◌, ◌*◌, ◌<◌, ◌≤◌, List, [], ◌∷◌, length, get_or, set, take, drop, Some, None, Option, sym, refl, ap, ◌∙◌, arith}
use Rattle.std.proofs.lemmas.List.{get_or-take, length-take-le, length-drop}
use Rattle.std.proofs.lemmas.Grind.{get_or_after_one}
use Rattle.std.specs.List.{AllWithin, HoldsAt}
use Rattle.std.specs.Option.{MatchOption}
use native.Mathlib.Numerals.{unary_clauses}
use Rattle.automaton.specs.Judging.{Node}
use Rattle.exploration.specs.Links.{link_at, node_at, written}
use Rattle.judge.specs.Memory.{groups_in}
use Rattle.judge.specs.Tables.{words_of, node_in, Finds}

pub length_words : (es : List (List ℕ)) → length (words_of es) ≡ 4 * length es
length_words [] = refl
length_words (e ∷ es) = omega (arith, length_words es)

-- the j-th word of entry k
word_at : (es : List (List ℕ)) (k j : ℕ) → j < 4 → get_or (words_of es) (4 * k + j) 0 ≡ get_or (get_or es k []) j 0
word_at [] k j h = refl
word_at (e ∷ es) zero zero h = refl
word_at (e ∷ es) zero (suc zero) h = refl
word_at (e ∷ es) zero (suc (suc zero)) h = refl
word_at (e ∷ es) zero (suc (suc (suc zero))) h = refl
word_at (e ∷ es) zero (suc (suc (suc (suc j)))) h = absurd (omega arith)
word_at (e ∷ es) (suc k) j h =
    let n : 4 * suc k + j ≡ suc (suc (suc (suc (4 * k + j)))) = omega arith in
    ap (λ i. get_or (words_of (e ∷ es)) i 0) n ∙ word_at es k j h

pub link_is : (es : List (List ℕ)) (k : ℕ) → link_at (words_of es) k ≡ get_or (get_or es k []) 0 0
link_is es k =
    let n : 4 * k ≡ 4 * k + 0 = omega arith in
    ap (λ i. get_or (words_of es) i 0) n ∙ word_at es k 0 (omega arith)

pub node_is : (es : List (List ℕ)) (k : ℕ) → node_at (words_of es) k ≡ node_in (get_or es k [])
node_is es k = λ i. (word_at es k 1 (omega arith) i, word_at es k 2 (omega arith) i, word_at es k 3 (omega arith) i)

-- to set an entry is to write its group
past : (es : List (List ℕ)) (e : List ℕ) (s l q x y : ℕ)
    → set (set (set (set (words_of (e ∷ es)) (suc (suc (suc (suc s)))) l) (suc (suc (suc (suc s))) + 1) q) (suc (suc (suc (suc s))) + 2) x) (suc (suc (suc (suc s))) + 3) y
    ≡ get_or e 0 0 ∷ (get_or e 1 0 ∷ (get_or e 2 0 ∷ (get_or e 3 0 ∷ set (set (set (set (words_of es) s l) (s + 1) q) (s + 2) x) (s + 3) y)))
past es e s l q x y = simp unary_clauses

pub words_set : (K : ℕ) (es : List (List ℕ)) (m i a : ℕ) (n : Node) → words_of (set es m ((i * K + a) ∷ (n.0 ∷ (n.1 ∷ (n.2 ∷ []))))) ≡ written K (words_of es) m i a n
words_set K [] m i a n = refl
words_set K (e ∷ es) zero i a n = refl
words_set K (e ∷ es) (suc m) i a n =
    let f : 4 * suc m ≡ suc (suc (suc (suc (4 * m)))) = omega arith in
    ap (λ l. get_or e 0 0 ∷ (get_or e 1 0 ∷ (get_or e 2 0 ∷ (get_or e 3 0 ∷ l)))) (words_set K es m i a n) ∙ rw f (sym (past es e (4 * m) (i * K + a) n.0 n.1 n.2))

-- the first entry in use that has the node, or none
pub finds : (es : List (List ℕ)) (size : ℕ) (n : Node) (r : Option ℕ) → size ≤ length es
    → MatchOption r (AllWithin (λ e. node_in e ≡ n → ⊥) (take size es) 0 (length (take size es))) (λ k. (k < length (take size es)) × HoldsAt (λ e. node_in e ≡ n) (take size es) k × AllWithin (λ e. node_in e ≡ n → ⊥) (take size es) 0 k)
    → Finds (words_of es) size n r
finds es size n None h m = λ k l e. m k [] (omega arith) (omega (arith, length-take-le size es h)) (ap node_in (get_or-take size es k [] l) ∙ sym (node_is es k) ∙ e)
finds es size n (Some k) h m =
    let l : k < size = omega (arith, m.0, length-take-le size es h) in
    (l, node_is es k ∙ ap node_in (sym (get_or-take size es k [] l)) ∙ m.1 [])

pub groups_words : (es : List (List ℕ)) → groups_in (words_of es) ≡ length es
groups_words es = omega (arith, length_words es)

-- the entries in use but the first
module _ (es u : List (List ℕ)) (size : ℕ) (e : u ≡ take size es) (room : size ≤ length es) where
  pub length_used : length u ≡ size
  length_used = ap length e ∙ length-take-le size es room

  pub length_others : length (take (length u - 1) (drop 1 u)) ≡ size - 1
  length_others = length-take-le (length u - 1) (drop 1 u) (omega (arith, length-drop 1 u)) ∙ omega (arith, length_used)

  pub other_node : (i : ℕ) → i < length (take (length u - 1) (drop 1 u)) → node_in (get_or (take (length u - 1) (drop 1 u)) i []) ≡ node_at (words_of es) (i + 1)
  other_node i l =
      let less : i < length u - 1 = omega (arith, length_others, length_used) in
      let next : 1 + i ≡ i + 1 = omega arith in
      ap node_in (get_or-take (length u - 1) (drop 1 u) i [] less ∙ get_or_after_one u i [] ∙ (λ j. get_or (e j) (1 + i) []) ∙ get_or-take size es (1 + i) [] (omega (arith, length_used)))
      ∙ sym (node_is es (1 + i)) ∙ ap (node_at (words_of es)) next
