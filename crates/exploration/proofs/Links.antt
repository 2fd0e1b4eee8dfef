-- To write a linked entry behind the others adds its text and its node, and leaves the others.
use Rattle.std.proofs.Common.{◌≡◌, ℕ, zero, suc, ◌+◌, ◌*◌, ◌/◌, ◌%◌, ◌<◌, ◌≤◌, List, ◌∷◌, length, get_or, sym, refl, ap, ◌∙◌, ⊎_elim, eq-or-lt_of_le, arith, length-set}
use Rattle.std.proofs.lemmas.List.{get_or-set_same, get_or-set_other}
use Rattle.std.proofs.lemmas.Nat.{div-mul-add, mod-mul-add}
use Rattle.automaton.specs.Judging.{Node}
use Rattle.exploration.specs.Stage.{Extends}
use Rattle.exploration.specs.Links.{spell, linked, Linked, link_at, parent_at, letter_at, node_at, cells, written}

-- the text of an entry is that of its links, which the entries behind do not change
pub spell_agree : (p q l r : ℕ → ℕ) (m : ℕ) → ((k : ℕ) → k < m → p k ≡ q k) → ((k : ℕ) → k < m → l k ≡ r k) → Linked p m
    → (f k : ℕ) → k < m → spell p l f k ≡ spell q r f k
spell_agree p q l r m e g h zero k lk = refl
spell_agree p q l r m e g h (suc f) zero lk = refl
spell_agree p q l r m e g h (suc f) (suc k) lk =
    let x : l (suc k) ≡ r (suc k) = g (suc k) lk in
    let y : p (suc k) ≡ q (suc k) = e (suc k) lk in
    let below : p (suc k) < suc k = h (suc k) (omega arith) lk in
    let z : spell p l f (p (suc k)) ≡ spell q r f (p (suc k)) = spell_agree p q l r m e g h f (p (suc k)) (omega arith) in
    let u : spell q r f (p (suc k)) ≡ spell q r f (q (suc k)) = ap (spell q r f) y in
    cc

pub spell_enough : (p l : ℕ → ℕ) (m : ℕ) → Linked p m → (f g k : ℕ) → k < m → k ≤ f → k ≤ g → spell p l f k ≡ spell p l g k
spell_enough p l m h zero zero zero lk x y = refl
spell_enough p l m h zero (suc g) zero lk x y = refl
spell_enough p l m h (suc f) zero zero lk x y = refl
spell_enough p l m h (suc f) (suc g) zero lk x y = refl
spell_enough p l m h zero g (suc k) lk x y = absurd (omega arith)
spell_enough p l m h (suc f) zero (suc k) lk x y = absurd (omega arith)
spell_enough p l m h (suc f) (suc g) (suc k) lk x y =
    let below : p (suc k) < suc k = h (suc k) (omega arith) lk in
    ap (λ (w : List ℕ). l (suc k) ∷ w) (spell_enough p l m h f g (p (suc k)) (omega arith) (omega arith) (omega arith))

pub spell_last : (p l : ℕ → ℕ) (m k : ℕ) → Linked p m → 0 < k → k < m → spell p l k k ≡ l k ∷ spell p l (p k) (p k)
spell_last p l m zero h z lk = absurd (omega arith)
spell_last p l m (suc k) h z lk =
    let below : p (suc k) < suc k = h (suc k) (omega arith) lk in
    ap (λ (w : List ℕ). l (suc k) ∷ w) (spell_enough p l m h k (p (suc k)) (p (suc k)) (omega arith) (omega arith) (omega arith))

module _ {N : Type 0} (node newer : ℕ → N) (p q l r : ℕ → ℕ) (m i a : ℕ) (n : N) (pos : 0 < m) (li : i < m)
    (nodes : (k : ℕ) → k < m → newer k ≡ node k) (parents : (k : ℕ) → k < m → p k ≡ q k) (letters : (k : ℕ) → k < m → l k ≡ r k)
    (node_new : newer m ≡ n) (parent_new : q m ≡ i) (letter_new : r m ≡ a) (h : Linked p m) where
  links_on : Linked q (m + 1)
  links_on k z lk = ⊎_elim (λ (e : k ≡ m). rw (e, parent_new) li) (λ f. rw (← (parents k f)) (h k z f)) (eq-or-lt_of_le le)
    where
      le : k ≤ m
      le = omega arith

  extends : Extends (linked node p l m) (linked newer q r (m + 1)) n (a ∷ spell p l i i)
  extends = record {
    longer = refl;
    nodes_kept = nodes;
    texts_kept = λ k f. sym (spell_agree p q l r m parents letters h k k f);
    new_node = node_new;
    new_text = spell_last q r (m + 1) m links_on pos (omega arith) ∙ rw (parent_new, letter_new) (ap (λ (w : List ℕ). a ∷ w) (sym (spell_agree p q l r m parents letters h i i li)));
  }

  pub appended : Extends (linked node p l m) (linked newer q r (m + 1)) n (a ∷ spell p l i i) × Linked q (m + 1)
  appended = (extends, links_on)

module _ (K : ℕ) (c : List ℕ) (m i a : ℕ) (n : Node) (room : 4 * m + 4 ≤ length c) where
  pub written_old : (j : ℕ) → j < 4 * m → get_or (written K c m i a n) j 0 ≡ get_or c j 0
  written_old j h = grind (arith, get_or-set_other)

  pub written_link : get_or (written K c m i a n) (4 * m) 0 ≡ i * K + a
  written_link = grind (arith, get_or-set_same, get_or-set_other, length-set)

  pub written_state : get_or (written K c m i a n) (4 * m + 1) 0 ≡ n.0
  written_state = grind (arith, get_or-set_same, get_or-set_other, length-set)

  pub written_set : get_or (written K c m i a n) (4 * m + 2) 0 ≡ n.1
  written_set = grind (arith, get_or-set_same, get_or-set_other, length-set)

  pub written_other : get_or (written K c m i a n) (4 * m + 3) 0 ≡ n.2
  written_other = grind (arith, get_or-set_same, get_or-set_other, length-set)

  pub written_node : node_at (written K c m i a n) m ≡ n
  written_node = λ t. (written_state t, written_set t, written_other t)

  pub kept_node : (k : ℕ) → k < m → node_at (written K c m i a n) k ≡ node_at c k
  kept_node k h = λ t. (written_old (4 * k + 1) (omega arith) t, written_old (4 * k + 2) (omega arith) t, written_old (4 * k + 3) (omega arith) t)

  pub kept_link : (k : ℕ) → k < m → link_at (written K c m i a n) k ≡ link_at c k
  kept_link k h = written_old (4 * k) (omega arith)

-- to write a group behind the others is to add an entry
pub writes : (K : ℕ) (c : List ℕ) (m i a : ℕ) (n : Node) → 0 < m → 4 * m + 4 ≤ length c → i < m → a < K → Linked (parent_at K c) m
    → Extends (cells K c m) (cells K (written K c m i a n) (m + 1)) n (a ∷ (cells K c m).text i) × Linked (parent_at K (written K c m i a n)) (m + 1)
writes K c m i a n pos room li la h =
    let d = written K c m i a n in
    let parents : (k : ℕ) → k < m → parent_at K c k ≡ parent_at K d k = λ k f. ap (λ x. x / K) (sym (kept_link K c m i a n room k f)) in
    let letters : (k : ℕ) → k < m → letter_at K c k ≡ letter_at K d k = λ k f. ap (λ x. x % K) (sym (kept_link K c m i a n room k f)) in
    let parent_new : parent_at K d m ≡ i = ap (λ x. x / K) (written_link K c m i a n room) ∙ div-mul-add i K a la in
    let letter_new : letter_at K d m ≡ a = ap (λ x. x % K) (written_link K c m i a n room) ∙ mod-mul-add i K a la in
    appended (node_at c) (node_at d) (parent_at K c) (parent_at K d) (letter_at K c) (letter_at K d) m i a n pos li
    (kept_node K c m i a n room) parents letters (written_node K c m i a n room) parent_new letter_new h
