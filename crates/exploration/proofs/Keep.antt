-- The invariant holds at the start, and each step keeps it.
use Rattle.std.proofs.Common.{◌≡◌, ℕ, ◌+◌, ◌<◌, ◌≤◌, cond, ltb, ◌≢◌, ◌⊎◌, List, [], ◌∷◌, sym, refl, ap, ◌∙◌, inl, inr, ⊎_elim, eq-or-lt_of_le, arith}
use Rattle.std.proofs.lemmas.Bool.{cond-true, cond-false, lt-ltb, le-ltb}
use Rattle.pattern.specs.Rows.{Letters}
use Rattle.pattern.specs.Words.{◌≺◌, ◌≼◌}
use Rattle.automaton.specs.Machines.{dead, wrong, to, Machine, run}
use Rattle.exploration.specs.Stage.{Table, Found, Absent, Done, Stage, Extends}
use Rattle.exploration.specs.Verdicts.{More}
use Rattle.pattern.proofs.Words.{transitive, extend_same}
use Rattle.exploration.proofs.Cover.{next_run, clear}

-- one letter more is done
pub done_more : (i a k b : ℕ) → Done i (a + 1) k b → Done i a k b ⊎ ((k ≡ i) × (b ≡ a))
done_more i a k b (inl h) = inl (inl h)
done_more i a k b (inr h) = ⊎_elim (λ e. inr (h.0, e)) (λ l. inl (inr (h.0, l))) (eq-or-lt_of_le (omega arith))

-- a whole row is done
pub done_row : (i a k b K : ℕ) → K ≤ a → b < K → Done (i + 1) 0 k b → Done i a k b
done_row i a k b K g l (inl h) = ⊎_elim (λ e. inr (e, omega arith)) (λ f. inl f) (eq-or-lt_of_le (omega arith))
done_row i a k b K g l (inr h) = absurd (omega arith)

module _ {N : Type 0} (K : ℕ) (M : Machine N) (T : Table N) where
  pub begins : T.size ≡ 1 → T.node 0 ≡ M.start → T.text 0 ≡ [] → Stage K M T 0 0
  begins z n w = record {
    filled = omega arith;
    first_node = n;
    first_text = w;
    apart = λ j k h l. absurd (omega arith);
    reached = λ k l. rw (text_at k l, node_at k l);
    lettered = λ k l. rw (text_at k l) tt;
    rising = λ j k h l. absurd (omega arith);
    behind = λ li k l. rw (text_at k l) tt;
    faultless = λ k b l lb d. absurd (none_done k b d);
    known = λ k b l lb d. absurd (none_done k b d);
  }
    where
      text_at : (k : ℕ) → k < T.size → T.text k ≡ []
      text_at k l = let e : k ≡ 0 = omega arith in ap T.text e ∙ w

      node_at : (k : ℕ) → k < T.size → T.node k ≡ M.start
      node_at k l = let e : k ≡ 0 = omega arith in ap T.node e ∙ n

      none_done : (k b : ℕ) → Done 0 0 k b → ⊥
      none_done k b d = omega arith

module _ {N : Type 0} {K : ℕ} {M : Machine N} {T : Table N} {i a : ℕ} (s : Stage K M T i a) (li : i < T.size) where
  -- the letter a of entry i is settled
  pub goes_on : M.step (T.node i) a ≢ wrong → ((n : N) → M.step (T.node i) a ≡ to n → Found T n (a ∷ T.text i)) → Stage K M T i (a + 1)
  goes_on sound found = record {
    filled = s.filled;
    first_node = s.first_node;
    first_text = s.first_text;
    apart = s.apart;
    reached = s.reached;
    lettered = s.lettered;
    rising = s.rising;
    behind = λ l k lk. transitive (T.text k) (a ∷ T.text i) ((a + 1) ∷ T.text i) (s.behind li k lk) (extend_same (T.text i) a (a + 1) (omega arith));
    faultless = λ k b lk lb d. ⊎_elim (s.faultless k b lk lb) (λ e. rw (e.0, e.1) sound) (done_more i a k b d);
    known = λ k b lk lb d. ⊎_elim (s.known k b lk lb) (λ e. rw (e.0, e.1) found) (done_more i a k b d);
  }

  pub goes_on_dead : M.step (T.node i) a ≡ dead → Stage K M T i (a + 1)
  goes_on_dead e = goes_on
      (λ f. let z : ◌≡◌ {A = ℕ} 0 1 = cc in omega arith)
      (λ n f. let z : ◌≡◌ {A = ℕ} 0 1 = cc in absurd (omega arith))

  pub goes_on_known : (t : ℕ) → t < T.size → M.step (T.node i) a ≡ to (T.node t) → Stage K M T i (a + 1)
  goes_on_known t lt e = goes_on
      (λ f. let z : ◌≡◌ {A = ℕ} 0 1 = cc in omega arith)
      (λ n f. (t, lt, (cc), inr (s.behind li t lt)))

  pub row_ends : K ≤ a → Stage K M T (i + 1) 0
  row_ends g = record {
    filled = s.filled;
    first_node = s.first_node;
    first_text = s.first_text;
    apart = s.apart;
    reached = s.reached;
    lettered = s.lettered;
    rising = s.rising;
    behind = λ l k lk. transitive (T.text k) (a ∷ T.text i) (0 ∷ T.text (i + 1)) (s.behind li k lk) (inl (s.rising i (i + 1) (omega arith) l));
    faultless = λ k b lk lb d. s.faultless k b lk lb (done_row i a k b K g lb d);
    known = λ k b lk lb d. s.known k b lk lb (done_row i a k b K g lb d);
  }

-- what holds of each entry and of the new one holds of each entry of the longer table
module _ {N : Type 0} {T U : Table N} {n : N} {w : List ℕ} (x : Extends T U n w) where
  pub each : (P : ℕ → N → List ℕ → Type 0) → ((k : ℕ) → k < T.size → P k (T.node k) (T.text k)) → P T.size n w → (k : ℕ) → k < U.size → P k (U.node k) (U.text k)
  each P old new k l = ⊎_elim at_end (λ f. rw (x.nodes_kept k f, x.texts_kept k f) (old k f)) (eq-or-lt_of_le le)
    where
      le : k ≤ T.size
      le = omega (arith, x.longer)

      at_end : k ≡ T.size → P k (U.node k) (U.text k)
      at_end e = rw (e, x.new_node, x.new_text) new

  pub found_still : (v : N) (u : List ℕ) → Found T v u → Found U v u
  found_still v u f = (f.0, omega (arith, x.longer, f.1), x.nodes_kept f.0 f.1 ∙ f.2, rw (x.texts_kept f.0 f.1) f.3)

module _ {N : Type 0} {K : ℕ} {M : Machine N} {T U : Table N} {i a : ℕ} {n : N} (s : Stage K M T i a) (li : i < T.size) (la : a < K) (e : M.step (T.node i) a ≡ to n) (no_entry : Absent T n) (x : Extends T U n (a ∷ T.text i)) where
  pub goes_on_new : Stage K M U i (a + 1)
  goes_on_new = record {
    filled = omega (arith, x.longer);
    first_node = x.nodes_kept 0 s.filled ∙ s.first_node;
    first_text = x.texts_kept 0 s.filled ∙ s.first_text;
    apart = λ j k h l. each x (λ k m v. j < k → U.node j ≢ m)
        (λ k f g. rw (x.nodes_kept j (omega arith)) (s.apart j k g f))
        (λ g. rw (x.nodes_kept j g) (no_entry j g)) k l h;
    reached = each x (λ k m v. run M v ≡ to m) s.reached (next_run s li ∙ e);
    lettered = each x (λ k m v. Letters K v) s.lettered (la, s.lettered i li);
    rising = λ j k h l. each x (λ k m v. j < k → U.text j ≺ v)
        (λ k f g. rw (x.texts_kept j (omega arith)) (s.rising j k g f))
        (λ g. rw (x.texts_kept j g) (s.behind li j g)) k l h;
    behind = λ l k lk. rw (x.texts_kept i li) (each x (λ k m v. v ≺ ((a + 1) ∷ T.text i))
        (λ k f. transitive (T.text k) w ((a + 1) ∷ T.text i) (s.behind li k f) later)
        later k lk);
    faultless = λ k b lk lb. each x (λ k m v. Done i (a + 1) k b → M.step m b ≢ wrong)
        (λ k f d. ⊎_elim (s.faultless k b f lb) (λ q. rw (q.0, q.1) sound) (done_more i a k b d))
        (λ d. absurd (omega arith)) k lk;
    known = λ k b lk lb. each x (λ k m v. Done i (a + 1) k b → (p : N) → M.step m b ≡ to p → Found U p (b ∷ v))
        (λ k f d. ⊎_elim (λ o p r. found_still x p (b ∷ T.text k) (s.known k b f lb o p r)) (λ q. rw (q.0, q.1) found) (done_more i a k b d))
        (λ d. absurd (omega arith)) k lk;
  }
    where
      w : List ℕ
      w = a ∷ T.text i

      later : w ≺ ((a + 1) ∷ T.text i)
      later = extend_same (T.text i) a (a + 1) (omega arith)

      sound : M.step (T.node i) a ≢ wrong
      sound f = let z : ◌≡◌ {A = ℕ} 0 1 = cc in omega arith

      found : (p : N) → M.step (T.node i) a ≡ to p → Found U p w
      found p r = (T.size, omega (arith, x.longer), x.new_node ∙ cc, inl x.new_text)

-- a table with one more entry
pub put : {N : Type 0} → Table N → N → List ℕ → Table N
put T n w = record { node = λ k. cond (ltb k T.size) (T.node k) n; text = λ k. cond (ltb k T.size) (T.text k) w; size = T.size + 1 }

pub put_extends : {N : Type 0} (T : Table N) (n : N) (w : List ℕ) → Extends T (put T n w) n w
unfolding put
put_extends T n w = record {
  longer = refl;
  nodes_kept = λ k l. cond-true (ltb k T.size) (T.node k) n (lt-ltb k T.size l);
  texts_kept = λ k l. cond-true (ltb k T.size) (T.text k) w (lt-ltb k T.size l);
  new_node = cond-false (ltb T.size T.size) (T.node T.size) n (le-ltb T.size T.size (omega arith));
  new_text = cond-false (ltb T.size T.size) (T.text T.size) w (le-ltb T.size T.size (omega arith));
}

module _ {N : Type 0} {K : ℕ} {M : Machine N} {T : Table N} {i a : ℕ} {n : N} (s : Stage K M T i a) (li : i < T.size) (la : a < K) (e : M.step (T.node i) a ≡ to n) (no_entry : Absent T n) where
  none_faulty : (u : List ℕ) → Letters K u → u ≼ (a ∷ T.text i) → run M u ≢ wrong
  none_faulty u sp (inr h) r = clear s li u sp h r
  none_faulty u sp (inl f) r =
      let g : run M (a ∷ T.text i) ≡ wrong = rw f at r in
      let h : M.step (T.node i) a ≡ wrong = sym (next_run s li) ∙ g in
      let z : ◌≡◌ {A = ℕ} 0 1 = cc in
      omega arith

  pub more_here : More K M T.size (a ∷ T.text i)
  more_here = record {
    node = U.node;
    text = U.text;
    apart = λ j k h l. t.apart j k h (omega (arith, x.longer));
    reached = λ k l. t.reached k (omega (arith, x.longer));
    lettered = λ k l. t.lettered k (omega (arith, x.longer));
    early = λ k l. each x (λ k m v. v ≼ w) (λ k f. inr (s.behind li k f)) (inl refl) k (omega (arith, x.longer));
    faultless = none_faulty;
  }
    where
      w : List ℕ
      w = a ∷ T.text i

      U : Table N
      U = put T n w

      x : Extends T U n w
      x = put_extends T n w

      t : Stage K M U i (a + 1)
      t = goes_on_new s li la e no_entry x

-- fewer are shown too
pub more_fewer : {N : Type 0} {K : ℕ} {M : Machine N} {m r : ℕ} {w : List ℕ} → r ≤ m → More K M m w → More K M r w
more_fewer {m} {r} h x = record {
  node = x.node;
  text = x.text;
  apart = λ j k f l. x.apart j k f (omega arith);
  lettered = λ k l. x.lettered k (omega arith);
  reached = λ k l. x.reached k (omega arith);
  early = λ k l. x.early k (omega arith);
  faultless = x.faultless;
}
