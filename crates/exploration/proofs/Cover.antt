-- What a stage says of all texts before it.
use Rattle.std.proofs.Common.{◌≡◌, ℕ, ◌<◌, ◌≤◌, ◌≢◌, ◌⊎◌, List, [], ◌∷◌, sym, refl, ap, ◌∙◌, inl, inr, ⊎_elim, eq-or-lt_of_le, arith}
use Rattle.std.proofs.lemmas.Bool.{cases_order, cases_lt}
use Rattle.pattern.specs.Rows.{Letters}
use Rattle.pattern.specs.Words.{◌≺◌, ◌≼◌}
use Rattle.automaton.specs.Machines.{Outcome, dead, wrong, to, Machine, after, run}
use Rattle.exploration.specs.Stage.{Table, Found, Done, Stage}
use Rattle.exploration.specs.Verdicts.{AllFound, FirstFault}
use Rattle.pattern.proofs.Words.{irreflexive, transitive, total, longer, extend≼, ≼≺-trans, ≼_trans, asymmetric, not_before}

pub before_to : {N : Type 0} (s : N → ℕ → Outcome N) (o : Outcome N) (b : ℕ) (n : N) → after s o b ≡ to n → (m : N) × (o ≡ to m) × (s m b ≡ to n)
before_to s dead b n e = let z : ◌≡◌ {A = ℕ} 0 1 = cc in absurd (omega arith)
before_to s wrong b n e = let z : ◌≡◌ {A = ℕ} 0 1 = cc in absurd (omega arith)
before_to s (to m) b n e = (m, refl, e)

pub before_wrong : {N : Type 0} (s : N → ℕ → Outcome N) (o : Outcome N) (b : ℕ) → after s o b ≡ wrong → (m : N) × (o ≡ to m) × (s m b ≡ wrong)
before_wrong s dead b e = let z : ◌≡◌ {A = ℕ} 0 1 = cc in absurd (omega arith)
before_wrong s wrong b e = let z : ◌≡◌ {A = ℕ} 0 1 = cc in absurd (omega arith)
before_wrong s (to m) b e = (m, refl, e)

pub to_inj : {N : Type 0} (m n : N) → ◌≡◌ {A = Outcome N} (to m) (to n) → m ≡ n
to_inj m n e = cc

pub step_at : {N : Type 0} (s : N → ℕ → Outcome N) (o : Outcome N) (m : N) (b : ℕ) → o ≡ to m → after s o b ≡ s m b
step_at s o m b e = rw e

module _ {N : Type 0} {K : ℕ} {M : Machine N} {T : Table N} {i a : ℕ} (s : Stage K M T i a) where
  pub in_order : (j k : ℕ) → j ≤ k → k < T.size → T.text j ≼ T.text k
  in_order j k h l = ⊎_elim (λ e. inl (ap T.text e)) (λ f. inr (s.rising j k f l)) (eq-or-lt_of_le h)

  -- the order of two texts tells the order of their entries
  pub from_before : (j k : ℕ) → j < T.size → k < T.size → T.text j ≺ T.text k → j < k
  from_before j k lj lk h = ⊎_elim (λ f. f) (λ g. absurd (asymmetric (T.text j) (T.text k) h (in_order k j g lj))) (cases_lt j k)

  pub from_same : (j k : ℕ) → j < T.size → k < T.size → T.text j ≡ T.text k → j ≡ k
  from_same j k lj lk e = pick (cases_order j k)
    where
      pick : (j ≡ k) ⊎ ((j < k) ⊎ (k < j)) → j ≡ k
      pick (inl f) = f
      pick (inr (inl f)) = absurd (irreflexive (T.text k) (rw e at (s.rising j k f lk)))
      pick (inr (inr f)) = absurd (irreflexive (T.text k) (rw e at (s.rising k j f lj)))

  -- an extension of an entry's text that comes before this stage is done
  pub done_before : i < T.size → (k b : ℕ) → k < T.size → (b ∷ T.text k) ≺ (a ∷ T.text i) → Done i a k b
  done_before li k b lk (inl h) = inl (from_before k i lk li h)
  done_before li k b lk (inr h) = inr (from_same k i lk li h.0, h.1)

  -- of any set of texts that holds the rest of each of its texts, if all extensions of entries in it are done
  module _ (P : List ℕ → Type 0) (shorter : (b : ℕ) (u : List ℕ) → P (b ∷ u) → P u) (ready : (k b : ℕ) (u : List ℕ) → k < T.size → T.text k ≼ u → P (b ∷ u) → Done i a k b) where
    pub cover : (u : List ℕ) (n : N) → Letters K u → P u → run M u ≡ to n → Found T n u
    cover [] n sp p r = (0, s.filled, s.first_node ∙ to_inj M.start n r, inl s.first_text)
    cover (b ∷ u) n sp p r =
        let w : (m : N) × (run M u ≡ to m) × (M.step m b ≡ to n) = before_to M.step (run M u) b n r in
        let f : Found T w.0 u = cover u w.0 sp.1 (shorter b u p) w.1 in
        let g : Found T n (b ∷ T.text f.0) = s.known f.0 b f.1 sp.0 (ready f.0 b u f.1 f.3 p) n (ap (λ (x : N). M.step x b) f.2 ∙ w.2) in
        (g.0, g.1, g.2, ≼_trans (T.text g.0) (b ∷ T.text f.0) (b ∷ u) g.3 (extend≼ (T.text f.0) u b f.3))

    pub unfaulted : (u : List ℕ) → Letters K u → P u → run M u ≢ wrong
    unfaulted [] sp p r = let z : ◌≡◌ {A = ℕ} 0 1 = cc in omega arith
    unfaulted (b ∷ u) sp p r =
        let w : (m : N) × (run M u ≡ to m) × (M.step m b ≡ wrong) = before_wrong M.step (run M u) b r in
        let f : Found T w.0 u = cover u w.0 sp.1 (shorter b u p) w.1 in
        s.faultless f.0 b f.1 sp.0 (ready f.0 b u f.1 f.3 p) (ap (λ (x : N). M.step x b) f.2 ∙ w.2)

  module _ (li : i < T.size) where
    front : List ℕ → Type 0
    front u = u ≺ (a ∷ T.text i)

    front_shorter : (b : ℕ) (u : List ℕ) → front (b ∷ u) → front u
    unfolding front
    front_shorter b u h = transitive u (b ∷ u) (a ∷ T.text i) (longer u b) h

    front_ready : (k b : ℕ) (u : List ℕ) → k < T.size → T.text k ≼ u → front (b ∷ u) → Done i a k b
    unfolding front
    front_ready k b u lk e h = done_before li k b lk (≼≺-trans (b ∷ T.text k) (b ∷ u) (a ∷ T.text i) (extend≼ (T.text k) u b e) h)

    pub covered : (u : List ℕ) (n : N) → Letters K u → u ≺ (a ∷ T.text i) → run M u ≡ to n → Found T n u
    unfolding front
    covered = cover front front_shorter front_ready

    pub clear : (u : List ℕ) → Letters K u → u ≺ (a ∷ T.text i) → run M u ≢ wrong
    unfolding front
    clear = unfaulted front front_shorter front_ready

    pub next_run : run M (a ∷ T.text i) ≡ M.step (T.node i) a
    next_run = step_at M.step (run M (T.text i)) (T.node i) a (s.reached i li)

    pub first_fault : (u : List ℕ) → Letters K u → run M u ≡ wrong → (a ∷ T.text i) ≼ u
    first_fault u sp r = not_before u (a ∷ T.text i) (λ h. clear u sp h r)

  module _ (end : T.size ≤ i) where
    pub closed : (u : List ℕ) (n : N) → Letters K u → run M u ≡ to n → Found T n u
    closed u n sp r = cover (λ _. Unit {0}) (λ b v p. tt) (λ k b v lk e p. inl (omega arith)) u n sp tt r

    pub closed_clear : (u : List ℕ) → Letters K u → run M u ≢ wrong
    closed_clear u sp r = unfaulted (λ _. Unit {0}) (λ b v p. tt) (λ k b v lk e p. inl (omega arith)) u sp tt r

  -- two entries with one node are one
  pub from_node : (j k : ℕ) → j < T.size → k < T.size → T.node j ≡ T.node k → j ≡ k
  from_node j k lj lk e = pick (cases_order j k)
    where
      pick : (j ≡ k) ⊎ ((j < k) ⊎ (k < j)) → j ≡ k
      pick (inl f) = f
      pick (inr (inl f)) = absurd (s.apart j k f lk e)
      pick (inr (inr f)) = absurd (s.apart k j f lj (sym e))

  least_found : (k : ℕ) → k < T.size → (u : List ℕ) → Found T (T.node k) u → T.text k ≼ u
  least_found k lk u (t, lt, e, w) = rw (from_node t k lt lk e) at w

  pub least : (k : ℕ) → k < T.size → (u : List ℕ) → Letters K u → run M u ≡ to (T.node k) → T.text k ≼ u
  least k lk u sp r = ⊎_elim at_a_stage at_the_end (cases_lt i T.size)
    where
      late : i < T.size → (u ≡ (a ∷ T.text i)) ⊎ ((u ≺ (a ∷ T.text i)) ⊎ ((a ∷ T.text i) ≺ u)) → T.text k ≼ u
      late li (inl e) = inr (rw e (s.behind li k lk))
      late li (inr (inl h)) = least_found k lk u (covered li u (T.node k) sp h r)
      late li (inr (inr h)) = inr (transitive (T.text k) (a ∷ T.text i) u (s.behind li k lk) h)

      at_a_stage : i < T.size → T.text k ≼ u
      at_a_stage li = late li (total u (a ∷ T.text i))

      at_the_end : T.size ≤ i → T.text k ≼ u
      at_the_end end = least_found k lk u (closed end u (T.node k) sp r)

  -- the verdicts
  pub first_fault_here : i < T.size → a < K → M.step (T.node i) a ≡ wrong → FirstFault K M T (a ∷ T.text i)
  first_fault_here li la e = record { lettered = (la, s.lettered i li); faulty = next_run li ∙ e; first = first_fault li; every = covered li }

  pub whole : T.size ≤ i → AllFound K M T
  whole end = record { every = closed end; apart = s.apart; lettered = s.lettered; reached = s.reached; rising = s.rising; least = least; faultless = closed_clear end }
