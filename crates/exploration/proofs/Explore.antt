-- The exploration ends, and its verdict is right.
use Rattle.std.proofs.Common.{◌≡◌, ℕ, zero, suc, ◌+◌, ◌-◌, ◌*◌, ◌<◌, ◌≤◌, true, false, cond, ltb, ◌≢◌, List, [], ◌∷◌, ◌++◌, length, get_or, sym, refl, ap, ◌∙◌, subst, ⊎_elim, arith, length-append}
use native.Mathlib.Nat.{sub-zero}
use lib.ListN.{get_or-append}
use Rattle.std.proofs.lemmas.List.{get_or_push}
use Rattle.std.proofs.lemmas.Bool.{cond_both, ltb-true, ltb-false, or_cases, or_parts}
use Rattle.automaton.specs.Machines.{Outcome, dead, wrong, to}
use Rattle.exploration.specs.Stage.{Table, Stage, Extends}
use Rattle.exploration.specs.Links.{linked, Linked}
use Rattle.exploration.specs.Explore.{Entry, Task, Lawful, Place, Verdict, Turn, complete, overflow, on, stop, first, nodes, parents, letters_of_entries, view, holds, next, next_row, next_new, here, settle, turn, again, explore, begin, enough, Right, Explores}
use Rattle.exploration.proofs.Cover.{first_fault_here, whole}
use Rattle.exploration.proofs.Keep.{begins, goes_on_dead, goes_on_known, goes_on_new, row_ends, more_here, more_fewer}
use Rattle.exploration.proofs.Links.{appended}

module _ {N : Type 0} (X : Task N) (L : Lawful X) where
  found : (n : N) (t : List (Entry N)) → holds X n t ≡ true → (k : ℕ) × (k < length t) × (nodes X t k ≡ n)
  found n [] e = let z : ◌≡◌ {A = ℕ} 0 1 = cc in absurd (omega arith)
  found n (x ∷ t) e = ⊎_elim (λ f. (0, omega arith, L.tells_same x.node n f)) (λ f. later (found n t f)) (or_cases (X.same x.node n) (holds X n t) e)
    where
      later : (k : ℕ) × (k < length t) × (nodes X t k ≡ n) → (k : ℕ) × (k < length (x ∷ t)) × (nodes X (x ∷ t) k ≡ n)
      later g = (suc g.0, omega arith, g.2)

  absent : (n : N) (t : List (Entry N)) → holds X n t ≡ false → (k : ℕ) → k < length t → nodes X t k ≢ n
  absent n [] e k l = absurd (omega arith)
  absent n (x ∷ t) e zero l = L.tells_other x.node n (or_parts (X.same x.node n) (holds X n t) e).0
  absent n (x ∷ t) e (suc k) l = absent n t (or_parts (X.same x.node n) (holds X n t) e).1 k (omega arith)

  record Good (p : Place N) : Type 0 where
    stage : Stage X.letters X.machine (view X p.table) p.row p.column
    links : Linked (parents X p.table) (length p.table)
    room : length p.table ≤ X.capacity

  abbrev After : Turn N → Type 0
  After (on p) = Good p
  After (stop v) = Right X v

  module _ (p : Place N) (g : Good p) (lr : p.row < length p.table) (lc : p.column < X.letters) where
    module _ (n : N) (e : X.machine.step (nodes X p.table p.row) p.column ≡ to n) where
      when_known : holds X n p.table ≡ true → After (on (next X p))
      when_known h =
          let f = found n p.table h in
          record { stage = goes_on_known g.stage lr f.0 f.1 (e ∙ ap to (sym f.2)); links = g.links; room = g.room }

      when_new : holds X n p.table ≡ false → length p.table < X.capacity → After (on (next_new X p n))
      when_new h l = record { stage = subst (λ z. Stage X.letters X.machine (linked (nodes X t) (parents X t) (letters_of_entries X t) z) p.row (p.column + 1)) (sym one_more) stage; links = rw one_more more.1; room = rw one_more (omega arith) }
        where
          x : Entry N
          x = record { node = n; parent = p.row; letter = p.column }

          t : List (Entry N)
          t = p.table ++ (x ∷ [])

          one_more : length t ≡ length p.table + 1
          one_more = length-append p.table (x ∷ [])

          kept : (k : ℕ) → k < length p.table → get_or t k (first X) ≡ get_or p.table k (first X)
          kept k f = get_or-append p.table (x ∷ []) (first X) k f

          last : get_or t (length p.table) (first X) ≡ x
          last = get_or_push p.table x (first X) (length p.table) refl

          U : Table N
          U = linked (nodes X t) (parents X t) (letters_of_entries X t) (length p.table + 1)

          more : Extends (view X p.table) U n (here X p) × Linked (parents X t) (length p.table + 1)
          more = appended (nodes X p.table) (nodes X t) (parents X p.table) (parents X t) (letters_of_entries X p.table) (letters_of_entries X t) (length p.table) p.row p.column n
              g.stage.filled lr (λ k f. ap (λ y. y.node) (kept k f)) (λ k f. ap (λ y. y.parent) (sym (kept k f))) (λ k f. ap (λ y. y.letter) (sym (kept k f)))
              (ap (λ y. y.node) last) (ap (λ y. y.parent) last) (ap (λ y. y.letter) last) g.links

          stage : Stage X.letters X.machine U p.row (p.column + 1)
          stage = goes_on_new g.stage lr lc e (absent n p.table h) more.0

      when_full : holds X n p.table ≡ false → X.capacity ≤ length p.table → After (stop (overflow (here X p)))
      when_full h l = more_fewer l
          (more_here g.stage lr lc e (absent n p.table h))

    settled : (o : Outcome N) → X.machine.step (nodes X p.table p.row) p.column ≡ o → After (settle X p o)
    settled dead e = record { stage = goes_on_dead g.stage lr e; links = g.links; room = g.room }
    settled wrong e = (first_fault_here g.stage lr lc e, g.room)
    settled (to n) e = cond_both (holds X n p.table) (on (next X p)) (cond (ltb (length p.table) X.capacity) (on (next_new X p n)) (stop (overflow (here X p)))) After
        (when_known n e)
        (λ h. cond_both (ltb (length p.table) X.capacity) (on (next_new X p n)) (stop (overflow (here X p))) After
        (λ f. when_new n e h (ltb-true (length p.table) X.capacity f))
        (λ f. when_full n e h (ltb-false (length p.table) X.capacity f)))

  turned : (p : Place N) → Good p → After (turn X p)
  turned p g = cond_both (ltb p.row (length p.table)) (cond (ltb p.column X.letters) (settle X p o) (on (next_row X p))) (stop (complete p.table)) After
      (λ f. cond_both (ltb p.column X.letters) (settle X p o) (on (next_row X p)) After
      (λ h. settled p g (ltb-true p.row (length p.table) f) (ltb-true p.column X.letters h) o refl)
      (λ h. record { stage = row_ends g.stage (ltb-true p.row (length p.table) f) (ltb-false p.column X.letters h); links = g.links; room = g.room }))
      (λ f. (whole g.stage (ltb-false p.row (length p.table) f), g.room))
    where
      o : Outcome N
      o = X.machine.step (nodes X p.table p.row) p.column

  again_after : (f : Place N → Turn N) → ((q : Place N) → Good q → After (f q)) → (o : Turn N) → After o → After (again X f o)
  again_after f h (on q) a = h q a
  again_after f h (stop v) a = a

  explored : (fuel : ℕ) (p : Place N) → Good p → After (explore X fuel p)
  unfolding explore
  explored zero p g = g
  explored (suc fuel) p g = again_after (explore X fuel) (explored fuel) (turn X p) (turned p g)

  good_begin : Good (begin X)
  good_begin = record { stage = begins X.letters X.machine (view X (first X ∷ [])) refl refl refl; links = λ k z l. absurd (omega arith); room = L.room }

  -- and it ends
  record Within (p : Place N) : Type 0 where
    in_table : p.row ≤ length p.table
    in_room : length p.table ≤ X.capacity
    in_letters : p.column ≤ X.letters

  left : Place N → ℕ
  left p = (X.capacity - p.row) * (X.letters + 1) + (X.letters - p.column)

  abbrev Falls : ℕ → Turn N → Type 0
  Falls n (on q) = Within q × (left q < n)
  Falls n (stop v) = Unit {0}

  abbrev Stops : Turn N → Type 0
  Stops (on q) = ⊥
  Stops (stop v) = Unit {0}

  falls_column : (p : Place N) → Within p → p.column < X.letters → (t : List (Entry N)) → length p.table ≤ length t → length t ≤ X.capacity → Falls (left p) (on (record { table = t; row = p.row; column = p.column + 1 }))
  unfolding left
  falls_column p w l t a b = (record { in_table = omega arith; in_room = b; in_letters = omega arith }, omega arith)

  falls_row : (p : Place N) → Within p → p.row < length p.table → Falls (left p) (on (next_row X p))
  unfolding left
  falls_row p w l = (
    record { in_table = omega arith; in_room = w.in_room; in_letters = omega arith },
    let e : X.capacity - p.row ≡ (X.capacity - (p.row + 1)) + 1 = omega arith in rw e (omega arith),
  )

  falls : (p : Place N) → Within p → Falls (left p) (turn X p)
  falls p w = cond_both (ltb p.row (length p.table)) (cond (ltb p.column X.letters) (settle X p o) (on (next_row X p))) (stop (complete p.table)) (Falls (left p))
      (λ f. cond_both (ltb p.column X.letters) (settle X p o) (on (next_row X p)) (Falls (left p))
      (λ h. settles (ltb-true p.column X.letters h) o)
      (λ h. falls_row p w (ltb-true p.row (length p.table) f)))
      (λ f. tt)
    where
      o : Outcome N
      o = X.machine.step (nodes X p.table p.row) p.column

      new : (n : N) → p.column < X.letters → length p.table < X.capacity → Falls (left p) (on (next_new X p n))
      new n l h =
          let x : Entry N = record { node = n; parent = p.row; letter = p.column } in
          let e : length (p.table ++ (x ∷ [])) ≡ length p.table + 1 = length-append p.table (x ∷ []) in
          falls_column p w l (p.table ++ (x ∷ [])) (omega arith) (omega arith)

      settles : p.column < X.letters → (o : Outcome N) → Falls (left p) (settle X p o)
      settles l dead = falls_column p w l p.table (omega arith) w.in_room
      settles l wrong = tt
      settles l (to n) = cond_both (holds X n p.table) (on (next X p)) (cond (ltb (length p.table) X.capacity) (on (next_new X p n)) (stop (overflow (here X p)))) (Falls (left p))
          (λ h. falls_column p w l p.table (omega arith) w.in_room)
          (λ h. cond_both (ltb (length p.table) X.capacity) (on (next_new X p n)) (stop (overflow (here X p))) (Falls (left p))
          (λ f. new n l (ltb-true (length p.table) X.capacity f))
          (λ f. tt))

  again_stops : (f : Place N → Turn N) (n m : ℕ) → n < m → ((q : Place N) → Within q → left q < n → Stops (f q)) → (o : Turn N) → Falls n o → Stops (again X f o)
  again_stops f n m l h (on q) a = h q a.0 a.1
  again_stops f n m l h (stop v) a = tt

  stops : (fuel : ℕ) (p : Place N) → Within p → left p < fuel → Stops (explore X fuel p)
  unfolding explore
  stops zero p w l = absurd (omega arith)
  stops (suc fuel) p w l = again_stops (explore X fuel) (left p) (suc fuel) l (λ q v h. stops fuel q v (omega arith)) (turn X p) (falls p w)

  concludes : (o : Turn N) → After o → Stops o → (v : Verdict N) × (o ≡ stop v) × Right X v
  concludes (on q) a s = absurd s
  concludes (stop v) a s = (v, refl, a)

  left_begin : left (begin X) ≡ X.capacity * (X.letters + 1) + X.letters
  unfolding left
  left_begin = simp sub-zero

  pub ends_right : (v : Verdict N) × (explore X (enough X) (begin X) ≡ stop v) × Right X v
  ends_right = concludes (explore X (enough X) (begin X)) (explored (enough X) (begin X) good_begin)
      (stops (enough X) (begin X) (record { in_table = omega arith; in_room = L.room; in_letters = omega arith }) (omega (arith, left_begin)))

pub explores : Explores
explores X L = ends_right X L
