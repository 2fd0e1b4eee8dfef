-- A complete table of the drawing machine draws a sheet: each letter leads to an entry, and the states suffice.
use Rattle.std.proofs.Common.{◌≡◌, ℕ, zero, suc, ◌<◌, ◌≤◌, Bool, true, false, ◌⊎◌, List, [], ◌∷◌, length, Some, None, Ok, Err, Option, Result, sym, refl, ◌∙◌, subst, inl, inr, arith}
use Rattle.std.proofs.lemmas.Bool.{cases_lt}
use Rattle.std.specs.Result.{is_ok}
use Rattle.pattern.specs.Fits.{Fitting, fitting}
use Rattle.automaton.specs.Automata.{Automaton}
use Rattle.automaton.specs.Machines.{Outcome, dead, wrong, to, run}
use Rattle.automaton.specs.Judging.{Node, nowhere, grown}
use Rattle.exploration.specs.Stage.{Table, Found}
use Rattle.exploration.specs.Verdicts.{AllFound}
use Rattle.exploration.specs.Links.{cells}
use Rattle.exploration.specs.Drawing.{drawing, drawn_to, Leads, ReadOff}
use Rattle.exploration.proofs.Cover.{step_at, before_wrong}
use Rattle.exploration.proofs.Drawing.{drawing_is_right_lem}
use Rattle.plan.specs.declared.Plan.{Plan}
use Rattle.plan.specs.Views.{letters_of, patterns_of}
use Rattle.plan.proofs.Soundness.{sound}
use Rattle.judge.specs.Memory.{groups_in}
use Rattle.judge.specs.Exploring.{Completes, Fails, Overflows, Explored}
use Rattle.judge.specs.declared.explore.Stop.{Stop}
use Rattle.judge.specs.declared.explore.Stop.TheVariants.{Faulty, Full}
use Rattle.judge.specs.Tables.{Finds}
use Rattle.judge.specs.Tables.{words_in}
use Rattle.judge.specs.Plots.{arrow_to, Complete}
use Rattle.judge.specs.declared.drawing.Plot.{Plot}
use Rattle.judge.proofs.Groups.{length_words}
use Rattle.sheet.specs.declared.Sheet.{Sheet}
use Rattle.judge.specs.Refusals.{DrawError}
use Rattle.judge.specs.Drawings.{StatesSuffice, DrawnFor, DrawnWith, MadeUnlessMemory}

-- no letter is a fault
faultless : (f : Fitting) (n : Node) (a : ℕ) → (drawing f).step n a ≡ wrong → ⊥
unfolding drawing
faultless f n a h = go (grown f (n.1, n.2) a) (nowhere (grown f (n.1, n.2) a)) refl h
  where
    go : (x : ℕ × ℕ) (b : Bool) → nowhere x ≡ b → drawn_to x ≡ wrong → ⊥
    go x true e h = let z = rw e at h in cc
    go x false e h = let z = rw e at h in cc

pub never_fails : (f : Fitting) {K : ℕ} {c : List ℕ} {i a : ℕ} → Fails K (drawing f) c i a → ⊥
never_fails f {K} {c} {i} {a} h =
    let m = before_wrong (drawing f).step _ a h.first.faulty in
    faultless f m.0 a m.2

-- an entry of a table that has the node, or none
abbrev pub FoundIn : Table Node → Node → Option ℕ → Type 0
FoundIn T n None = (k : ℕ) → k < T.size → T.node k ≡ n → ⊥
FoundIn T n (Some k) = (k < T.size) × (T.node k ≡ n)

pub found_in : (K : ℕ) (c : List ℕ) (size : ℕ) (n : Node) (r : Option ℕ) → Finds c size n r → FoundIn (cells K c size) n r
found_in K c size n None h = h
found_in K c size n (Some k) h = h

-- the step of the code
pub drawn_dead : (f : Fitting) (n : Node) (a : ℕ) (x : ℕ × ℕ) → x ≡ grown f (n.1, n.2) a → true ≡ nowhere x → dead ≡ (drawing f).step n a
unfolding drawing
drawn_dead f n a x e h = subst (λ (y : ℕ × ℕ). dead ≡ drawn_to y) e (rw (sym h) refl)

pub drawn_to_lem : (f : Fitting) (n : Node) (a : ℕ) (x : ℕ × ℕ) → x ≡ grown f (n.1, n.2) a → false ≡ nowhere x → to (0, x.0, x.1) ≡ (drawing f).step n a
unfolding drawing
drawn_to_lem f n a x e h = subst (λ (y : ℕ × ℕ). to (0, x.0, x.1) ≡ drawn_to y) e (rw (sym h) refl)

-- a complete table has the entry of the empty word
pub some_entry : (K : ℕ) (f : Fitting) (c : List ℕ) (size : ℕ) → Completes K (drawing f) c size → 0 < size
some_entry K f c size h = let x = h.all.every [] (drawing f).start tt refl in omega (arith, x.1)

-- of a complete table with its plan: there is an entry, and no more are in use than there are
pub some : (p : Plot) → Complete p → 1 ≤ p.table.now.size
some p h = some_entry (letters_of p.plan.now) (fitting (patterns_of p.plan.now)) (words_in p.table.now) p.table.now.size h.all

pub room : (p : Plot) → Complete p → p.table.now.size ≤ length p.table.now.entries.now
room p h = omega (arith, h.all.room, length_words p.table.now.entries.now)

-- where a letter leads from an entry, an entry is found
module _ (K : ℕ) (f : Fitting) (T : Table Node) (all : AllFound K (drawing f) T) where
  leads : (k a : ℕ) (n : Node) → k < T.size → a < K → (drawing f).step (T.node k) a ≡ to n → Found T n (a ∷ T.text k)
  leads k a n l m e = all.every (a ∷ T.text k) n (m, all.lettered k l) (step_at (drawing f).step (run (drawing f) (T.text k)) (T.node k) a (all.reached k l) ∙ e)

  pub found_leads : (k a : ℕ) (n : Node) (r : Option ℕ) → k < T.size → a < K → (drawing f).step (T.node k) a ≡ to n → FoundIn T n r → Leads T ((drawing f).step (T.node k) a) (arrow_to r)
  found_leads k a n None l m e none = let x = leads k a n l m e in absurd (none x.0 x.1 x.2)
  found_leads k a n (Some j) l m e h = subst (λ (o : Outcome Node). Leads T o (Some (suc j))) (sym e) (j, h.0, h.1, refl)

  arrow_for : (k a : ℕ) → (x : Option ℕ) × (k < T.size → a < K → Leads T ((drawing f).step (T.node k) a) x)
  arrow_for k a = go ((drawing f).step (T.node k) a) refl
    where
      pick : (n : Node) → (drawing f).step (T.node k) a ≡ to n → (k < T.size) ⊎ (T.size ≤ k) → (a < K) ⊎ (K ≤ a) → (x : Option ℕ) × (k < T.size → a < K → Leads T (to n) x)
      pick n e (inl l) (inl m) = let x = leads k a n l m e in (Some (suc x.0), λ u v. (x.0, x.1, x.2, refl))
      pick n e (inl l) (inr g) = (None, λ u v. absurd (omega arith))
      pick n e (inr g) m = (None, λ u v. absurd (omega arith))

      go : (o : Outcome Node) → (drawing f).step (T.node k) a ≡ o → (x : Option ℕ) × (k < T.size → a < K → Leads T o x)
      go dead e = (None, λ u v. refl)
      go wrong e = (None, λ u v. refl)
      go (to n) e = pick n e (cases_lt k T.size) (cases_lt a K)

  arrows : ℕ → ℕ → Option ℕ
  arrows zero a = None
  arrows (suc k) a = (arrow_for k a).0

  marks : ℕ → ℕ
  marks zero = 0
  marks (suc zero) = 0
  marks (suc (suc k)) = f.marks ((T.node (suc k)).1, (T.node (suc k)).2)

  prefixes : ℕ → Bool
  prefixes zero = false
  prefixes (suc zero) = false
  prefixes (suc (suc k)) = f.prefix ((T.node (suc k)).1, (T.node (suc k)).2)

  abbrev read : Automaton
  read = record { arrow = arrows; marks = marks; prefix = prefixes }

  off : ReadOff K f T read
  unfolding marks prefixes arrows arrow_for
  off = record { arrows = λ k a l m. (arrow_for k a).1 l m; bare = (refl, refl); marks = marked; prefixes = prefixed }
    where
      marked : (k : ℕ) → 0 < k → k < T.size → marks (suc k) ≡ f.marks ((T.node k).1, (T.node k).2)
      marked zero z l = absurd (omega arith)
      marked (suc k) z l = refl

      prefixed : (k : ℕ) → 0 < k → k < T.size → prefixes (suc k) ≡ f.prefix ((T.node k).1, (T.node k).2)
      prefixed zero z l = absurd (omega arith)
      prefixed (suc k) z l = refl

module _ (plan : Plan) {K : ℕ} {c : List ℕ} where
  pub over : Overflows K (drawing (fitting (patterns_of plan))) c → K ≡ letters_of plan → groups_in c ≡ 255 → StatesSuffice plan → ⊥
  over h e n =
      let o = subst (λ (k : ℕ). Overflows k (drawing (fitting (patterns_of plan))) c) e h in
      rw (← n) ((drawing_is_right_lem (letters_of plan) (patterns_of plan) (sound plan).well).overflow (groups_in c) o.text o.more)

  pub suffice : {size : ℕ} → Completes K (drawing (fitting (patterns_of plan))) c size → K ≡ letters_of plan → size ≤ 255 → StatesSuffice plan
  suffice {size} h e few =
      let all = (subst (λ (k : ℕ). Completes k (drawing (fitting (patterns_of plan))) c size) e h).all in
      let T = cells (letters_of plan) c size in
      record {
        states = size;
        sheet = read (letters_of plan) (fitting (patterns_of plan)) T all;
        drawn = (drawing_is_right_lem (letters_of plan) (patterns_of plan) (sound plan).well).complete T _ all (off (letters_of plan) (fitting (patterns_of plan)) T all);
        few = few;
      }

-- where the exploration stops, it is for want of states
pub stopped : (plan : Plan) (K : ℕ) (c : List ℕ) (size : ℕ) (r : Result (Unit {0}) Stop) → Explored K (drawing (fitting (patterns_of plan))) c size r → is_ok r ≡ false → K ≡ letters_of plan → groups_in c ≡ 255 → StatesSuffice plan → ⊥
stopped plan K c size (Ok _) h f e n = cc
stopped plan K c size (Err (Faulty i a)) h f e n = absurd (never_fails (fitting (patterns_of plan)) h)
stopped plan K c size (Err Full) h f e n = over plan h e n

-- where want of memory is the only error
pub made : (plan : Plan) (r : Result Sheet DrawError) → MadeUnlessMemory (DrawnFor plan) r → StatesSuffice plan → DrawnWith plan r
made plan (Ok sheet) h s = h
made plan (Err e) h s = rw h s
