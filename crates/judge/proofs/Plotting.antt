-- States and arrows that are added to a table, and the sheet that it is in the end.
use Rattle.std.proofs.Common.{◌≡◌, ℕ, zero, suc, ◌+◌, ◌<◌, Bool, true, false, cond, ◌≢◌, ◌⊎◌, List, length, get_or, Ok, sym, refl, ap, ◌∙◌, subst, inl, inr, arith, length-set, below_more}
use Rattle.std.proofs.lemmas.List.{get_or_append_left, get_or_push, length_push, get_or-set_same, get_or-set_other, get_or-replicate, length-replicate}
use Rattle.std.proofs.lemmas.Bool.{cases_eq, le-leb, lt-ltb}
use Rattle.pattern.specs.Patterns.{shortest}
use Rattle.pattern.specs.Fits.{fitting}
use Rattle.exploration.specs.Stage.{Done}
use Rattle.exploration.specs.Links.{node_at, cells}
use Rattle.exploration.specs.Drawing.{drawing, Leads, ReadOff}
use Rattle.exploration.proofs.Drawing.{drawing_is_right_lem}
use Rattle.plan.specs.declared.Plan.{Plan}
use Rattle.plan.specs.Views.{letters_of, patterns_of}
use Rattle.plan.proofs.Soundness.{sound}
use Rattle.sheet.specs.declared.Sheet.{Sheet}
use Rattle.sheet.specs.declared.refusals.SheetRefusal.{SheetRefusal}
use Rattle.sheet.specs.Tables.{Entry, Table, blank, plain, single, grown, pointed, redirected, has_places, arrow_of, entry_at}
use Rattle.sheet.specs.Files.{ask}
use Rattle.sheet.specs.Views.{table_of, automaton_in, automaton_of}
use Rattle.judge.specs.Exploring.{Completes}
use Rattle.judge.specs.Plots.{fits_at, bare, state, Bare, Later, Plotted}
use Rattle.judge.specs.Drawings.{DrawnFor}

-- ---- states

asked : (b : Bool) (e : SheetRefusal) (s t : Table) → ask b e (Ok s) ≡ Ok t → s ≡ t
asked true e s t h = cc
asked false e s t h = cc

module _ (plan : Plan) (c : List ℕ) where
  pub bare_one : (b : Bool) (e : SheetRefusal) (K s : ℕ) (t : Table) → ask b e (Ok (single K s)) ≡ Ok t → K ≡ letters_of plan → s ≡ shortest (patterns_of plan) → Bare plan c 1 t
  bare_one b e K s t h k l =
      subst (Bare plan c 1) (asked b e (single K s) t h)
      (record { letters = k; shortest = l; size = refl; states = λ i less. only i less })
    where
      only : (i : ℕ) → i < 1 → state (single K s) i ≡ bare plan c i
      only zero less = ap (λ (n : ℕ). plain n 0 false) k
      only (suc i) less = absurd (omega arith)

  pub bare_more : (k : ℕ) (t u : Table) (m : ℕ) (p : Bool) → 0 < k → Bare plan c k t → m ≡ (fitting (patterns_of plan)).marks (fits_at c k) → p ≡ (fitting (patterns_of plan)).prefix (fits_at c k) → u ≡ grown t m p → Bare plan c (k + 1) u
  bare_more zero t u m p z h em ep e = absurd (omega arith)
  bare_more (suc k) t u m p z h em ep e =
      subst (Bare plan c (suc k + 1)) (sym e)
      (record {
        letters = h.letters;
        shortest = h.shortest;
        size = length_push t.states (plain t.letters m p) ∙ omega (arith, h.size);
        states =
            below_more (λ i. state (grown t m p) i ≡ bare plan c i) (suc k)
            (λ i less. get_or_append_left t.states _ blank i (omega (arith, h.size)) ∙ h.states i less)
            (get_or_push t.states (plain t.letters m p) blank (suc k) h.size ∙ (λ i. plain (h.letters i) (em i) (ep i)));
      })

  -- ---- arrows

  -- u is t with one arrow, of entry i by the letter a, that leads to the state x or, where x is 0, nowhere
  record Redrawn (count i a x : ℕ) (t u : Table) : Type 0 where
    letters : u.letters ≡ t.letters
    shortest : u.shortest ≡ t.shortest
    size : length u.states ≡ length t.states
    marks : (k : ℕ) → (state u k).marks ≡ (state t k).marks
    prefixes : (k : ℕ) → (state u k).prefix ≡ (state t k).prefix
    wide : (k : ℕ) → length (state u k).arrows ≡ length (state t k).arrows
    here : get_or (state u i).arrows a 0 ≡ x
    same_row : (b : ℕ) → b ≢ a → get_or (state u i).arrows b 0 ≡ get_or (state t i).arrows b 0
    other_rows : (k : ℕ) → k ≢ i → state u k ≡ state t k

  abbrev Goes : ℕ → ℕ → ℕ → ℕ → Type 0
  Goes count k b x = Leads (cells (letters_of plan) c count) ((drawing (fitting (patterns_of plan))).step (node_at c k) b) (arrow_of x)

  plot : (count i a x : ℕ) (t u : Table) → Plotted plan c count i a t → Redrawn count i a x t u → Goes count i a x → Plotted plan c count i (a + 1) u
  plot count i a x t u h r g =
      record {
        letters = r.letters ∙ h.letters;
        shortest = r.shortest ∙ h.shortest;
        size = r.size ∙ h.size;
        marks = λ k l. r.marks k ∙ h.marks k l;
        prefixes = λ k l. r.prefixes k ∙ h.prefixes k l;
        wide = λ k l. r.wide k ∙ h.wide k l;
        done = done;
        later = later;
      }
    where
      kept : (k b : ℕ) → k ≢ i → get_or (state u k).arrows b 0 ≡ get_or (state t k).arrows b 0
      kept k b ne = ap (λ (e : Entry). get_or e.arrows b 0) (r.other_rows k ne)

      row : (b : ℕ) → i < count → b < letters_of plan → b < a + 1 → (b ≡ a) ⊎ (b ≡ a → ⊥) → Goes count i b (get_or (state u i).arrows b 0)
      row b l m less (inl e) = subst (λ (z : ℕ). Goes count i z (get_or (state u i).arrows z 0)) (sym e) (subst (Goes count i a) (sym r.here) g)
      row b l m less (inr ne) = subst (Goes count i b) (sym (r.same_row b ne)) (h.done i b l m (inr (refl, omega arith)))

      done : (k b : ℕ) → k < count → b < letters_of plan → Done i (a + 1) k b → Goes count k b (get_or (state u k).arrows b 0)
      done k b l m (inl less) = subst (Goes count k b) (sym (kept k b (omega arith))) (h.done k b l m (inl less))
      done k b l m (inr d) = subst (λ (z : ℕ). Goes count z b (get_or (state u z).arrows b 0)) (sym d.0) (row b (subst (λ (z : ℕ). z < count) d.0 l) m d.1 (cases_eq b a))

      later : (k b : ℕ) → k < count → b < letters_of plan → Later i (a + 1) k b → get_or (state u k).arrows b 0 ≡ 0
      later k b l m (inl less) = kept k b (omega arith) ∙ h.later k b l m (inl less)
      later k b l m (inr d) = subst (λ (z : ℕ). get_or (state u z).arrows b 0 ≡ 0) (sym d.0) (r.same_row b (omega (arith, d.1)) ∙ h.later i b (subst (λ (z : ℕ). z < count) d.0 l) m (inr (refl, omega (arith, d.1))))

  redrawn : (count i a x : ℕ) (t : Table) → i < length t.states → a < length (state t i).arrows → Redrawn count i a x t (redirected t (suc i) a x)
  redrawn count i a x t l m =
      record {
        letters = refl;
        shortest = refl;
        size = length-set t.states i (pointed (state t i) a x);
        marks = λ k. pick (λ (e : Entry). e.marks) refl k (cases_eq k i);
        prefixes = λ k. pick (λ (e : Entry). e.prefix) refl k (cases_eq k i);
        wide = λ k. pick (λ (e : Entry). length e.arrows) (length-set (state t i).arrows a x) k (cases_eq k i);
        here = ap (λ (e : Entry). get_or e.arrows a 0) there ∙ get_or-set_same (state t i).arrows a x 0 m;
        same_row = λ b ne. ap (λ (e : Entry). get_or e.arrows b 0) there ∙ get_or-set_other (state t i).arrows a b x 0 ne;
        other_rows = apart;
      }
    where
      u : Table
      u = redirected t (suc i) a x

      there : state (redirected t (suc i) a x) i ≡ pointed (state t i) a x
      there = get_or-set_same t.states i (pointed (state t i) a x) blank l

      apart : (k : ℕ) → k ≢ i → state (redirected t (suc i) a x) k ≡ state t k
      apart k ne = get_or-set_other t.states i k (pointed (state t i) a x) blank ne

      pick : {A : Type 0} (f : Entry → A) → f (pointed (state t i) a x) ≡ f (state t i) → (k : ℕ) → (k ≡ i) ⊎ (k ≡ i → ⊥) → f (state (redirected t (suc i) a x) k) ≡ f (state t k)
      pick f same k (inl e) = rw e (ap f there ∙ same)
      pick f same k (inr ne) = ap f (apart k ne)

  -- the letter leads to entry j
  plot_arrow : (count i a j : ℕ) (t u : Table) → Plotted plan c count i a t → i < count → a < letters_of plan → u ≡ redirected t (i + 1) a (j + 1) → Goes count i a (suc j) → Plotted plan c count i (a + 1) u
  plot_arrow count i a j t u h l m e g =
      let one : i + 1 ≡ suc i = omega arith in
      let two : j + 1 ≡ suc j = omega arith in
      subst (Plotted plan c count i (a + 1)) (sym (e ∙ (λ s. redirected t (one s) a (two s))))
      (plot count i a (suc j) t (redirected t (suc i) a (suc j)) h (redrawn count i a (suc j) t (omega (arith, h.size)) (omega (arith, h.wide i l))) g)

  -- the same by the answer of the code that sets it
  pub plot_set : (count i a j : ℕ) (t u : Table) (r : Bool) → Plotted plan c count i a t → i < count → a < letters_of plan → j < count
      → r ≡ has_places t (i + 1) a (j + 1) → u ≡ cond r (redirected t (i + 1) a (j + 1)) t → Goes count i a (suc j) → Plotted plan c count i (a + 1) u
  plot_set count i a j t u r h l m less e held g =
      let from_low = le-leb 1 (i + 1) (omega arith) in
      let from_high = le-leb (i + 1) (length t.states) (omega (arith, h.size)) in
      let to_low = le-leb 1 (j + 1) (omega arith) in
      let to_high = le-leb (j + 1) (length t.states) (omega (arith, h.size)) in
      let letter_in_lem = lt-ltb a t.letters (omega (arith, h.letters)) in
      let yes : has_places t (i + 1) a (j + 1) ≡ true = rw (from_low, from_high, to_low, to_high, letter_in_lem) in
      plot_arrow count i a j t u h l m (held ∙ ap (λ (b : Bool). cond b (redirected t (i + 1) a (j + 1)) t) (e ∙ yes)) g

  -- ---- the beginning, the end of a row, and the end of all

  pub plot_begin : (count : ℕ) (t : Table) → Bare plan c count t → Plotted plan c count 0 0 t
  plot_begin count t h =
      record {
        letters = h.letters;
        shortest = h.shortest;
        size = h.size;
        marks = λ k l. ap (λ (e : Entry). e.marks) (h.states k l);
        prefixes = λ k l. ap (λ (e : Entry). e.prefix) (h.states k l);
        wide = λ k l. ap (λ (e : Entry). length e.arrows) (h.states k l) ∙ wide k;
        done = λ k b l m d. absurd (never k b d);
        later = λ k b l m d. ap (λ (e : Entry). get_or e.arrows b 0) (h.states k l) ∙ none k b m;
      }
    where
      wide : (k : ℕ) → length (bare plan c k).arrows ≡ letters_of plan
      wide zero = length-replicate (letters_of plan) 0
      wide (suc k) = length-replicate (letters_of plan) 0

      none : (k b : ℕ) → b < letters_of plan → get_or (bare plan c k).arrows b 0 ≡ 0
      none zero b m = get_or-replicate (letters_of plan) b 0 0 m
      none (suc k) b m = get_or-replicate (letters_of plan) b 0 0 m

      never : (k b : ℕ) → Done 0 0 k b → ⊥
      never k b (inl less) = omega arith
      never k b (inr d) = omega (arith, d.1)

  read_off : (count : ℕ) (t : Table) → Plotted plan c count count 0 t → 0 < count → ReadOff (letters_of plan) (fitting (patterns_of plan)) (cells (letters_of plan) c count) (automaton_in t)
  unfolding entry_at
  read_off count t h some =
      record {
        arrows = λ k a l m. h.done k a l m (inl l);
        bare = (h.marks 0 some, h.prefixes 0 some);
        marks = marked;
        prefixes = prefixed;
      }
    where
      marked : (k : ℕ) → 0 < k → k < count → (state t k).marks ≡ (fitting (patterns_of plan)).marks (fits_at c k)
      marked zero z l = absurd (omega arith)
      marked (suc k) z l = h.marks (suc k) l

      prefixed : (k : ℕ) → 0 < k → k < count → (state t k).prefix ≡ (fitting (patterns_of plan)).prefix (fits_at c k)
      prefixed zero z l = absurd (omega arith)
      prefixed (suc k) z l = h.prefixes (suc k) l

  pub drawn_for : (count : ℕ) (sheet : Sheet) → Completes (letters_of plan) (drawing (fitting (patterns_of plan))) c count → 0 < count → Plotted plan c count count 0 (table_of sheet) → DrawnFor plan sheet
  drawn_for count sheet all some h =
      record {
        letters = h.letters;
        shortest = h.shortest;
        drawn = rw h.size ((drawing_is_right_lem (letters_of plan) (patterns_of plan) (sound plan).well).complete (cells (letters_of plan) c count) (automaton_of sheet) all.all (read_off count (table_of sheet) h some));
      }
