-- What an exploration of the judging machine says of words.
use Rattle.std.proofs.Common.{◌≡◌, ℕ, zero, suc, ◌<◌, ◌≤◌, ◌≢◌, ◌⊎◌, ◌↔◌, List, [], ◌∷◌, reverse, length, Some, Option, sym, refl, ap, ◌∙◌, subst, inl, inr, arith}
use mathlib.Core.List.{reverse-reverse}
use lib.ListN.{length-reverse}
use Rattle.std.proofs.lemmas.Bool.{cases_eq}
use Rattle.pattern.specs.Fits.{Fitting, fitting}
use Rattle.pattern.specs.Images.{Any, here, there, Images, Lawful, FittingLawful, images_of}
use Rattle.pattern.specs.Rows.{Letters}
use Rattle.pattern.specs.Words.{Word, Precedes, ◌≺◌, ◌≼◌}
use Rattle.pattern.proofs.Laws.{lawful, fits, laws}
use Rattle.pattern.proofs.Words.{word_order as order, total, longer, ≼≺-trans, ≺≼-trans, ≼_trans, asymmetric, by_texts}
use Rattle.automaton.specs.Automata.{Automaton, led, reach}
use Rattle.automaton.specs.Wrong.{Wrong, NoWrong, WrongText}
use Rattle.automaton.specs.Machines.{Outcome, dead, wrong, to, run}
use Rattle.automaton.specs.Judging.{Node, judge, WrongEnd, Says, NodeOf}
use Rattle.automaton.proofs.Automata.{some_inj, none_some, led_is_reached_lem}
use Rattle.automaton.proofs.Wrong.{letters_turned, wrong_text, wrong_of}
use Rattle.automaton.proofs.Fitting.{somewhere_else}
use Rattle.automaton.proofs.Judging.{says}
use Rattle.exploration.specs.Stage.{Table, Found}
use Rattle.exploration.specs.Verdicts.{AllFound, FirstFault, More}
use Rattle.exploration.specs.Pairs.{with_fits, pair_of, ShowAtMost, Early, FirstWrong, VerdictsAreRight}
use Rattle.exploration.proofs.Counting.{outnumbers}

-- ---- the nodes of a table as a list

nodes : Table Node → ℕ → List Node
nodes T zero = []
nodes T (suc m) = T.node m ∷ nodes T m

nodes_length : (T : Table Node) (m : ℕ) → length (nodes T m) ≡ m
unfolding nodes
nodes_length T zero = refl
nodes_length T (suc m) = ap suc (nodes_length T m)

shown : (T : Table Node) (x : Node) (k m : ℕ) → k < m → T.node k ≡ x → Any (λ y. x ≡ y) (nodes T m)
unfolding nodes
shown T x k zero l e = absurd (omega arith)
shown T x k (suc m) l e = elim (cases_eq k m) [ inl z ↦ here (sym e ∙ ap T.node z) | inr ne ↦ there (shown T x k m (omega arith) e) ]

-- ---- words and texts in order

text_order : (w : Word) (t : List ℕ) → Precedes w (reverse t) → reverse w ≺ t
text_order w t h = rw (reverse-reverse t) at ((by_texts w (reverse t)).0 h)

turned_order : (t : List ℕ) (w : Word) → t ≺ reverse w → Precedes (reverse t) w
turned_order t w h = (by_texts (reverse t) w).1 (rw (reverse-reverse t) h)

-- ---- the pair of a word

pair_some : (f : Fitting) (sheet : Automaton) (w : Word) → 0 < length w → pair_of f sheet w ≡ with_fits (reach sheet w) (f.fits_of (reverse w))
pair_some f sheet [] some = absurd (omega arith)
pair_some f sheet (a ∷ w) some = refl

-- by its text
pair_text : (f : Fitting) (sheet : Automaton) (w : Word) → 0 < length w → pair_of f sheet w ≡ with_fits (led sheet (reverse w)) (f.fits_of (reverse w))
pair_text f sheet w some = rw (led_is_reached_lem sheet w) (pair_some f sheet w some)

module _ (K : ℕ) (images : Images) (lawful : Lawful images) (f : Fitting) (ok : FittingLawful K images f) (sheet : Automaton) where
  says_of : (t : List ℕ) → Letters K t → Says images f sheet t (run (judge f sheet) t)
  says_of = says K images lawful f ok sheet

  -- a text that leads to a node: the node is the pair of its word
  node_pair : (w : Word) (n : Node) → NodeOf images f sheet (reverse w) n → pair_of f sheet w ≡ Some n
  node_pair w n h = go (reverse w) refl h
    where
      go : (t : List ℕ) → reverse w ≡ t → NodeOf images f sheet t n → pair_of f sheet w ≡ Some n
      go [] e h = let z : w ≡ [] = sym (reverse-reverse w) ∙ ap reverse e in ap (pair_of f sheet) z ∙ ap Some (sym h)
      go (a ∷ t) e h =
          let some : 0 < length w = omega (arith, length-reverse w, ap length e) in
          let led_at : led sheet (reverse w) ≡ Some n.0 = ap (led sheet) e ∙ h.0 in
          let fits_at : f.fits_of (reverse w) ≡ (n.1, n.2) = ap f.fits_of e ∙ sym h.1 in
          pair_text f sheet w some ∙ rw (led_at, fits_at)

  run_node : (t : List ℕ) (n : Node) → Letters K t → run (judge f sheet) t ≡ to n → NodeOf images f sheet t n
  run_node t n l e = (subst (Says images f sheet t) e (says_of t l)).0

  run_pair : (t : List ℕ) (n : Node) → Letters K t → run (judge f sheet) t ≡ to n → pair_of f sheet (reverse t) ≡ Some n
  run_pair t n l e = node_pair (reverse t) n (rw (reverse-reverse t) (run_node t n l e))

  -- a text that leads to a node is not wrong
  run_well : (t : List ℕ) (n : Node) → Letters K t → run (judge f sheet) t ≡ to n → WrongText images sheet t → ⊥
  run_well t n l e w = go t (run_node t n l e) w
    where
      go : (t : List ℕ) → NodeOf images f sheet t n → WrongText images sheet t → ⊥
      go [] h w = omega (arith, w.0)
      go (a ∷ t) h w = h.3 w

  -- ---- wrong texts and faults

  record Fault (t : List ℕ) : Type 0 where
    at : List ℕ
    lettered : Letters K at
    faulty : run (judge f sheet) at ≡ wrong
    early : at ≼ t

  fault_longer : (a : ℕ) (t : List ℕ) → Fault t → Fault (a ∷ t)
  fault_longer a t h = record { at = h.at; lettered = h.lettered; faulty = h.faulty; early = inr (≼≺-trans h.at t (a ∷ t) h.early (longer t a)) }

  -- a wrong text, or one with a wrong end, has a fault at its end
  fault_at : (t : List ℕ) → Letters K t → WrongText images sheet t ⊎ WrongEnd images sheet t → Fault t
  fault_at [] l (inl w) = absurd (omega (arith, w.0))
  fault_at [] l (inr w) = absurd w
  fault_at (a ∷ t) l (inr w) = fault_longer a t (fault_at t l.1 w)
  fault_at (a ∷ t) l (inl w) = go (run (judge f sheet) (a ∷ t)) refl (says_of (a ∷ t) l) (fault_at t l.1)
    where
      go : (o : Outcome Node) → run (judge f sheet) (a ∷ t) ≡ o → Says images f sheet (a ∷ t) o → (WrongText images sheet t ⊎ WrongEnd images sheet t → Fault t) → Fault (a ∷ t)
      go dead e (inl x) rest = fault_longer a t (rest x)
      go dead e (inr x) rest = absurd (x.3 w)
      go wrong e x rest = record { at = a ∷ t; lettered = l; faulty = e; early = inl refl }
      go (to n) e x rest = absurd (run_well (a ∷ t) n l e w)

  wrong_fault : (v : Word) → Letters K v → Wrong images sheet v → Fault (reverse v)
  wrong_fault v l w = fault_at (reverse v) (letters_turned K v l) (inl (wrong_text images sheet v w))

  -- ---- early words

  -- an early word with a pair leads to it
  early_run : (w : Word) (x : Node) → Early K images sheet w → pair_of f sheet w ≡ Some x → run (judge f sheet) (reverse w) ≡ to x
  early_run w x h p = go (run (judge f sheet) (reverse w)) refl (says_of (reverse w) (letters_turned K w h.lettered))
    where
      lt : Letters K (reverse w)
      lt = letters_turned K w h.lettered

      -- no wrong word is at or before it
      none : (t : List ℕ) → Letters K t → WrongText images sheet t → t ≼ reverse w → ⊥
      none t l g e = asymmetric (reverse w) t (text_order w t (h.before (reverse t) (letters_turned K t l) (wrong_of images sheet t g))) e

      ends : (t : List ℕ) → Letters K t → t ≼ reverse w → WrongEnd images sheet t → ⊥
      ends [] l e g = g
      ends (a ∷ t) l e (inl g) = none t l.1 g (inr (≺≼-trans t (a ∷ t) (reverse w) (longer t a) e))
      ends (a ∷ t) l e (inr g) = ends t l.1 (inr (≺≼-trans t (a ∷ t) (reverse w) (longer t a) e)) g

      go : (o : Outcome Node) → run (judge f sheet) (reverse w) ≡ o → Says images f sheet (reverse w) o → run (judge f sheet) (reverse w) ≡ to x
      go dead e (inl g) = absurd (ends (reverse w) lt (inl refl) g)
      go dead e (inr g) = absurd (none_some (sym (sym p ∙ pair_text f sheet w (omega (arith, length-reverse w, g.2)) ∙ ap (λ (y : Option ℕ). with_fits y (f.fits_of (reverse w))) g.0)))
      go wrong e g = absurd (none (reverse w) lt g.0 (inl refl))
      go (to n) e g = e ∙ ap to (some_inj (sym (node_pair w n g.0) ∙ p))

  -- a text is early if every fault is later
  late_faults : (t : List ℕ) → Letters K t → ((v : List ℕ) → Letters K v → run (judge f sheet) v ≡ wrong → t ≺ v) → Early K images sheet (reverse t)
  late_faults t l h =
      record {
        lettered = letters_turned K t l;
        before = λ v lv w. let x = wrong_fault v lv w in turned_order t v (≺≼-trans t x.at (reverse v) (h x.at x.lettered x.faulty) x.early);
      }

  -- the words of texts that are found show no more pairs than there are entries
  found_few : (T : Table Node) → ((w : Word) (x : Node) → Early K images sheet w → run (judge f sheet) (reverse w) ≡ to x → Found T x (reverse w)) → (most : ℕ) → T.size ≤ most → ShowAtMost most f sheet (Early K images sheet)
  found_few T found most l =
      record {
        pairs = nodes T T.size;
        few = rw (nodes_length T T.size) l;
        all = λ w x h p. let r = found w x h (early_run w x h p) in shown T x r.0 T.size r.1 r.2;
      }

  -- different nodes of early texts are pairs
  pairs_many : (m most : ℕ) (node : ℕ → Node) (text : ℕ → List ℕ) → ((j k : ℕ) → j < k → k ≤ m → node j ≢ node k) → ((k : ℕ) → k ≤ m → Letters K (text k)) → ((k : ℕ) → k ≤ m → run (judge f sheet) (text k) ≡ to (node k))
      → ((k : ℕ) → k ≤ m → Early K images sheet (reverse (text k))) → ShowAtMost most f sheet (Early K images sheet) → m < most
  pairs_many m most node text apart lettered reached early shows =
      let long : m < length shows.pairs = outnumbers (1, 0, 0) m node apart shows.pairs (λ k l. shows.all (reverse (text k)) (node k) (early k l) (run_pair (text k) (node k) (lettered k l) (reached k l))) in
      omega (arith, shows.few)

  -- ---- the verdicts

  all_well : (T : Table Node) → AllFound K (judge f sheet) T → NoWrong K images sheet
  all_well T h w l g = let x = wrong_fault w l g in h.faultless x.at x.lettered x.faulty

  all_pairs : (T : Table Node) → AllFound K (judge f sheet) T → (most : ℕ) → ShowAtMost most f sheet (Early K images sheet) ↔ (T.size ≤ most)
  all_pairs T h most = (λ shows. at_most shows T.size refl, found_few T (λ w x e r. h.every (reverse w) x (letters_turned K w e.lettered) r) most)
    where
      at_most : ShowAtMost most f sheet (Early K images sheet) → (m : ℕ) → T.size ≡ m → T.size ≤ most
      at_most shows zero e = omega arith
      at_most shows (suc m) e =
          let more : m < most = pairs_many m most T.node T.text (λ j k a b. h.apart j k a (omega arith)) (λ k b. h.lettered k (omega arith)) (λ k b. h.reached k (omega arith)) (λ k b. late_faults (T.text k) (h.lettered k (omega arith)) (λ v lv g. absurd (h.faultless v lv g))) shows in
          omega arith

  first_wrong : (T : Table Node) (t : List ℕ) → FirstFault K (judge f sheet) T t → FirstWrong K images sheet (reverse t)
  first_wrong T t h =
      record {
        lettered = letters_turned K t h.lettered;
        wrong = wrong_of images sheet t (subst (Says images f sheet t) h.faulty (says_of t h.lettered)).0;
        first = λ v l w. let x = wrong_fault v l w in later v (≼_trans t x.at (reverse v) (h.first x.at x.lettered x.faulty) x.early);
      }
    where
      later : (v : Word) → t ≼ reverse v → (v ≡ reverse t) ⊎ Precedes (reverse t) v
      later v (inl e) = inl (sym (reverse-reverse v) ∙ ap reverse (sym e))
      later v (inr g) = inr (turned_order t v g)

  first_pairs : (T : Table Node) (t : List ℕ) → FirstFault K (judge f sheet) T t → (most : ℕ) → T.size ≤ most → ShowAtMost most f sheet (Early K images sheet)
  first_pairs T t h =
      let w₁ = first_wrong T t h in
      found_few T (λ w x e r. h.every (reverse w) x (letters_turned K w e.lettered) (text_order w t (e.before (reverse t) w₁.lettered w₁.wrong)) r)

  too_many : (most : ℕ) (t : List ℕ) → More K (judge f sheet) most t → ShowAtMost most f sheet (Early K images sheet) → ⊥
  too_many most t h shows =
      let more : most < most = pairs_many most most h.node h.text h.apart h.lettered h.reached early shows in
      omega arith
    where
      early : (k : ℕ) → k ≤ most → Early K images sheet (reverse (h.text k))
      early k l = late_faults (h.text k) (h.lettered k l) (λ v lv g. ≼≺-trans (h.text k) t v (h.early k l) (past v lv g))
        where
          past : (v : List ℕ) → Letters K v → run (judge f sheet) v ≡ wrong → t ≺ v
          past v lv g = elim (total t v) [ inl e ↦ absurd (h.faultless v lv (inl (sym e)) g) | inr c ↦ elim c [ inl b ↦ b | inr b ↦ absurd (h.faultless v lv (inr b) g) ] ]

  -- ---- which words are early

  all_early : NoWrong K images sheet → (w : Word) → Letters K w → Early K images sheet w
  all_early none w l = record { lettered = l; before = λ v lv g. absurd (none v lv g) }

  before_first : (v : Word) → FirstWrong K images sheet v → (w : Word) → Letters K w → Early K images sheet w ↔ Precedes w v
  before_first v h w l = (λ e. e.before v h.lettered h.wrong, λ p. record { lettered = l; before = λ u lu g. later p u (h.first u lu g) })
    where
      later : Precedes w v → (u : Word) → (u ≡ v) ⊎ Precedes v u → Precedes w u
      later p u (inl e) = subst (Precedes w) (sym e) p
      later p u (inr g) = order.transitive w v u p g

  apart_pair : (w : Word) → Early K images sheet w → 0 < length w → pair_of f sheet w ≡ Some (1, 0, 0) → ⊥
  apart_pair w h some e = go (reverse w) (rw (length-reverse w) some) (run_node (reverse w) (1, 0, 0) (letters_turned K w h.lettered) (early_run w (1, 0, 0) h e))
    where
      go : (t : List ℕ) → 0 < length t → NodeOf images f sheet t (1, 0, 0) → ⊥
      go [] some h = omega arith
      go (a ∷ t) some h = somewhere_else (0, 0) h.2 refl

  node_factor : (t : List ℕ) (n : Node) → 0 < length t → Letters K t → run (judge f sheet) t ≡ to n → images.Factor t
  node_factor t n some l e = go t some (run_node t n l e)
    where
      go : (t : List ℕ) → 0 < length t → NodeOf images f sheet t n → images.Factor t
      go [] some h = absurd (omega arith)
      go (a ∷ t) some h = (ok.somewhere (a ∷ t) some).1 (λ z. somewhere_else (n.1, n.2) h.2 (h.1 ∙ z))

pub verdicts_are_right_lem : VerdictsAreRight
verdicts_are_right_lem K plan well sheet =
    record {
      complete = λ T h. (all_well K images law f ok sheet T h, all_pairs K images law f ok sheet T h);
      fault = λ T t h. (first_wrong K images law f ok sheet T t h, first_pairs K images law f ok sheet T t h);
      overflow = too_many K images law f ok sheet;
      early = record { all = all_early K images law f ok sheet; before = before_first K images law f ok sheet; apart = apart_pair K images law f ok sheet };
      short = short;
    }
  where
    images : Images
    images = images_of plan

    law : Lawful (images_of plan)
    law = lawful plan well.nonempty

    f : Fitting
    f = fitting plan

    ok : FittingLawful K (images_of plan) (fitting plan)
    ok = fits plan well K

    short : (t : List ℕ) (n : Node) → Letters K t → run (judge (fitting plan) sheet) t ≡ to n → length t ≤ 64
    short [] n l e = omega arith
    short (a ∷ t) n l e = omega (arith, (laws plan).bounded (a ∷ t) (node_factor K (images_of plan) law (fitting plan) ok sheet (a ∷ t) n (omega arith) l e), (laws plan).longest_steps, well.few)
