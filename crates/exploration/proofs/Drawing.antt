-- A sheet that is read off a complete table is drawn; a table without room shows that so many states do not suffice.
use Rattle.std.proofs.Common.{◌≡◌, ℕ, zero, suc, ◌+◌, ◌-◌, ◌<◌, ◌≤◌, Bool, true, false, ◌⊎◌, ◌↔◌, List, [], ◌∷◌, reverse, length, Some, None, Option, sym, refl, ap, ◌∙◌, subst, inl, inr, ⊎_elim, arith}
use mathlib.Core.List.{reverse-reverse}
use lib.ListN.{length-reverse}
use Rattle.std.proofs.lemmas.Bool.{cases_order}
use Rattle.pattern.specs.Fits.{Fitting, fitting}
use Rattle.pattern.specs.Images.{Images, Lawful, FittingLawful, images_of}
use Rattle.pattern.specs.Rows.{Letters}
use Rattle.pattern.specs.Words.{Word, Precedes, ◌≺◌, ◌≼◌}
use Rattle.pattern.proofs.Laws.{lawful, fits}
use Rattle.pattern.proofs.Words.{by_texts}
use Rattle.automaton.specs.Automata.{Automaton, Right, onward, led, reach}
use Rattle.automaton.specs.Machines.{Outcome, dead, wrong, to, after, run}
use Rattle.automaton.specs.Judging.{Node, nowhere, grown}
use Rattle.automaton.specs.Tagged.{After, Goes, Tagged}
use Rattle.automaton.proofs.Automata.{some_inj, none_some, led_is_reached_lem, led_none, led_more}
use Rattle.automaton.proofs.Fitting.{nowhere_none, none_nowhere, somewhere_else, none_more}
use Rattle.automaton.proofs.Tagged.{tagged_right}
use Rattle.automaton.proofs.Wrong.{letters_turned, no_wrong_right, right_no_wrong}
use Rattle.exploration.specs.Stage.{Table, Found}
use Rattle.exploration.specs.Verdicts.{AllFound, More}
use Rattle.exploration.specs.Drawing.{Drawn, drawn_to, drawing, Leads, ReadOff, DrawingIsRight, DrawnSheetsHold}
use Rattle.exploration.proofs.Cover.{to_inj}
use Rattle.exploration.proofs.Counting.{pigeons}
use Rattle.exploration.proofs.Drawn.{single, listed, listed_length, all_listed}

dead_to : {n : Node} → ◌≡◌ {A = Outcome Node} dead (to n) → ⊥
dead_to h = let z : ◌≡◌ {A = ℕ} 0 1 = cc in omega arith

pair_fits : (x y : ℕ × ℕ) → ◌≡◌ {A = Node} (0, x.0, x.1) (0, y.0, y.1) → x ≡ y
pair_fits x y e = λ i. ((e i).1, (e i).2)

-- the drawing machine keeps the fits of a text
module _ (K : ℕ) (images : Images) (laws : Lawful images) (f : Fitting) (ok : FittingLawful K images f) where
  drawn_at : (x : ℕ × ℕ) → nowhere x ≡ false → drawn_to x ≡ to (0, x.0, x.1)
  drawn_at x h = rw h

  drawn_none : (x : ℕ × ℕ) → nowhere x ≡ true → drawn_to x ≡ dead
  drawn_none x h = rw h

  grown_more : (x : ℕ × ℕ) (a : ℕ) → nowhere x ≡ false → grown f (x.0, x.1) a ≡ f.extend x a
  grown_more x a h = rw h

  pub draw_run : (t : List ℕ) → Letters K t → 0 < length t → run (drawing f) t ≡ drawn_to (f.fits_of t)
  unfolding drawing
  draw_run [] l some = absurd (omega arith)
  draw_run (a ∷ []) l some = ap drawn_to (sym (ok.one a l.0))
  draw_run (a ∷ (b ∷ t)) l some = go (nowhere (f.fits_of (b ∷ t))) refl (draw_run (b ∷ t) l.1 (omega arith))
    where
      go : (c : Bool) → nowhere (f.fits_of (b ∷ t)) ≡ c → run (drawing f) (b ∷ t) ≡ drawn_to (f.fits_of (b ∷ t)) → after (drawing f).step (run (drawing f) (b ∷ t)) a ≡ drawn_to (f.fits_of (a ∷ (b ∷ t)))
      go true n e =
          let none : f.fits_of (a ∷ (b ∷ t)) ≡ (0, 0) = none_more K images laws f ok a (b ∷ t) (omega arith) (nowhere_none (f.fits_of (b ∷ t)) n) in
          ap (λ (o : Outcome Node). after (drawing f).step o a) (e ∙ drawn_none (f.fits_of (b ∷ t)) n) ∙ sym (drawn_none (f.fits_of (a ∷ (b ∷ t))) (none_nowhere (f.fits_of (a ∷ (b ∷ t))) none))
      go false n e =
          ap (λ (o : Outcome Node). after (drawing f).step o a) (e ∙ drawn_at (f.fits_of (b ∷ t)) n)
          ∙ ap drawn_to (grown_more (f.fits_of (b ∷ t)) a n ∙ sym (ok.more a (b ∷ t) l.0 (omega arith)))

  -- a text of some letters that leads to a node: the node has its fits, and these are somewhere
  pub run_fits : (t : List ℕ) (n : Node) → Letters K t → 0 < length t → run (drawing f) t ≡ to n → (n ≡ (0, (f.fits_of t).0, (f.fits_of t).1)) × (nowhere (f.fits_of t) ≡ false)
  run_fits t n l some e = go (nowhere (f.fits_of t)) refl
    where
      go : (c : Bool) → nowhere (f.fits_of t) ≡ c → (n ≡ (0, (f.fits_of t).0, (f.fits_of t).1)) × (nowhere (f.fits_of t) ≡ false)
      go true h = absurd (dead_to (sym (drawn_none (f.fits_of t) h) ∙ sym (draw_run t l some) ∙ e))
      go false h = (to_inj n (0, (f.fits_of t).0, (f.fits_of t).1) (sym e ∙ draw_run t l some ∙ drawn_at (f.fits_of t) h), h)

  -- ---- a sheet read off a complete table

  module _ (T : Table Node) (sheet : Automaton) (all : AllFound K (drawing f) T) (off : ReadOff K f T sheet) where
    -- the first entry is the empty text's
    first_entry : (0 < T.size) × (T.text 0 ≡ []) × (T.node 0 ≡ (0, 0, 0))
    unfolding drawing
    first_entry = go (all.every [] (0, 0, 0) tt refl)
      where
        empty : (u : List ℕ) → u ≼ [] → u ≡ []
        empty u (inl e) = e
        empty [] (inr h) = refl
        empty (a ∷ u) (inr h) = absurd h

        go : Found T (0, 0, 0) [] → (0 < T.size) × (T.text 0 ≡ []) × (T.node 0 ≡ (0, 0, 0))
        go (zero, less, e, h) = (less, empty (T.text 0) h, e)
        go (suc k, less, e, h) = absurd (before (T.text 0) (T.text (suc k)) (empty (T.text (suc k)) h) (all.rising 0 (suc k) (omega arith) less))
          where
            before : (u v : List ℕ) → v ≡ [] → u ≺ v → ⊥
            before u v e h = none u (subst (λ (z : List ℕ). u ≺ z) e h)
              where
                none : (u : List ℕ) → u ≺ [] → ⊥
                none [] h = h
                none (a ∷ u) h = h

    -- two entries with one node are one
    one_entry : (j k : ℕ) → j < T.size → k < T.size → T.node j ≡ T.node k → j ≡ k
    one_entry j k lj lk e = pick (cases_order j k)
      where
        pick : (j ≡ k) ⊎ ((j < k) ⊎ (k < j)) → j ≡ k
        pick (inl g) = g
        pick (inr (inl g)) = absurd (all.apart j k g lk e)
        pick (inr (inr g)) = absurd (all.apart k j g lj (sym e))

    -- what a text leads to in the sheet is the state of its node
    led_off : (t : List ℕ) → Letters K t → Leads T (run (drawing f) t) (led sheet t)
    unfolding drawing
    led_off [] l = (0, first_entry.0, first_entry.2, led_none sheet)
    led_off (a ∷ t) l = subst (Leads T (run (drawing f) (a ∷ t))) (sym (led_more sheet a t)) (go (run (drawing f) t) (led sheet t) (led_off t l.1))
      where
        go : (o : Outcome Node) (x : Option ℕ) → Leads T o x → Leads T (after (drawing f).step o a) (onward sheet x a)
        go dead x h = rw h
        go wrong x h = rw h
        go (to n) x (j, lj, e, h) = subst (λ (y : Option ℕ). Leads T ((drawing f).step n a) (onward sheet y a)) (sym h) (subst (λ (z : Node). Leads T ((drawing f).step z a) (sheet.arrow (suc j) a)) e (off.arrows j a lj l.0))

    record EntryOf (t : List ℕ) (q : ℕ) : Type 0 where
      k : ℕ
      is : q ≡ suc k
      less : k < T.size
      ran : run (drawing f) t ≡ to (T.node k)

    entry_of : (t : List ℕ) (q : ℕ) → Letters K t → led sheet t ≡ Some q → EntryOf t q
    entry_of t q l e = go (run (drawing f) t) refl (led_off t l)
      where
        go : (o : Outcome Node) → run (drawing f) t ≡ o → Leads T o (led sheet t) → EntryOf t q
        go dead r h = absurd (none_some (sym h ∙ e))
        go wrong r h = absurd (none_some (sym h ∙ e))
        go (to n) r (j, lj, g, h) = record { k = j; is = some_inj (sym e ∙ h); less = lj; ran = r ∙ ap to (sym g) }

    -- the entries after the first
    later_text : (k : ℕ) → 0 < k → k < T.size → 0 < length (T.text k)
    later_text k some less = go (T.text 0) (T.text k) (all.rising 0 k some less)
      where
        go : (u v : List ℕ) → u ≺ v → 0 < length v
        go [] [] h = absurd h
        go (a ∷ u) [] h = absurd h
        go u (b ∷ v) h = omega arith

    node_fits : (k : ℕ) → 0 < k → k < T.size → nowhere ((T.node k).1, (T.node k).2) ≡ false
    node_fits k some less =
        let r = run_fits (T.text k) (T.node k) (all.lettered k less) (later_text k some less) (all.reached k less) in
        ap (λ (n : Node). nowhere (n.1, n.2)) r.0 ∙ r.1

    tag : ℕ → ℕ × ℕ
    tag zero = (0, 0)
    tag (suc k) = ((T.node k).1, (T.node k).2)

    leads_goes : (x : ℕ × ℕ) (arrow : Option ℕ) → Leads T (drawn_to x) arrow → Goes (suc T.size) tag arrow x
    unfolding tag
    leads_goes x arrow h = go (nowhere x) refl
      where
        to_entry : nowhere x ≡ false → (j : ℕ) → j < T.size → T.node j ≡ (0, x.0, x.1) → Goes (suc T.size) tag (Some (suc j)) x
        to_entry n zero lj e = absurd (somewhere_else x n (pair_fits x (0, 0) (sym e ∙ first_entry.2)))
        to_entry n (suc j) lj e = ((omega arith, omega arith), (λ i. ((e i).1, (e i).2)), somewhere_else x n)

        go : (c : Bool) → nowhere x ≡ c → Goes (suc T.size) tag arrow x
        go true n =
            let g : arrow ≡ None = subst (λ (o : Outcome Node). Leads T o arrow) (drawn_none x n) h in
            subst (λ (y : Option ℕ). Goes (suc T.size) tag y x) (sym g) (nowhere_none x n)
        go false n =
            let g : Leads T (to (0, x.0, x.1)) arrow = subst (λ (o : Outcome Node). Leads T o arrow) (drawn_at x n) h in
            subst (λ (y : Option ℕ). Goes (suc T.size) tag y x) (sym g.3) (to_entry n g.0 g.1 g.2)

    tagged : Tagged K f sheet (suc T.size) tag
    unfolding tag drawing
    tagged =
        record {
          begins = λ a la. leads_goes (f.first a) (sheet.arrow 1 a) (subst (λ (n : Node). Leads T (drawn_to (grown f (n.1, n.2) a)) (sheet.arrow 1 a)) first_entry.2 (off.arrows 0 a first_entry.0 la));
          goes = goes;
          marked = marked;
          prefixed = prefixed;
        }
      where
        goes : (q a : ℕ) → After (suc T.size) q → a < K → Goes (suc T.size) tag (sheet.arrow q a) (f.extend (tag q) a)
        goes zero a h la = absurd (omega arith)
        goes (suc k) a h la = leads_goes (f.extend (tag (suc k)) a) (sheet.arrow (suc k) a) (subst (λ (x : ℕ × ℕ). Leads T (drawn_to x) (sheet.arrow (suc k) a)) (grown_more ((T.node k).1, (T.node k).2) a (node_fits k (omega arith) (omega arith))) (off.arrows k a (omega arith) la))

        marked : (q : ℕ) → After (suc T.size) q → sheet.marks q ≡ f.marks (tag q)
        marked zero h = absurd (omega arith)
        marked (suc k) h = off.marks k (omega arith) (omega arith)

        prefixed : (q : ℕ) → After (suc T.size) q → sheet.prefix q ≡ f.prefix (tag q)
        prefixed zero h = absurd (omega arith)
        prefixed (suc k) h = off.prefixes k (omega arith) (omega arith)

    -- the first words
    first_of : ℕ → Word
    first_of zero = []
    first_of (suc k) = reverse (T.text k)

    -- by words
    word_entry : (w : Word) (q : ℕ) → Letters K w → reach sheet w ≡ Some q → EntryOf (reverse w) q
    word_entry w q l e = entry_of (reverse w) q (letters_turned K w l) (led_is_reached_lem sheet w ∙ e)

    entry_fits : (w : Word) (q : ℕ) → Letters K w → 0 < length w → (x : EntryOf (reverse w) q) → (T.node x.k ≡ (0, (f.fits_of (reverse w)).0, (f.fits_of (reverse w)).1)) × (nowhere (f.fits_of (reverse w)) ≡ false)
    entry_fits w q l some x = run_fits (reverse w) (T.node x.k) (letters_turned K w l) (rw (length-reverse w) some) x.ran

    shared : (v w : Word) (q r : ℕ) → Letters K v → Letters K w → 0 < length v → 0 < length w → reach sheet v ≡ Some q → reach sheet w ≡ Some r → (q ≡ r) ↔ (f.fits_of (reverse v) ≡ f.fits_of (reverse w))
    shared v w q r lv lw sv sw a b =
        let x = word_entry v q lv a in
        let y = word_entry w r lw b in
        let fx = (entry_fits v q lv sv x).0 in
        let fy = (entry_fits w r lw sw y).0 in (
          λ e. let same : x.k ≡ y.k = omega (arith, x.is, y.is) in pair_fits (f.fits_of (reverse v)) (f.fits_of (reverse w)) (sym fx ∙ ap T.node same ∙ fy),
          λ e. let same : x.k ≡ y.k = one_entry x.k y.k x.less y.less (fx ∙ ap (λ (z : ℕ × ℕ). (0, z.0, z.1)) e ∙ sym fy) in x.is ∙ ap suc same ∙ sym y.is,
        )

    alone : (w : Word) → Letters K w → 0 < length w → reach sheet w ≡ Some 1 → ⊥
    alone w l some e =
        let x = word_entry w 1 l e in
        let g = entry_fits w 1 l some x in
        let zero_entry : x.k ≡ 0 = omega (arith, x.is) in
        somewhere_else (f.fits_of (reverse w)) g.1 (pair_fits (f.fits_of (reverse w)) (0, 0) (sym g.0 ∙ ap T.node zero_entry ∙ first_entry.2))

    reached : (q : ℕ) → 0 < q → q ≤ T.size → reach sheet (first_of q) ≡ Some q
    unfolding first_of
    reached zero some few = absurd (omega arith)
    reached (suc k) some few =
        let less : k < T.size = omega arith in
        let h : Leads T (to (T.node k)) (led sheet (T.text k)) = subst (λ (o : Outcome Node). Leads T o (led sheet (T.text k))) (all.reached k less) (led_off (T.text k) (all.lettered k less)) in
        sym (led_is_reached_lem sheet (reverse (T.text k))) ∙ ap (led sheet) (reverse-reverse (T.text k)) ∙ h.3 ∙ ap (λ (j : ℕ). Some (suc j)) (one_entry h.0 k h.1 less h.2)

    lettered : (q : ℕ) → 0 < q → q ≤ T.size → Letters K (first_of q)
    unfolding first_of
    lettered zero some few = absurd (omega arith)
    lettered (suc k) some few = letters_turned K (T.text k) (all.lettered k (omega arith))

    earliest : (q : ℕ) → 0 < q → q ≤ T.size → (w : Word) → Letters K w → reach sheet w ≡ Some q → (first_of q ≡ w) ⊎ Precedes (first_of q) w
    unfolding first_of
    earliest zero some few w l e = absurd (omega arith)
    earliest (suc k) some few w l e =
        let x = word_entry w (suc k) l e in
        let same : x.k ≡ k = omega (arith, x.is) in
        turned (all.least k (omega arith) (reverse w) (letters_turned K w l) (x.ran ∙ ap (λ (j : ℕ). to (T.node j)) same))
      where
        turned : T.text k ≼ reverse w → (reverse (T.text k) ≡ w) ⊎ Precedes (reverse (T.text k)) w
        turned (inl e) = inl (ap reverse e ∙ reverse-reverse w)
        turned (inr h) = inr ((by_texts (reverse (T.text k)) w).1 (rw (reverse-reverse (T.text k)) h))

    numbered : (q r : ℕ) → 0 < q → q < r → r ≤ T.size → Precedes (first_of q) (first_of r)
    unfolding first_of
    numbered zero r some less few = absurd (omega arith)
    numbered (suc k) zero some less few = absurd (omega arith)
    numbered (suc k) (suc j) some less few =
        (by_texts (reverse (T.text k)) (reverse (T.text j))).1 (rw (reverse-reverse (T.text k), reverse-reverse (T.text j)) (all.rising k j (omega arith) (omega arith)))

    pub read_off : Drawn K images f T.size sheet
    read_off =
        record {
          well = right_no_wrong K images sheet (tagged_right K images laws f ok sheet (suc T.size) tag tagged);
          bare = off.bare;
          shared = shared;
          alone = alone;
          ranged = λ w q l e. let x = word_entry w q l e in (omega (arith, x.is), omega (arith, x.is, x.less));
          first = first_of;
          lettered = lettered;
          reached = reached;
          earliest = earliest;
          numbered = numbered;
        }

  -- ---- more nodes than states

  module _ (states : ℕ) (sheet : Automaton) (drawn : Drawn K images f states sheet) where
    well_right : Right K images sheet
    well_right = no_wrong_right K images f ok sheet drawn.well

    -- a text that leads to a node leads to a state
    stands : (t : List ℕ) (n : Node) → Letters K t → run (drawing f) t ≡ to n → (q : ℕ) × (led sheet t ≡ Some q)
    stands [] n l e = (1, led_none sheet)
    stands (a ∷ t) n l e = well_right.reaches (a ∷ t) l (omega arith) ((ok.somewhere (a ∷ t) (omega arith)).1 (somewhere_else (f.fits_of (a ∷ t)) (run_fits (a ∷ t) n l (omega arith) e).1))

    word_of : (t : List ℕ) (q : ℕ) → led sheet t ≡ Some q → reach sheet (reverse t) ≡ Some q
    word_of t q e = sym (led_is_reached_lem sheet (reverse t)) ∙ ap (led sheet) (reverse-reverse t) ∙ e

    ranged : (t : List ℕ) (q : ℕ) → Letters K t → led sheet t ≡ Some q → (0 < q) × (q ≤ states)
    ranged t q l e = drawn.ranged (reverse t) q (letters_turned K t l) (word_of t q e)

    apart_from_empty : (a : ℕ) (t : List ℕ) → Letters K (a ∷ t) → led sheet (a ∷ t) ≡ Some 1 → ⊥
    apart_from_empty a t l e = drawn.alone (reverse (a ∷ t)) (letters_turned K (a ∷ t) l) (rw (length-reverse (a ∷ t)) (omega arith)) (word_of (a ∷ t) 1 e)

    -- one state, the same fits; and the same node
    same_fits : (u v : List ℕ) (q : ℕ) → Letters K u → Letters K v → 0 < length u → 0 < length v → led sheet u ≡ Some q → led sheet v ≡ Some q → f.fits_of u ≡ f.fits_of v
    same_fits u v q lu lv su sv c d =
        rw (reverse-reverse u, reverse-reverse v) at ((drawn.shared (reverse u) (reverse v) q q (letters_turned K u lu) (letters_turned K v lv) (rw (length-reverse u) su) (rw (length-reverse v) sv) (word_of u q c) (word_of v q d)).0 refl)

    same_node_lem : (u v : List ℕ) (n p : Node) (q : ℕ) → Letters K u → Letters K v → run (drawing f) u ≡ to n → run (drawing f) v ≡ to p → led sheet u ≡ Some q → led sheet v ≡ Some q → n ≡ p
    same_node_lem [] [] n p q lu lv a b c d = to_inj n p (sym a ∙ b)
    same_node_lem [] (y ∷ v) n p q lu lv a b c d = absurd (apart_from_empty y v lv (d ∙ sym c ∙ led_none sheet))
    same_node_lem (x ∷ u) [] n p q lu lv a b c d = absurd (apart_from_empty x u lu (c ∙ sym d ∙ led_none sheet))
    same_node_lem (x ∷ u) (y ∷ v) n p q lu lv a b c d = by_fits (x ∷ u) (y ∷ v) lu lv (omega arith) (omega arith) a b (same_fits (x ∷ u) (y ∷ v) q lu lv (omega arith) (omega arith) c d)
      where
        by_fits : (u v : List ℕ) → Letters K u → Letters K v → 0 < length u → 0 < length v → run (drawing f) u ≡ to n → run (drawing f) v ≡ to p → f.fits_of u ≡ f.fits_of v → n ≡ p
        by_fits u v lu lv su sv a b e = (run_fits u n lu su a).0 ∙ ap (λ (z : ℕ × ℕ). (0, z.0, z.1)) e ∙ sym (run_fits v p lv sv b).0

    number : Option ℕ → ℕ
    number None = 0
    number (Some q) = q - 1

    pub outgrown : (m : ℕ) (t : List ℕ) → More K (drawing f) m t → m < states
    unfolding number
    outgrown m t h = pigeons states m (λ k. number (led sheet (h.text k))) low apart
      where
        at : (k : ℕ) → k ≤ m → (q : ℕ) × (led sheet (h.text k) ≡ Some q)
        at k l = stands (h.text k) (h.node k) (h.lettered k l) (h.reached k l)

        numbered : (k : ℕ) (l : k ≤ m) → number (led sheet (h.text k)) + 1 ≡ (at k l).0
        numbered k l = rw (at k l).1 (omega (arith, ranged (h.text k) (at k l).0 (h.lettered k l) (at k l).1))

        low : (k : ℕ) → k ≤ m → number (led sheet (h.text k)) < states
        low k l = omega (arith, numbered k l, ranged (h.text k) (at k l).0 (h.lettered k l) (at k l).1)

        one_node : (j k : ℕ) → j ≤ m → k ≤ m → number (led sheet (h.text j)) ≡ number (led sheet (h.text k)) → h.node j ≡ h.node k
        one_node j k lj lk e =
            let same : (at k lk).0 ≡ (at j lj).0 = omega (arith, numbered j lj, numbered k lk) in
            same_node_lem (h.text j) (h.text k) (h.node j) (h.node k) (at j lj).0 (h.lettered j lj) (h.lettered k lk) (h.reached j lj) (h.reached k lk) (at j lj).1 ((at k lk).1 ∙ ap Some same)

        apart : (j k : ℕ) → j ≤ m → k ≤ m → number (led sheet (h.text j)) ≡ number (led sheet (h.text k)) → j ≡ k
        apart j k lj lk e = ⊎_elim (λ g. g) (⊎_elim (λ g. absurd (h.apart j k g lk (one_node j k lj lk e))) (λ g. absurd (h.apart k j g lj (sym (one_node j k lj lk e))))) (cases_order j k)

pub drawing_is_right_lem : DrawingIsRight
drawing_is_right_lem K plan well =
    record {
      single = λ m n left right l r. single K (images_of plan) (fitting plan) ok m n left right l r;
      complete = λ T sheet all off. read_off K (images_of plan) (lawful plan well.nonempty) (fitting plan) ok T sheet all off;
      overflow = λ most t h s. omega (arith, outgrown K (images_of plan) (lawful plan well.nonempty) (fitting plan) ok s.states s.sheet s.drawn most t h, s.few);
    }
  where
    ok : FittingLawful K (images_of plan) (fitting plan)
    ok = fits plan well K

pub drawn_sheets_hold_lem : DrawnSheetsHold
drawn_sheets_hold_lem K plan well states most sheet d few = record {
  pairs = listed K (images_of plan) (fitting plan) states sheet d states;
  few = rw (listed_length K (images_of plan) (fitting plan) states sheet d states) few;
  all = λ w x e. all_listed K (images_of plan) (fitting plan) states sheet d w x e.lettered;
}
