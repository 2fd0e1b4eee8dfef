-- The law gives the promise.
use Rattle.std.proofs.Common.{◌≡◌, ℕ, suc, ◌≤◌, Bool, true, false, ◌⊎◌, ◌↔◌, List, [], ◌∷◌, ◌++◌, length, take, Some, None, Ok, Err, vec_items, Option, Result, sym, refl, ap, ◌∙◌, subst, inl, inr, arith, length-append}
use Rattle.std.proofs.lemmas.List.{take_all}
use Rattle.std.proofs.lemmas.Option.{slice_get_past, slice_get_within, slice_get_cases, get_or_from_slice_get}
use Rattle.std.proofs.Math.Seq.{take-suc}
use Rattle.std.specs.List.{slice_get}
use Rattle.pattern.specs.Rows.{Hit as Place}
use Rattle.plan.specs.declared.Plan.{Plan}
use Rattle.plan.specs.Views.{letters_of}
use Rattle.sheet.specs.declared.Sheet.{Sheet}
use Rattle.judge.specs.declared.refusals.DrawRefusal.TheVariants.{Words, States}
use Rattle.judge.specs.Refusals.{DrawError}
use Rattle.sheet.specs.declared.refusals.Unmade.TheVariants.{Refused, NoMemory}
use Rattle.judge.specs.declared.refusals.JudgeRefusal.TheVariants.{Letters, Shortest, Room, Pairs, Word}
use Rattle.judge.specs.Judged.{Ready, PairsHeld, Faultless}
use Rattle.judge.specs.Drawings.{HasWords, StatesSuffice, DrawnFor, DrawAnswers, Draws}
use Rattle.reading.specs.declared.hits.Hit.{Hit}
use Rattle.reading.specs.declared.hits.Report.{Report as Account}
use Rattle.reading.specs.declared.refusals.AdmitRefusal.{AdmitRefusal}
use Rattle.reading.specs.declared.refusals.AdmitRefusal.TheVariants.{Alphabet}
use Rattle.reading.specs.declared.refusals.AdmitRefusal.TheVariants.{Sheet as AboutSheet}
use Rattle.reading.specs.declared.calls.Call.{Call}
use Rattle.reading.specs.declared.calls.Call.TheVariants.{Draw, Admit, Inspect, Begin, Next, Report, Close}
use Rattle.reading.specs.declared.calls.Answer.TheVariants.{Drawn, Judged, Cell, Begun, Found, Told, Closed, OutOfTurn}
use Rattle.reading.specs.Cells.{letters_in}
use Rattle.reading.specs.Hits.{place_of, placed, hits_in}
use Rattle.reading.specs.Admission.{Admitted}
use Rattle.reading.specs.Histories.{History, Buffer, searched, answers, Verdict, Follows, Accounts, DueInTurn, DueIf, Due, Kept}
use Rattle.reading.specs.Promise.{full_list, Admission, Promise, AfterEach}

-- ---- places of a list

take_nth : {X : Type 0} (xs : List X) (n : ℕ) (x : X) → slice_get xs n ≡ Some x → take (suc n) xs ≡ take n xs ++ x ∷ []
take_nth xs n x e = take-suc xs n x (slice_get_within xs n x e) ∙ ap (λ y. take n xs ++ y ∷ []) (get_or_from_slice_get xs n x x e)

nth_none : {X : Type 0} (xs : List X) (n : ℕ) → slice_get xs n ≡ None → length xs ≤ n
nth_none xs n e =
    elim (slice_get_cases xs n).1 [
      | inl within ↦ absurd (cc (within.2, e))
      | inr past ↦ past.0
    ]

module _ {D : Type 0} (K : ℕ) (row : List (Result ℕ D)) where
  -- ---- what is due, by the kind of the answer

  found_in_turn : (before : History D) (c : Call) (x : Option Hit) → DueInTurn K row before c (Found x) → Follows (searched K before) (letters_in row) (answers before) x
  found_in_turn before (Draw plan m) x d = absurd (cc d.is)
  found_in_turn before (Admit plan sheet m w) x d = absurd (cc d.is)
  found_in_turn before (Inspect i) x d = absurd cc
  found_in_turn before Begin x d = absurd cc
  found_in_turn before Next x d = subst (Follows (searched K before) (letters_in row) (answers before)) (let e : d.held ≡ x = cc d.is in e) d.due
  found_in_turn before Report x d = absurd (cc d.is)
  found_in_turn before Close x d = absurd cc

  found_due : (b : Bool) (before : History D) (c : Call) (x : Option Hit) → DueIf b K row before c (Found x) → Follows (searched K before) (letters_in row) (answers before) x
  found_due true before c x d = found_in_turn before c x d
  found_due false before c x d = absurd cc

  told_due : (b : Bool) (before : History D) (r : Account) → DueIf b K row before Report (Told r) → Accounts (searched K before) (letters_in row) (answers before) r
  told_due true before r d = subst (Accounts (searched K before) (letters_in row) (answers before)) (let e : d.held ≡ r = cc d.is in e) d.due
  told_due false before r d = absurd cc

  drawn_due : (before : History D) (plan : Plan) (m m' : Buffer) (x : Result Sheet DrawError) → Due K row before (Draw plan m) (Drawn x m') → Draws plan (vec_items m) (vec_items m') x
  drawn_due before plan m m' x d =
      let e : d.held.0 ≡ x = cc d.is in
      let f : d.held.1 ≡ m' = cc d.is in
      rw (e, f) at d.due

  judged_due : (b : Bool) (before : History D) (a : Admission) → DueIf b K row before (Admit a.plan a.sheet a.memory a.word) (Judged a.verdict a.memory' a.word') → Verdict K a.plan a.sheet (vec_items a.memory) (vec_items a.word) (vec_items a.memory') (vec_items a.word') a.verdict
  judged_due true before a d =
      let e : d.held.0 ≡ a.verdict = cc d.is in
      let f : d.held.1 ≡ a.memory' = cc d.is in
      let h : d.held.2 ≡ a.word' = cc d.is in
      rw (e, f, h) at d.due
  judged_due false before a d = absurd cc

  -- ---- the hits

  one_more : (hits : List Place) (all : List Place) (x : Option Hit) (told : List (Option Place)) → hits ≡ hits_in told → hits ≡ take (length hits) all → placed x ≡ slice_get all (length hits) → hits_in (placed x ∷ told) ≡ take (length (hits_in (placed x ∷ told))) all
  one_more hits all None told e f g = subst (λ (hs : List Place). hs ≡ take (length hs) all) e f
  one_more hits all (Some h) told e f g =
      let p : Place = place_of h in
      let on : take (suc (length hits)) all ≡ take (length hits) all ++ p ∷ [] = take_nth all (length hits) p (sym g) in
      let long : length (hits ++ p ∷ []) ≡ suc (length hits) = omega (arith, length-append hits (p ∷ [])) in
      subst (λ (hs : List Place). hs ++ p ∷ [] ≡ take (length (hs ++ p ∷ [])) all) e (ap (λ hs. hs ++ p ∷ []) f ∙ sym on ∙ ap (λ n. take n all) (sym long))

  first_hits : (h : History D) → Kept K row h → hits_in (answers h) ≡ take (length (hits_in (answers h))) (full_list K row h)
  first_hits [] k = refl
  first_hits ((c, Drawn x m) ∷ before) k = first_hits before k.1
  first_hits ((c, Judged v m w) ∷ before) k = first_hits before k.1
  first_hits ((c, Cell x) ∷ before) k = first_hits before k.1
  first_hits ((c, Begun) ∷ before) k = refl
  first_hits ((c, Found x) ∷ before) k = one_more (hits_in (answers before)) (full_list K row before) x (answers before) refl (first_hits before k.1) (found_due _ before c x k.0)
  first_hits ((c, Told r) ∷ before) k = first_hits before k.1
  first_hits ((c, Closed) ∷ before) k = first_hits before k.1
  first_hits ((c, OutOfTurn d) ∷ before) k = first_hits before k.1

  at_the_end : (hits all : List Place) (x : Option Hit) → hits ≡ take (length hits) all → placed x ≡ slice_get all (length hits) → (x ≡ None) ↔ (hits ≡ all)
  at_the_end hits all None f g = (λ e. f ∙ take_all (length hits) all (nth_none all (length hits) (sym g)), λ e. refl)
  at_the_end hits all (Some h) f g =
      (λ e. absurd cc, λ e. absurd (cc (slice_get_past all (length hits) (let l : length hits ≡ length all = ap length e in omega arith), g)))

  -- ---- the other parts

  accepted_iff : (a : Admission) → Admitted K a.plan a.sheet (vec_items a.memory) (vec_items a.word) (vec_items a.word') a.verdict → letters_of a.plan ≡ K → Ready a.plan a.sheet (vec_items a.memory) (vec_items a.word) → (a.verdict ≡ Ok tt) ↔ (Faultless a.plan a.sheet × PairsHeld a.plan a.sheet (vec_items a.memory))
  accepted_iff a d k ready = (λ e. of_yes e, λ p. of_no a.verdict d p)
    where
      of_yes : a.verdict ≡ Ok tt → Faultless a.plan a.sheet × PairsHeld a.plan a.sheet (vec_items a.memory)
      of_yes e = let y = subst (Admitted K a.plan a.sheet (vec_items a.memory) (vec_items a.word) (vec_items a.word')) e d in (y.1.2, y.1.1)

      of_no : (v : Result (Unit {0}) AdmitRefusal) → Admitted K a.plan a.sheet (vec_items a.memory) (vec_items a.word) (vec_items a.word') v → Faultless a.plan a.sheet × PairsHeld a.plan a.sheet (vec_items a.memory) → v ≡ Ok tt
      of_no (Ok u) y p = refl
      of_no (Err Alphabet) y p = absurd (y.0 k)
      of_no (Err (AboutSheet Letters)) y p = absurd (y.1.0 ready.letters)
      of_no (Err (AboutSheet Shortest)) y p = absurd (y.1.1 ready.shortest)
      of_no (Err (AboutSheet Room)) y p = absurd (y.1.2 ready.room)
      of_no (Err (AboutSheet Pairs)) y p = absurd (y.1.1 p.1)
      of_no (Err (AboutSheet (Word size))) y p = absurd (p.0 y.1.2.wrong y.1.2.first.lettered y.1.2.first.wrong)

  drawn_sheet : (plan : Plan) (memory : List ℕ) (x : Result Sheet DrawError) → DrawAnswers plan memory x → HasWords memory → StatesSuffice plan → (x ≡ Err NoMemory) ⊎ ((sheet : Sheet) × (x ≡ Ok sheet) × DrawnFor plan sheet)
  drawn_sheet plan memory (Ok sheet) d w s = inr (sheet, refl, d.1)
  drawn_sheet plan memory (Err (Refused Words)) d w s = absurd (d w)
  drawn_sheet plan memory (Err (Refused States)) d w s = absurd (d.1 s)
  drawn_sheet plan memory (Err NoMemory) d w s = inl refl

  promise : (h : History D) → Kept K row h → Promise K row h
  promise h k =
      record {
        first = first_hits h k;
        ends = λ x before e. (let y = subst (Kept K row) e k in at_the_end _ _ x (first_hits before y.1) (found_due _ before Next x y.0));
        counts = λ r before e. (let y = subst (Kept K row) e k in (told_due _ before r y.0).counted);
        accepts = λ a before e. (let y = subst (Kept K row) e k in accepted_iff a (judged_due _ before a y.0).due);
        refuses = λ a before e size f. (let y = subst (Kept K row) e k in (subst (Admitted K a.plan a.sheet (vec_items a.memory) (vec_items a.word) (vec_items a.word')) f (judged_due _ before a y.0).due).1.2);
        draws = λ plan m m' x before e. (let y = subst (Kept K row) e k in drawn_sheet plan (vec_items m) x (drawn_due before plan m m' x y.0).answer);
        drawn = λ a before e. (let y = subst (Kept K row) e k in (judged_due _ before a y.0).drawn);
      }

  pub promised : (h : History D) → Kept K row h → AfterEach (Promise K row) h
  promised [] k = promise [] k
  promised (e ∷ before) k = (promise (e ∷ before) k, promised before k.1)
