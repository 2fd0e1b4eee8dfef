-- Sessions from call to call: what is answered in its turn, and that each hit leaves one less.
use Rattle.std.proofs.Common.{◌≡◌, ℕ, ◌+◌, ◌<◌, Bool, true, false, not, List, [], ◌∷◌, length, Some, Option, Result, sym, refl, ap, ◌∙◌, subst, arith, length-append}
use Rattle.std.specs.List.{slice_get}
use Rattle.std.proofs.lemmas.Option.{slice_get_within}
use Rattle.pattern.specs.Images.{images_of}
use Rattle.pattern.specs.Rows.{full}
use Rattle.pattern.specs.Rows.{Hit as Place}
use Rattle.plan.specs.declared.Plan.{Plan}
use Rattle.plan.specs.Views.{patterns_of}
use Rattle.sheet.specs.declared.Sheet.{Sheet}
use Rattle.reading.specs.declared.hits.Hit.{Hit}
use Rattle.reading.specs.declared.calls.Call.{Call}
use Rattle.reading.specs.declared.calls.Call.TheVariants.{Draw, Admit, Begin, Next}
use Rattle.reading.specs.declared.calls.Answer.{Answer}
use Rattle.reading.specs.declared.calls.Answer.TheVariants.{Found}
use Rattle.reading.specs.declared.states.Search.{Search}
use Rattle.reading.specs.declared.sessions.Session.{Session}
use Rattle.reading.specs.declared.sessions.Session.TheVariants.{Idle, Searching}
use Rattle.reading.specs.Cells.{letters_in}
use Rattle.reading.specs.Hits.{place_of, placed, hits_in}
use Rattle.reading.specs.Histories.{History, Order, Buffer, begun, admitted, searched, answers, Of, Kept, DueInTurn, DueIf}
use Rattle.reading.specs.Promise.{Promise, AfterEach}
use Rattle.reading.proofs.Promising.{promised}
use Rattle.reading.specs.Sessions.{trace_of, Runs, Agrees, Promised}
use Rattle.logsearch.specs.Searches.{left}

in_turn : {D : Type 0} (K : ℕ) (row : List (Result ℕ D)) (b : Bool) (h : History D) (c : Call) (a : Answer D) → b ≡ true → DueIf b K row h c a → DueInTurn K row h c a
in_turn K row true h c a e d = d
in_turn K row false h c a e d = absurd cc

module _ {T D : Type 0} (K : ℕ) (row : T → List (Result ℕ D)) where
  -- some history that keeps the law has led to the session
  abbrev pub Came : Session T → Bool → Type 0
  Came s b = (h : History D) × Agrees K (row (trace_of s)) h s × Kept K (row (trace_of s)) h × AfterEach (Promise K (row (trace_of s))) h × (begun h ≡ b)

  pub fresh : (s : Session T) (trace : T) → trace_of s ≡ trace → Agrees K (row trace) [] s → Came s false
  fresh s trace e a = ([], subst (λ (t : T). Agrees K (row t) [] s) (sym e) a, tt, promised K (row (trace_of s)) [] tt, refl)

  came : (s s' : Session T) (h : History D) (b : Bool) → trace_of s' ≡ trace_of s → Agrees K (row (trace_of s)) h s' → Kept K (row (trace_of s)) h → begun h ≡ b → Came s' b
  came s s' h b e a k is =
      let k' = subst (λ (t : T). Kept K (row t) h) (sym e) k in
      (h, subst (λ (t : T). Agrees K (row t) h s') (sym e) a, k', promised K (row (trace_of s')) h k', is)

  pub drew : (s s' : Session T) (plan : Plan) (m : Buffer) (a : Answer D) → Came s false → trace_of s' ≡ trace_of s → Promised K (row (trace_of s)) s (Draw plan m) a s' → Came s' false × DueInTurn K (row (trace_of s)) [] (Draw plan m) a
  drew s s' plan m a (h, ag, k, held, is) e p =
      let d = (p h ag).0 in
      (came s s' ((Draw plan m, a) ∷ h) false e (p h ag).1 ((p h ag).0, k) (ap (λ (x : Answer D). begun ((Draw plan m, x) ∷ h)) d.is ∙ is), record { held = d.held; is = d.is; due = d.due })

  pub asked : (s s' : Session T) (plan : Plan) (sheet : Sheet) (m w : Buffer) (a : Answer D) → Came s false → trace_of s' ≡ trace_of s → Promised K (row (trace_of s)) s (Admit plan sheet m w) a s' → Came s' false × DueInTurn K (row (trace_of s)) [] (Admit plan sheet m w) a
  asked s s' plan sheet m w a (h, ag, k, held, is) e p =
      let d = in_turn K (row (trace_of s)) _ h (Admit plan sheet m w) a (ap not is) (p h ag).0 in
      (came s s' ((Admit plan sheet m w, a) ∷ h) false e (p h ag).1 ((p h ag).0, k) (ap (λ (x : Answer D). begun ((Admit plan sheet m w, x) ∷ h)) d.is ∙ is), record { held = d.held; is = d.is; due = d.due })

  pub opened : (s s' : Session T) (b : Bool) (a : Answer D) → Came s b → trace_of s' ≡ trace_of s → Promised K (row (trace_of s)) s Begin a s' → Came s' true
  opened s s' b a (h, ag, k, held, is) e p =
      came s s' ((Begin, a) ∷ h) true e (p h ag).1 ((p h ag).0, k) (ap (λ (x : Answer D). begun ((Begin, x) ∷ h)) (p h ag).0)

  -- what next answers, and that the search is still begun
  pub answered : (s s' : Session T) (a : Answer D) → Came s true → trace_of s' ≡ trace_of s → Promised K (row (trace_of s)) s Next a s' → Came s' true × Of Found (λ (x : Option Hit). Unit {0}) a
  answered s s' a (h, ag, k, held, is) e p =
      let d = in_turn K (row (trace_of s)) _ h Next a is (p h ag).0 in
      (came s s' ((Next, a) ∷ h) true e (p h ag).1 ((p h ag).0, k) (ap (λ (x : Answer D). begun ((Next, x) ∷ h)) d.is ∙ is), record { held = d.held; is = d.is; due = tt })

hits_more : (given : List (Option Place)) (hit : Hit) → length (hits_in (placed (Some hit) ∷ given)) ≡ length (hits_in given) + 1
hits_more given hit = length-append (hits_in given) (place_of hit ∷ [])

found_some : {D : Type 0} (x y : Option Hit) (a : Answer D) → a ≡ Found x → a ≡ Found y → x ≡ y
found_some x y a e f = cc

pub is_found : {D : Type 0} (a : Answer D) (x : Option Hit) (hit : Hit) → a ≡ Found x → x ≡ Some hit → a ≡ Found (Some hit)
is_found a x hit e f = e ∙ ap Found f

module _ {T D : Type 0} (K : ℕ) (row : List (Result ℕ D)) where
  fewer : (h : History D) (hit : Hit) (q q' : Search T) → Runs K row true (admitted K h) (searched K h) (answers h) q → Runs K row true (admitted K h) (searched K h) (placed (Some hit) ∷ answers h) q' → Some (place_of hit) ≡ slice_get (full (images_of (searched K h).plan) (letters_in row)) (length (hits_in (answers h))) → left row (Searching q') < left row (Searching q)
  fewer h hit q q' r r' e =
      let same : (searched K h).plan ≡ patterns_of q.reading.plan = ap (λ (o : Order). o.plan) r.uses in
      let same' : (searched K h).plan ≡ patterns_of q'.reading.plan = ap (λ (o : Order). o.plan) r'.uses in
      let n = length (full (images_of (searched K h).plan) (letters_in row)) in
      let is : n ≡ length (full (images_of (patterns_of q.reading.plan)) (letters_in row)) = ap (λ (plan : List (List ℕ)). length (full (images_of plan) (letters_in row))) same in
      let is' : n ≡ length (full (images_of (patterns_of q'.reading.plan)) (letters_in row)) = ap (λ (plan : List (List ℕ)). length (full (images_of plan) (letters_in row))) same' in
      omega (arith, is, is', r.stands.counted, r'.stands.counted, hits_more (answers h) hit, slice_get_within (full (images_of (searched K h).plan) (letters_in row)) (length (hits_in (answers h))) (place_of hit) (sym e))

  pub nearer : (h : History D) (s s' : Session T) (a : Answer D) (hit : Hit) → Agrees K row h s → begun h ≡ true → Promised K row s Next a s' → a ≡ Found (Some hit) → left row s' < left row s
  nearer h (Idle r) s' a hit ag is p f = absurd (let z : true ≡ false = sym is ∙ ag.shut in cc)
  nearer h (Searching q) (Idle r') a hit ag is p f =
      let d = in_turn K row _ h Next a is (p h ag).0 in
      absurd (let z : true ≡ false = sym is ∙ ap (λ (x : Answer D). begun ((Next, x) ∷ h)) (sym d.is) ∙ (p h ag).1.shut in cc)
  nearer h (Searching q) (Searching q') a hit ag is p f =
      let d = in_turn K row _ h Next a is (p h ag).0 in
      let x = found_some d.held (Some hit) a d.is f in
      fewer h hit q q' (subst (λ (b : Bool). Runs K row b (admitted K h) (searched K h) (answers h) q) is ag)
      (after h q' a hit is f (p h ag).1)
      (subst (λ (y : Option Hit). placed y ≡ slice_get (full (images_of (searched K h).plan) (letters_in row)) (length (hits_in (answers h)))) x d.due)
    where
      after : (h : History D) (q' : Search T) (a : Answer D) (hit : Hit) → begun h ≡ true → a ≡ Found (Some hit) → Agrees K row ((Next, a) ∷ h) (Searching q') → Runs K row true (admitted K h) (searched K h) (placed (Some hit) ∷ answers h) q'
      after h q' a hit is f ag = subst (λ (b : Bool). Runs K row b (admitted K h) (searched K h) (placed (Some hit) ∷ answers h) q') is (subst (λ (y : Answer D). Agrees K row ((Next, y) ∷ h) (Searching q')) f ag)

pub one_less : {T D : Type 0} (K : ℕ) (row : T → List (Result ℕ D)) (s s' : Session T) (a : Answer D) (hit : Hit) → Came K row s true → trace_of s' ≡ trace_of s → Promised K (row (trace_of s)) s Next a s' → a ≡ Found (Some hit) → left (row (trace_of s')) s' < left (row (trace_of s)) s
one_less {T} {D} K row s s' a hit (h, ag, k, held, is) e p f =
    subst (λ (t : List (Result ℕ D)). left t s' < left (row (trace_of s)) s) (ap row (sym e)) (nearer K (row (trace_of s)) h s s' a hit ag is p f)
