-- A text is refused if and only if there is that reason.
use Rattle.std.proofs.Common.{◌≡◌, ℕ, zero, suc, ◌+◌, ◌-◌, ◌<◌, ◌≤◌, Bool, true, false, cond, eqb, leb, ◌⊎◌, List, [], ◌∷◌, ◌++◌, length, get_or, Err, Result, sym, refl, ap, ◌∙◌, subst, ap₂, inl, inr, append_assoc, append-nil, arith}
use Rattle.std.proofs.lemmas.List.{length-append, length_push}
use Rattle.std.proofs.lemmas.Bool.{and_parts, and_from, leb-true, le-leb, eqb-true, eq-eqb, both_ways}
use Rattle.notation.specs.declared.LineFault.{LineFault}
use Rattle.notation.specs.declared.LineFault.TheVariants.{TooManyLines, EmptyLine}
use Rattle.notation.specs.declared.PlanRefusal.{PlanRefusal}
use Rattle.notation.specs.declared.PlanRefusal.TheVariants.{Letters, Text, Line}
use Rattle.notation.specs.Reading.{Found, found, faulty, steps_of, filled, line_of, by_line, lines_of, between, whole, read_plan}
use Rattle.notation.specs.Grammar.{LineText, ends, goes, Writes, nothing, line, all_steps}
use Rattle.notation.specs.Refusals.{StepsText, none, more, WrongStep, no_sign, wrong_set, one_too_many, WrongLine, line_too_many, no_step, wrong_step, WrongAt, Proper, Reason, RefusesForItsReason}
use Rattle.notation.proofs.Turns.{lines_full, lines_wrong, lines_more, filled_none, filled_faulty, steps_end, read_letters, read_text, read_lines}
use Rattle.notation.proofs.Steps.{step_begins}
use Rattle.notation.proofs.Lines.{LineRead, steps_read, line_read, line_reads, Ended, line_ends, next_ends}
use Rattle.notation.proofs.Plans.{last_byte}
use Rattle.notation.proofs.Wrong.{StepsFail, steps_fail, here_fails, steps_before, ended_behind}

abbrev Answer : Type 0
Answer = Result (List (List ℕ)) PlanRefusal

same_line : (m n : ℕ) (f g : LineFault) → ◌≡◌ {A = Answer} (Err (Line m f)) (Err (Line n g)) → (n ≡ m) × (f ≡ g)
same_line m n f g e = let p : Line m f ≡ Line n g = cc in let a : m ≡ n = cc in (sym a, cc)

-- ---- a line

-- the line has no step, or one that is wrong
record Blank (t : List ℕ) (f : LineFault) : Type 0 where
  rest : List ℕ
  is : t ≡ 10 ∷ rest
  empty : f ≡ EmptyLine

no_steps : (K : ℕ) (x p : List ℕ) → LineText K x p → length p ≡ 0 → x ≡ 10 ∷ []
no_steps K x p ends h = refl
no_steps K y q (goes x t s l) h = absurd (omega arith)

line_fails : (K room : ℕ) (t : List ℕ) (f : LineFault) → K ≤ 32 → Ended t → line_of K room t ≡ faulty f → Blank t f ⊎ StepsFail K room t f
unfolding line_of filled
line_fails K room t f l d e = by_read (steps_of K room [] t) refl e
  where
    by_read : (y : Found (List ℕ)) → steps_of K room [] t ≡ y → filled y ≡ faulty f → Blank t f ⊎ StepsFail K room t f
    by_read (found [] rest) q e =
        let r = steps_read K room [] t [] rest q in
        let is : r.front ≡ 10 ∷ [] = no_steps K r.front r.pattern r.text (ap length (sym r.more)) in
        inl (record { rest = rest; is = r.is ∙ ap (λ (x : List ℕ). x ++ rest) is; empty = let same : EmptyLine ≡ f = cc in sym same })
    by_read (found (s ∷ ss) rest) q e = absurd (cc)
    by_read (faulty g) q e = inr (steps_fail K room [] t f l d (q ∙ e))

-- ---- lines

record LinesFail (K left room m : ℕ) (t : List ℕ) (n : ℕ) (f : LineFault) : Type 0 where
  plan : List (List ℕ)
  before : List ℕ
  p : List ℕ
  front : List ℕ
  here : List ℕ
  is : t ≡ before ++ (front ++ here)
  number : n ≡ m + length plan + 1
  written : Writes K before plan
  patterns : length plan ≤ left
  right : StepsText K front p
  steps : all_steps plan + length p ≤ room
  wrong : WrongLine K (left - length plan) (room - (all_steps plan + length p)) p here f

-- this line fails
fails_now : (K left room m : ℕ) (t : List ℕ) (n : ℕ) (f : LineFault) (p front here : List ℕ) → n ≡ m + 1 → t ≡ front ++ here → StepsText K front p → length p ≤ room → WrongLine K left (room - length p) p here f → LinesFail K left room m t n f
fails_now K left room m t n f p front here number is right fits w =
    let a : left - 0 ≡ left = omega arith in
    let b : room - (0 + length p) ≡ room - length p = omega arith in
    record { plan = []; before = []; p = p; front = front; here = here; is = is; number = omega arith; written = nothing; patterns = omega arith; right = right; steps = omega arith; wrong = rw (a, b) w }

-- a later one does
fails_then : (K left room m : ℕ) (t : List ℕ) (n : ℕ) (f : LineFault) (p rest : List ℕ) → LineRead K room [] t p rest → 0 < length p → LinesFail K left (room - length p) (m + 1) rest n f → LinesFail K (suc left) room m t n f
fails_then K left room m t n f p rest r some d =
    let same : r.pattern ≡ p = sym r.more in
    let text : LineText K r.front p = subst (LineText K r.front) same r.text in
    let fits : length p ≤ room = omega (arith, r.fits, ap length same) in
    let a : suc left - length (p ∷ d.plan) ≡ left - length d.plan = omega arith in
    let b : room - (all_steps (p ∷ d.plan) + length d.p) ≡ room - length p - (all_steps d.plan + length d.p) = omega arith in
    record {
      plan = p ∷ d.plan;
      before = r.front ++ d.before;
      p = d.p;
      front = d.front;
      here = d.here;
      is = r.is ∙ ap (λ (x : List ℕ). r.front ++ x) d.is ∙ sym (append_assoc r.front d.before (d.front ++ d.here));
      number = omega (arith, d.number);
      written = line r.front d.before text some d.written;
      patterns = omega (arith, d.patterns);
      right = d.right;
      steps = omega (arith, d.steps, fits);
      wrong = subst (λ (x : ℕ). WrongLine K (suc left - length (p ∷ d.plan)) x d.p d.here f) (sym b) (subst (λ (x : ℕ). WrongLine K x (room - length p - (all_steps d.plan + length d.p)) d.p d.here f) (sym a) d.wrong);
    }

lines_fail : (K left room : ℕ) (had : List (List ℕ)) (t : List ℕ) (n : ℕ) (f : LineFault) → K ≤ 32 → (0 < length t → Ended t) → lines_of K left room had t ≡ Err (Line n f) → LinesFail K left room (length had) t n f
unfolding lines_of by_line
lines_fail K left room had [] n f l d e = absurd (cc)
lines_fail K zero room had (b ∷ t) n f l d e =
    let s = same_line (length had + 1) n TooManyLines f e in
    fails_now K zero room (length had) (b ∷ t) n f [] [] (b ∷ t) s.0 refl none (omega arith) (subst (WrongLine K zero (room - 0) [] (b ∷ t)) s.1 (line_too_many refl refl (omega arith)))
lines_fail K (suc left) room had (b ∷ t) n f l d e = by_line_lem (λ p rest. lines_fail K left (room - length p) (had ++ p ∷ []) rest n f l) (line_of K room (b ∷ t)) refl e
  where
    by_fault : n ≡ length had + 1 → Blank (b ∷ t) f ⊎ StepsFail K room (b ∷ t) f → LinesFail K (suc left) room (length had) (b ∷ t) n f
    by_fault number (inl r) = fails_now K (suc left) room (length had) (b ∷ t) n f [] [] (b ∷ t) number refl none (omega arith) (subst (WrongLine K (suc left) (room - 0) [] (b ∷ t)) (sym r.empty) (no_step r.rest (omega arith) refl r.is))
    by_fault number (inr r) = fails_now K (suc left) room (length had) (b ∷ t) n f r.p r.front r.here number r.is r.right r.fits (wrong_step (omega arith) r.fails)

    by_line_lem : ((p rest : List ℕ) → (0 < length rest → Ended rest) → lines_of K left (room - length p) (had ++ p ∷ []) rest ≡ Err (Line n f) → LinesFail K left (room - length p) (length (had ++ p ∷ [])) rest n f)
        → (y : Found (List ℕ)) → line_of K room (b ∷ t) ≡ y
        → by_line (λ p rest. lines_of K left (room - length p) (had ++ p ∷ []) rest) (length had + 1) y ≡ Err (Line n f) → LinesFail K (suc left) room (length had) (b ∷ t) n f
    by_line_lem again (found p rest) q e =
        let r = line_read K room (b ∷ t) p rest q in
        let g = d (omega arith) in
        fails_then K left room (length had) (b ∷ t) n f p rest r.0 r.1
        (subst (λ (m : ℕ). LinesFail K left (room - length p) m rest n f) (length_push had p) (again p rest (λ h. ended_behind r.0.front rest g.before h (sym r.0.is ∙ g.is)) e))
    by_line_lem again (faulty g) q e =
        let s = same_line (length had + 1) n g f e in
        by_fault s.0 (line_fails K room (b ∷ t) f l (d (omega arith)) (q ∙ ap faulty s.1))

-- ---- and back

lines_before : (K left room : ℕ) (had : List (List ℕ)) (x : List ℕ) (plan : List (List ℕ)) (t : List ℕ) → K ≤ 32 → length plan ≤ left → all_steps plan ≤ room → Writes K x plan → lines_of K left room had (x ++ t) ≡ lines_of K (left - length plan) (room - all_steps plan) (had ++ plan) t
lines_before K left room had x plan t l h s nothing =
    let a : left - 0 ≡ left = omega arith in
    let b : room - 0 ≡ room = omega arith in
    rw (a, b, append-nil had)
lines_before K left room had y qs t l h s (line x rest {p} {ps} text some w) =
    let e = line_ends K x p text in
    let long : 0 < length (x ++ (rest ++ t)) = omega (arith, length-append x (rest ++ t), ap length e.is, length_push e.before 10) in
    let a : left - 1 - length ps ≡ left - length (p ∷ ps) = omega arith in
    let b : room - length p - all_steps ps ≡ room - all_steps (p ∷ ps) = omega arith in
    ap (lines_of K left room had) (append_assoc x rest t)
    ∙ lines_more K room had left (left - 1) (x ++ (rest ++ t)) p (rest ++ t) long (omega arith) (sym (line_reads K room x p (rest ++ t) l (omega arith) some text))
    ∙ lines_before K (left - 1) (room - length p) (had ++ p ∷ []) rest ps t l (omega arith) (omega arith) w
    ∙ ap₂ (λ (m : ℕ) (q : List (List ℕ)). lines_of K m (room - length p - all_steps ps) q t) a (append_assoc had (p ∷ []) ps)
    ∙ ap (λ (m : ℕ). lines_of K (left - length (p ∷ ps)) m (had ++ p ∷ ps) t) b

no_front : (K : ℕ) (x p : List ℕ) → StepsText K x p → p ≡ [] → x ≡ []
no_front K x p none e = refl
no_front K y q (more x t {set} {p} s r) e = let z : length (set ∷ p) ≡ 0 = ap length e in absurd (omega (arith, z))

some_wrong : (K room : ℕ) (t : List ℕ) (f : LineFault) → WrongStep K room t f → 0 < length t
some_wrong K room t f (no_sign b rest is r s u n) = omega (arith, ap length is)
some_wrong K room t f (wrong_set rest is w) = omega (arith, ap length is)
some_wrong K room t f (one_too_many x rest {set} is text full) = let b = step_begins K x set text in omega (arith, ap length is, length-append x rest, ap length b.is)

line_faulty : (K room : ℕ) (front p here : List ℕ) (f : LineFault) → K ≤ 32 → length p ≤ room → StepsText K front p → WrongStep K (room - length p) here f → line_of K room (front ++ here) ≡ faulty f
unfolding line_of
line_faulty K room front p here f l h right w = ap filled (steps_before K room [] front p here l h right ∙ here_fails K (room - length p) p here f l w) ∙ filled_faulty f

line_blank : (K room : ℕ) (rest : List ℕ) → line_of K room (10 ∷ rest) ≡ faulty EmptyLine
unfolding line_of
line_blank K room rest = ap filled (steps_end K [] (10 ∷ rest) room rest (next_ends K rest)) ∙ filled_none [] rest refl

lines_faulty : (K left room : ℕ) (had : List (List ℕ)) (front p here : List ℕ) (f : LineFault) → K ≤ 32 → length p ≤ room → StepsText K front p → WrongLine K left (room - length p) p here f → lines_of K left room had (front ++ here) ≡ Err (Line (length had + 1) f)
lines_faulty K left room had front p here f l h right (line_too_many full z some) =
    ap (λ (x : List ℕ). lines_of K left room had (x ++ here)) (no_front K front p right z) ∙ lines_full K room had left here some full
lines_faulty K left room had front p here f l h right (no_step rest some z is) =
    ap₂ (λ (x y : List ℕ). lines_of K left room had (x ++ y)) (no_front K front p right z) is
    ∙ lines_wrong K room had left (10 ∷ rest) EmptyLine (omega arith) some (sym (line_blank K room rest))
lines_faulty K left room had front p here f l h right (wrong_step some w) =
    lines_wrong K room had left (front ++ here) f (omega (arith, length-append front here, some_wrong K (room - length p) here f w)) some (sym (line_faulty K room front p here f l h right w))

-- ---- texts

ended_last : (b : ℕ) (t : List ℕ) → get_or (b ∷ t) (length t) 0 ≡ 10 → Ended (b ∷ t)
ended_last b [] e = record { before = []; is = ap (λ (n : ℕ). n ∷ []) e }
ended_last b (c ∷ t) e = let r = ended_last c t e in record { before = b ∷ r.before; is = ap (λ (x : List ℕ). b ∷ x) r.is }

whole_ended : (t : List ℕ) → whole t ≡ true → Ended t
whole_ended [] e = absurd (both_ways false refl e)
whole_ended (b ∷ t) e =
    let size = and_parts (leb (length (b ∷ t)) 65536) (eqb (get_or (b ∷ t) (length (b ∷ t) - 1) 0) 10) e in
    let last : length (b ∷ t) - 1 ≡ length t = omega arith in
    ended_last b t (ap (λ (n : ℕ). get_or (b ∷ t) n 0) (sym last) ∙ eqb-true _ 10 size.1)

inside : (K : ℕ) → 1 ≤ K → K ≤ 32 → between 1 32 K ≡ true
inside K h l = and_from (leb 1 K) (leb K 32) (le-leb 1 K h) (le-leb K 32 l)

whole_so : (text before : List ℕ) → length text ≤ 65536 → text ≡ before ++ 10 ∷ [] → whole text ≡ true
whole_so text before h e = and_from (leb (length text) 65536) (eqb (get_or text (length text - 1) 0) 10) (le-leb (length text) 65536 h) (eq-eqb (get_or text (length text - 1) 0) 10 (last_byte text (record { before = before; is = e })))

sound : (K : ℕ) (text : List ℕ) (n : ℕ) (f : LineFault) → between 1 32 K ≡ true → whole text ≡ true → lines_of K 32 64 [] text ≡ Err (Line n f) → Proper K text × WrongAt K text n f
sound K text n f p q e =
    let range = and_parts (leb 1 K) (leb K 32) p in
    let size = and_parts (leb (length text) 65536) (eqb (get_or text (length text - 1) 0) 10) q in
    let d = whole_ended text q in
    let r = lines_fail K 32 64 [] text n f (leb-true K 32 range.1) (λ h. d) e in (
      record { some_letter = leb-true 1 K range.0; letters = leb-true K 32 range.1; bytes = leb-true (length text) 65536 size.0; before = d.before; ended = d.is },
      record { plan = r.plan; before = r.before; p = r.p; front = r.front; here = r.here; is = r.is; number = omega (arith, r.number); written = r.written; patterns = r.patterns; right = r.right; steps = r.steps; wrong = r.wrong },
    )

complete : (K : ℕ) (text : List ℕ) (n : ℕ) (f : LineFault) → Proper K text → WrongAt K text n f → read_plan K text ≡ Err (Line n f)
complete K text n f h w =
    let room : 64 - (all_steps w.plan + length w.p) ≡ 64 - all_steps w.plan - length w.p = omega arith in
    read_lines K text (inside K h.some_letter h.letters) (whole_so text h.before h.bytes h.ended)
    ∙ ap (lines_of K 32 64 []) w.is
    ∙ lines_before K 32 64 [] w.before w.plan (w.front ++ w.here) h.letters w.patterns (omega (arith, w.steps)) w.written
    ∙ lines_faulty K (32 - length w.plan) (64 - all_steps w.plan) w.plan w.front w.p w.here f h.letters (omega (arith, w.steps)) w.right (subst (λ (m : ℕ). WrongLine K (32 - length w.plan) m w.p w.here f) room w.wrong)
    ∙ ap (λ (m : ℕ). Err (Line m f)) (sym w.number)

-- ---- the other refusals

abbrev IsLine : PlanRefusal → Type 0
IsLine Letters = ⊥
IsLine Text = ⊥
IsLine (Line n f) = Unit {0}

is_line : (n : ℕ) (f : LineFault) (r : PlanRefusal) → ◌≡◌ {A = Answer} (Err (Line n f)) (Err r) → IsLine r
is_line n f r e = let same : Line n f ≡ r = cc in subst IsLine same tt

-- the lines are refused for a line
lines_line : (K left room : ℕ) (had : List (List ℕ)) (t : List ℕ) (r : PlanRefusal) → lines_of K left room had t ≡ Err r → IsLine r
unfolding lines_of by_line
lines_line K left room had [] r e = absurd (cc)
lines_line K zero room had (b ∷ t) r e = is_line (length had + 1) TooManyLines r e
lines_line K (suc left) room had (b ∷ t) r e = by_line_lem (λ p rest. lines_line K left (room - length p) (had ++ p ∷ []) rest r) (line_of K room (b ∷ t)) e
  where
    by_line_lem : ((p rest : List ℕ) → lines_of K left (room - length p) (had ++ p ∷ []) rest ≡ Err r → IsLine r)
        → (y : Found (List ℕ)) → by_line (λ p rest. lines_of K left (room - length p) (had ++ p ∷ []) rest) (length had + 1) y ≡ Err r → IsLine r
    by_line_lem again (found p rest) e = again p rest e
    by_line_lem again (faulty f) e = is_line (length had + 1) f r e

-- which of the three stages refuses
abbrev Stage : ℕ → List ℕ → PlanRefusal → Type 0
Stage K text Letters = between 1 32 K ≡ false
Stage K text Text = (between 1 32 K ≡ true) × (whole text ≡ false)
Stage K text (Line n f) = (between 1 32 K ≡ true) × (whole text ≡ true) × (lines_of K 32 64 [] text ≡ Err (Line n f))

same_refusal : (r s : PlanRefusal) → ◌≡◌ {A = Answer} (Err r) (Err s) → r ≡ s
same_refusal r s e = cc

staged : (K : ℕ) (text : List ℕ) (r : PlanRefusal) → read_plan K text ≡ Err r → Stage K text r
unfolding read_plan
staged K text r e = by_tests (between 1 32 K) (whole text) refl refl e
  where
    by_lines : (s : PlanRefusal) → between 1 32 K ≡ true → whole text ≡ true → IsLine s → lines_of K 32 64 [] text ≡ Err s → Stage K text s
    by_lines Letters p q i e = absurd i
    by_lines Text p q i e = absurd i
    by_lines (Line n f) p q i e = (p, q, e)

    by_tests : (x y : Bool) → between 1 32 K ≡ x → whole text ≡ y → cond x (cond y (lines_of K 32 64 [] text) (Err Text)) (Err Letters) ≡ Err r → Stage K text r
    by_tests false y p q e = subst (Stage K text) (same_refusal Letters r e) p
    by_tests true false p q e = subst (Stage K text) (same_refusal Text r e) (p, q)
    by_tests true true p q e = by_lines r p q (lines_line K 32 64 [] text r e) e

why : (K : ℕ) (text : List ℕ) (r : PlanRefusal) → Stage K text r → Reason K text r
why K text Letters p = λ h l. both_ways (between 1 32 K) p (inside K h l)
why K text Text s =
    let range = and_parts (leb 1 K) (leb K 32) s.0 in
    (leb-true 1 K range.0, leb-true K 32 range.1, λ h before is. both_ways (whole text) s.1 (whole_so text before h is))
why K text (Line n f) s = sound K text n f s.0 s.1 s.2

so : (K : ℕ) (text : List ℕ) (r : PlanRefusal) → Reason K text r → read_plan K text ≡ Err r
so K text Letters h = read_letters K text (by_test (between 1 32 K) refl)
  where
    by_test : (x : Bool) → between 1 32 K ≡ x → between 1 32 K ≡ false
    by_test true p = let range = and_parts (leb 1 K) (leb K 32) p in absurd (h (leb-true 1 K range.0) (leb-true K 32 range.1))
    by_test false p = p
so K text Text h = read_text K text (inside K h.0 h.1) (by_test (whole text) refl)
  where
    by_test : (x : Bool) → whole text ≡ x → whole text ≡ false
    by_test true p =
        let size = and_parts (leb (length text) 65536) (eqb (get_or text (length text - 1) 0) 10) p in
        let d = whole_ended text p in
        absurd (h.2 (leb-true (length text) 65536 size.0) d.before d.is)
    by_test false p = p
so K text (Line n f) h = complete K text n f h.0 h.1

pub refuses_for_its_reason_lem : RefusesForItsReason
refuses_for_its_reason_lem K text r = (λ e. why K text r (staged K text r e), so K text r)
