-- A text is read as a plan if and only if it writes that plan, within the limits.
use Rattle.std.proofs.Common.{◌≡◌, ℕ, zero, suc, ◌+◌, ◌-◌, ◌<◌, ◌≤◌, Bool, true, false, cond, eqb, leb, List, [], ◌∷◌, ◌++◌, length, get_or, Ok, Err, sym, refl, ap, ◌∙◌, subst, append_assoc, append-nil, arith}
use Rattle.std.proofs.lemmas.List.{length-append, length_push, get_or_push}
use Rattle.std.proofs.lemmas.Bool.{and_parts, and_from, leb-true, le-leb, eq-eqb, both_ways}
use Rattle.notation.specs.declared.PlanRefusal.TheVariants.{Letters, Text}
use Rattle.notation.specs.Reading.{Found, found, faulty, line_of, by_line, lines_of, between, whole, read_plan}
use Rattle.notation.specs.Grammar.{LineText, Writes, nothing, line, all_steps, Limits, ReadsWhatIsWritten}
use Rattle.notation.proofs.Turns.{lines_end, lines_more, read_lines}
use Rattle.notation.proofs.Lines.{line_read, line_reads, Ended, line_ends}

-- ---- what was read

record PlanRead (K left room : ℕ) (had : List (List ℕ)) (t : List ℕ) (plan : List (List ℕ)) : Type 0 where
  new : List (List ℕ)
  is : plan ≡ had ++ new
  text : Writes K t new
  lines : length new ≤ left
  steps : all_steps new ≤ room

lines_read : (K left room : ℕ) (had : List (List ℕ)) (t : List ℕ) (plan : List (List ℕ)) → lines_of K left room had t ≡ Ok plan → PlanRead K left room had t plan
unfolding lines_of by_line
lines_read K left room had [] plan e =
    let same : had ≡ plan = cc in
    record { new = []; is = sym same ∙ sym (append-nil had); text = nothing; lines = omega arith; steps = omega arith }
lines_read K zero room had (b ∷ t) plan e = absurd (cc)
lines_read K (suc left) room had (b ∷ t) plan e = by_line_lem (λ p rest. lines_read K left (room - length p) (had ++ p ∷ []) rest plan) (line_of K room (b ∷ t)) refl e
  where
    by_line_lem : ((p rest : List ℕ) → lines_of K left (room - length p) (had ++ p ∷ []) rest ≡ Ok plan → PlanRead K left (room - length p) (had ++ p ∷ []) rest plan)
        → (y : Found (List ℕ)) → line_of K room (b ∷ t) ≡ y
        → by_line (λ p rest. lines_of K left (room - length p) (had ++ p ∷ []) rest) (length had + 1) y ≡ Ok plan → PlanRead K (suc left) room had (b ∷ t) plan
    by_line_lem again (found p rest) q e =
        let f = line_read K room (b ∷ t) p rest q in
        let r = again p rest e in
        let same : f.0.pattern ≡ p = sym f.0.more in
        let text : LineText K f.0.front p = subst (LineText K f.0.front) same f.0.text in
        let fits : length p ≤ room = omega (arith, f.0.fits, ap length same) in
        record {
          new = p ∷ r.new;
          is = r.is ∙ append_assoc had (p ∷ []) r.new;
          text = subst (λ (x : List ℕ). Writes K x (p ∷ r.new)) (sym f.0.is) (line f.0.front rest text f.1 r.text);
          lines = omega (arith, r.lines);
          steps = omega (arith, r.steps, fits);
        }
    by_line_lem again (faulty f) q e = absurd (cc)

some_written : (K : ℕ) (t : List ℕ) (plan : List (List ℕ)) → Writes K t plan → 0 < length t → 0 < length plan
some_written K t plan nothing h = absurd (omega arith)
some_written K y ps (line x t text some w) h = omega arith

some_text : (t : List ℕ) → whole t ≡ true → 0 < length t
some_text [] e = absurd (both_ways false refl e)
some_text (b ∷ t) e = omega arith

sound : (K : ℕ) (text : List ℕ) (plan : List (List ℕ)) → read_plan K text ≡ Ok plan → Writes K text plan × Limits K text plan
unfolding read_plan
sound K text plan e = by_tests (between 1 32 K) (whole text) refl refl e
  where
    by_tests : (x y : Bool) → between 1 32 K ≡ x → whole text ≡ y → cond x (cond y (lines_of K 32 64 [] text) (Err Text)) (Err Letters) ≡ Ok plan → Writes K text plan × Limits K text plan
    by_tests false y p q e = absurd (cc)
    by_tests true false p q e = absurd (cc)
    by_tests true true p q e =
        let r = lines_read K 32 64 [] text plan e in
        let same : r.new ≡ plan = sym r.is in
        let written : Writes K text plan = subst (Writes K text) same r.text in
        let range = and_parts (leb 1 K) (leb K 32) p in
        let size = and_parts (leb (length text) 65536) (eqb (get_or text (length text - 1) 0) 10) q in (
          written,
          record {
            some_letter = leb-true 1 K range.0;
            letters = leb-true K 32 range.1;
            bytes = leb-true (length text) 65536 size.0;
            some_pattern = some_written K text plan written (some_text text q);
            patterns = subst (λ (l : List (List ℕ)). length l ≤ 32) same r.lines;
            steps = subst (λ (l : List (List ℕ)). all_steps l ≤ 64) same r.steps;
          },
        )

-- ---- and back

lines_reads : (K left room : ℕ) (had : List (List ℕ)) (t : List ℕ) (new : List (List ℕ)) → K ≤ 32 → length new ≤ left → all_steps new ≤ room → Writes K t new → lines_of K left room had t ≡ Ok (had ++ new)
lines_reads K left room had t new l h s nothing = lines_end K room had left [] refl ∙ ap Ok (sym (append-nil had))
lines_reads K left room had y qs l h s (line x t {p} {ps} text some w) =
    let e = line_ends K x p text in
    let long : 0 < length (x ++ t) = omega (arith, length-append x t, ap length e.is, length_push e.before 10) in
    lines_more K room had left (left - 1) (x ++ t) p t long (omega arith) (sym (line_reads K room x p t l (omega arith) some text))
    ∙ lines_reads K (left - 1) (room - length p) (had ++ p ∷ []) t ps l (omega arith) (omega arith) w
    ∙ ap Ok (append_assoc had (p ∷ []) ps)

last_line : (K : ℕ) (x t : List ℕ) (ps : List (List ℕ)) → Ended x → Writes K t ps → (0 < length ps → Ended t) → Ended (x ++ t)
last_line K x t ps e nothing again = record { before = e.before; is = append-nil x ∙ e.is }
last_line K x y ps e (line x' t text some w) again =
    let r = again (omega arith) in
    record { before = x ++ r.before; is = ap (λ (l : List ℕ). x ++ l) r.is ∙ sym (append_assoc x r.before (10 ∷ [])) }

text_ends : (K : ℕ) (t : List ℕ) (plan : List (List ℕ)) → Writes K t plan → 0 < length plan → Ended t
text_ends K t plan nothing h = absurd (omega arith)
text_ends K y qs (line x t {p} {ps} text some w) h = last_line K x t ps (line_ends K x p text) w (text_ends K t ps w)

pub last_byte : (t : List ℕ) → Ended t → get_or t (length t - 1) 0 ≡ 10
last_byte t e =
    let long : length e.before ≡ length t - 1 = omega (arith, ap length e.is, length_push e.before 10) in
    ap (λ (l : List ℕ). get_or l (length t - 1) 0) e.is ∙ get_or_push e.before 10 0 (length t - 1) long

complete : (K : ℕ) (text : List ℕ) (plan : List (List ℕ)) → Writes K text plan → Limits K text plan → read_plan K text ≡ Ok plan
complete K text plan w h =
    read_lines K text
    (and_from (leb 1 K) (leb K 32) (le-leb 1 K h.some_letter) (le-leb K 32 h.letters))
    (and_from (leb (length text) 65536) (eqb (get_or text (length text - 1) 0) 10) (le-leb (length text) 65536 h.bytes) (eq-eqb (get_or text (length text - 1) 0) 10 (last_byte text (text_ends K text plan w h.some_pattern))))
    ∙ lines_reads K 32 64 [] text plan h.letters h.patterns h.steps w

pub reads_what_is_written_lem : ReadsWhatIsWritten
reads_what_is_written_lem K text plan = (sound K text plan, λ h. complete K text plan h.0 h.1)
