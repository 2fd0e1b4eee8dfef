-- A line is read if and only if its text is one of the grammar's, and there is room for its steps.
use Rattle.std.proofs.Common.{◌≡◌, ℕ, zero, suc, ◌-◌, ◌^◌, ◌<◌, ◌≤◌, Bool, true, false, cond, eqb, List, [], ◌∷◌, ◌++◌, length, get_or, sym, refl, ap, ◌∙◌, subst, append_assoc, append-nil, arith}
use Rattle.std.proofs.lemmas.Bool.{eqb-true}
use Rattle.notation.specs.Reading.{Found, found, faulty, step_of, Next, ended, step, wrong, as_next, next_of, at_last, goes_on_by, steps_of, filled, line_of}
use Rattle.notation.specs.Grammar.{StepText, LineText, ends, goes}
use Rattle.notation.proofs.Turns.{next_on, next_end, tail_is, as_step, steps_end, steps_more, filled_some}
use Rattle.notation.proofs.Steps.{StepRead, step_read, step_reads, step_begins, step_set}

-- ---- what was read

abbrev NextRead : ℕ → List ℕ → Next → Type 0
NextRead K t (ended rest) = t ≡ 10 ∷ rest
NextRead K t (step set rest) = StepRead K t set rest
NextRead K t (wrong f) = Unit {0}

by_found : (K : ℕ) (t : List ℕ) (y : Found ℕ) → step_of K t ≡ y → NextRead K t (as_next y)
unfolding as_next
by_found K t (found set rest) e = step_read K t set rest e
by_found K t (faulty f) e = tt

next_read : (K : ℕ) (t : List ℕ) → NextRead K t (next_of K t)
unfolding next_of
next_read K [] = tt
next_read K (b ∷ t) = by_test (eqb b 10) refl
  where
    by_test : (x : Bool) → eqb b 10 ≡ x → NextRead K (b ∷ t) (cond x (ended t) (as_next (step_of K (b ∷ t))))
    by_test true p = ap (λ (n : ℕ). n ∷ t) (eqb-true b 10 p)
    by_test false p = by_found K (b ∷ t) (step_of K (b ∷ t)) refl

pub record LineRead (K room : ℕ) (had t p rest : List ℕ) : Type 0 where
  pub front : List ℕ
  pub pattern : List ℕ
  pub is : t ≡ front ++ rest
  pub text : LineText K front pattern
  pub more : p ≡ had ++ pattern
  pub fits : length pattern ≤ room

line_ended : (K room : ℕ) (had t p rest after : List ℕ) → t ≡ 10 ∷ after → found had after ≡ found p rest → LineRead K room had t p rest
line_ended K room had t p rest after n e =
    let same : had ≡ p = cc in
    let behind : after ≡ rest = cc in
    record { front = 10 ∷ []; pattern = []; is = n ∙ ap (λ (l : List ℕ). 10 ∷ l) behind; text = ends; more = sym same ∙ sym (append-nil had); fits = omega arith }

line_goes : (K room : ℕ) (had t p rest : List ℕ) (set : ℕ) (after : List ℕ) → StepRead K t set after → LineRead K room (had ++ set ∷ []) after p rest → LineRead K (suc room) had t p rest
line_goes K room had t p rest set after s r =
    record {
      front = s.front ++ r.front;
      pattern = set ∷ r.pattern;
      is = s.is ∙ ap (λ (l : List ℕ). s.front ++ l) r.is ∙ sym (append_assoc s.front r.front rest);
      text = goes s.front r.front s.text r.text;
      more = r.more ∙ append_assoc had (set ∷ []) r.pattern;
      fits = omega (arith, r.fits);
    }

pub steps_read : (K room : ℕ) (had t p rest : List ℕ) → steps_of K room had t ≡ found p rest → LineRead K room had t p rest
unfolding steps_of at_last goes_on_by
steps_read K zero had t p rest e = by_next (next_of K t) (next_read K t) e
  where
    by_next : (x : Next) → NextRead K t x → at_last had x ≡ found p rest → LineRead K zero had t p rest
    by_next (ended after) n e = line_ended K zero had t p rest after n e
    by_next (step set after) n e = absurd (cc)
    by_next (wrong f) n e = absurd (cc)
steps_read K (suc room) had t p rest e = by_next (λ now after. steps_read K room now after p rest) (next_of K t) (next_read K t) e
  where
    by_next : ((now after : List ℕ) → steps_of K room now after ≡ found p rest → LineRead K room now after p rest) → (x : Next) → NextRead K t x → goes_on_by (steps_of K room) had x ≡ found p rest → LineRead K (suc room) had t p rest
    by_next again (ended after) n e = line_ended K (suc room) had t p rest after n e
    by_next again (step set after) n e = line_goes K room had t p rest set after n (again (had ++ set ∷ []) after e)
    by_next again (wrong f) n e = absurd (cc)

pub line_read : (K room : ℕ) (t p rest : List ℕ) → line_of K room t ≡ found p rest → LineRead K room [] t p rest × (0 < length p)
unfolding line_of filled
line_read K room t p rest e = by_found_line (steps_of K room [] t) refl e
  where
    by_found_line : (y : Found (List ℕ)) → steps_of K room [] t ≡ y → filled y ≡ found p rest → LineRead K room [] t p rest × (0 < length p)
    by_found_line (found [] after) q e = absurd (cc)
    by_found_line (found (s ∷ ss) after) q e = let long : length (s ∷ ss) ≡ length p = ap length (let same : s ∷ ss ≡ p = cc in same) in (steps_read K room [] t p rest (q ∙ e), omega (arith, long))
    by_found_line (faulty f) q e = absurd (cc)

pub line_size : (K room : ℕ) (t p rest : List ℕ) → found p rest ≡ line_of K room t → (0 < length p) × (length p ≤ room)
line_size K room t p rest e = let r = line_read K room t p rest (sym e) in (r.1, omega (arith, r.0.fits, ap length r.0.more))

-- each step of a line admits a letter, and only letters below K
text_sets : (K : ℕ) (x p : List ℕ) → 1 ≤ K → LineText K x p → (k : ℕ) → k < length p → (0 < get_or p k 0) × (get_or p k 0 < 2 ^ K)
text_sets K x p h ends k less = absurd (omega arith)
text_sets K y q h (goes x t {set} {p} s line) zero less = step_set K x set h s
text_sets K y q h (goes x t {set} {p} s line) (suc k) less = text_sets K t p h line k (omega arith)

pub line_sets : (K room : ℕ) (t p rest : List ℕ) → 1 ≤ K → found p rest ≡ line_of K room t → (k : ℕ) → k < length p → (0 < get_or p k 0) × (get_or p k 0 < 2 ^ K)
line_sets K room t p rest h e =
    let r = (line_read K room t p rest (sym e)).0 in
    subst (λ (q : List ℕ). (k : ℕ) → k < length q → (0 < get_or q k 0) × (get_or q k 0 < 2 ^ K)) (sym r.more) (text_sets K r.front r.pattern h r.text)

-- ---- and back

pub next_ends : (K : ℕ) (t : List ℕ) → next_of K (10 ∷ t) ≡ ended t
next_ends K t = next_end K (10 ∷ t) (omega arith) refl ∙ ap ended (tail_is 10 t)

pub next_steps : (K : ℕ) (x : List ℕ) (s : ℕ) (t : List ℕ) → K ≤ 32 → StepText K x s → next_of K (x ++ t) ≡ step s t
next_steps K x s t l text =
    let b = step_begins K x s text in
    let first : get_or (x ++ t) 0 0 ≡ b.first = ap (λ (y : List ℕ). get_or (y ++ t) 0 0) b.is in
    next_on K (x ++ t) (λ h e. b.goes_on (sym first ∙ e)) ∙ ap as_next (step_reads K x s t l text) ∙ as_step s t

pub steps_reads : (K room : ℕ) (had x p rest : List ℕ) → K ≤ 32 → length p ≤ room → LineText K x p → steps_of K room had (x ++ rest) ≡ found (had ++ p) rest
steps_reads K room had x p rest l h ends = steps_end K had (10 ∷ rest) room rest (next_ends K rest) ∙ ap (λ (q : List ℕ). found q rest) (sym (append-nil had))
steps_reads K room had y q rest l h (goes x t {set} {p} s line) =
    ap (steps_of K room had) (append_assoc x t rest)
    ∙ steps_more K had (x ++ (t ++ rest)) room (room - 1) set (t ++ rest) (omega arith) (next_steps K x set (t ++ rest) l s)
    ∙ steps_reads K (room - 1) (had ++ set ∷ []) t p rest l (omega arith) line
    ∙ ap (λ (q : List ℕ). found q rest) (append_assoc had (set ∷ []) p)

pub line_reads : (K room : ℕ) (x p rest : List ℕ) → K ≤ 32 → length p ≤ room → 0 < length p → LineText K x p → line_of K room (x ++ rest) ≡ found p rest
unfolding line_of
line_reads K room x p rest l h some text = ap filled (steps_reads K room [] x p rest l h text) ∙ filled_some p rest some

-- the last byte of a line's text is byte 10
pub record Ended (x : List ℕ) : Type 0 where
  pub before : List ℕ
  pub is : x ≡ before ++ 10 ∷ []

pub line_ends : (K : ℕ) (x p : List ℕ) → LineText K x p → Ended x
line_ends K x p ends = record { before = []; is = refl }
line_ends K y q (goes x t s line) =
    let r = line_ends K t _ line in
    record { before = x ++ r.before; is = ap (λ (l : List ℕ). x ++ l) r.is ∙ sym (append_assoc x r.before (10 ∷ [])) }
