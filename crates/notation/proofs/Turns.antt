-- How a reading goes on, for the loops of the reader.
use Rattle.std.proofs.Common.{◌≡◌, ℕ, zero, suc, ◌+◌, ◌-◌, ◌<◌, true, false, List, [], ◌∷◌, ◌++◌, length, get_or, take, drop, Ok, Err, sym, refl, ap, ◌∙◌, ap₂, arith}
use Rattle.std.proofs.lemmas.List.{take_all}
use Rattle.std.proofs.lemmas.Bool.{cond-true, cond-false, eq-eqb, ne_eqb}
use Rattle.notation.specs.declared.Sign.{Sign}
use Rattle.notation.specs.declared.Sign.TheVariants.{Letter, Dot, Open, Close, Caret, Other}
use Rattle.notation.specs.declared.LineFault.{LineFault}
use Rattle.notation.specs.declared.LineFault.TheVariants.{TooManyLines, BadSign, BadSet, NoLetter, TooManySteps, EmptyLine}
use Rattle.notation.specs.declared.PlanRefusal.TheVariants.{Letters, Text, Line}
use Rattle.notation.specs.Reading.{sign_of, Found, found, faulty, every, closed, in_set, set_of, others_of, bracket_of, by_sign, step_of, ended, step, wrong, as_next, next_of, at_last, goes_on_by, steps_of, filled, line_of, by_line, lines_of, between, whole, read_plan}

-- a text without its first byte, as a slice pattern binds it
abbrev pub tail : List ℕ → List ℕ
tail t = take (length t - 1) (drop 1 t)

pub tail_is : (b : ℕ) (t : List ℕ) → tail (b ∷ t) ≡ t
tail_is b t = take_all (length (b ∷ t) - 1) t (omega arith)

-- ---- sets

module _ (K had : ℕ) where
  pub set_by : (t : List ℕ) → 0 < length t → (s : Sign) → s ≡ sign_of K (get_or t 0 0) → set_of K had t ≡ in_set (λ now. set_of K now (tail t)) had (tail t) s
  unfolding set_of
  set_by [] h s e = absurd (omega arith)
  set_by (b ∷ t) h s e = rw (tail_is b t, e)

  pub set_none : (t : List ℕ) → length t < 1 → set_of K had t ≡ faulty BadSet
  unfolding set_of
  set_none [] h = refl
  set_none (b ∷ t) h = absurd (omega arith)

pub set_other : (more : ℕ → Found ℕ) (had : ℕ) (t : List ℕ) (s : Sign) → ((a : ℕ) → s ≡ Letter a → ⊥) → (s ≡ Close → ⊥) → in_set more had t s ≡ faulty BadSet
unfolding in_set
set_other more had t (Letter a) p q = absurd (p a refl)
set_other more had t Dot p q = refl
set_other more had t Open p q = refl
set_other more had t Close p q = absurd (q refl)
set_other more had t Caret p q = refl
set_other more had t Other p q = refl

pub closed_none : (set : ℕ) (t : List ℕ) → set ≡ 0 → closed set t ≡ faulty BadSet
unfolding closed
closed_none set t h = cond-true _ _ _ (eq-eqb set 0 h)

pub closed_some : (set : ℕ) (t : List ℕ) → (set ≡ 0 → ⊥) → closed set t ≡ found set t
unfolding closed
closed_some set t h = cond-false _ _ _ (ne_eqb set 0 h)

-- ---- brackets and steps

pub bracket_others : (K : ℕ) (t : List ℕ) → 0 < length t → get_or t 0 0 ≡ 94 → bracket_of K t ≡ others_of K (set_of K 0 (tail t))
unfolding bracket_of
bracket_others K [] h e = absurd (omega arith)
bracket_others K (b ∷ t) h e = rw (tail_is b t) (cond-true _ _ _ (eq-eqb b 94 e))

pub bracket_set : (K : ℕ) (t : List ℕ) → (0 < length t → get_or t 0 0 ≡ 94 → ⊥) → bracket_of K t ≡ set_of K 0 t
unfolding bracket_of
bracket_set K [] h = sym (set_none K 0 [] (omega arith))
bracket_set K (b ∷ t) h = cond-false _ _ _ (ne_eqb b 94 (h (omega arith)))

pub others_none : (K set : ℕ) (t : List ℕ) → set ≡ every K → others_of K (found set t) ≡ faulty NoLetter
unfolding others_of
others_none K set t h = cond-true _ _ _ (eq-eqb set (every K) h)

pub others_some : (K set : ℕ) (t : List ℕ) → (set ≡ every K → ⊥) → others_of K (found set t) ≡ found (every K - set) t
unfolding others_of
others_some K set t h = cond-false _ _ _ (ne_eqb set (every K) h)

pub others_faulty : (K : ℕ) (f : LineFault) → others_of K (faulty f) ≡ faulty f
unfolding others_of
others_faulty K f = refl

pub step_by : (K : ℕ) (t : List ℕ) → 0 < length t → (s : Sign) → s ≡ sign_of K (get_or t 0 0) → step_of K t ≡ by_sign K (tail t) s
unfolding step_of
step_by K [] h s e = absurd (omega arith)
step_by K (b ∷ t) h s e = rw (tail_is b t, e)

pub step_none : (K : ℕ) (t : List ℕ) → length t < 1 → step_of K t ≡ faulty BadSign
unfolding step_of
step_none K [] h = refl
step_none K (b ∷ t) h = absurd (omega arith)

pub sign_other : (K : ℕ) (t : List ℕ) (s : Sign) → ((a : ℕ) → s ≡ Letter a → ⊥) → (s ≡ Dot → ⊥) → (s ≡ Open → ⊥) → by_sign K t s ≡ faulty BadSign
unfolding by_sign
sign_other K t (Letter a) p q r = absurd (p a refl)
sign_other K t Dot p q r = absurd (q refl)
sign_other K t Open p q r = absurd (r refl)
sign_other K t Close p q r = refl
sign_other K t Caret p q r = refl
sign_other K t Other p q r = refl

-- ---- lines

pub next_end : (K : ℕ) (t : List ℕ) → 0 < length t → get_or t 0 0 ≡ 10 → next_of K t ≡ ended (tail t)
unfolding next_of
next_end K [] h e = absurd (omega arith)
next_end K (b ∷ t) h e = rw (tail_is b t) (cond-true _ _ _ (eq-eqb b 10 e))

pub next_on : (K : ℕ) (t : List ℕ) → (0 < length t → get_or t 0 0 ≡ 10 → ⊥) → next_of K t ≡ as_next (step_of K t)
unfolding next_of as_next
next_on K [] h = sym (ap as_next (step_none K [] (omega arith)))
next_on K (b ∷ t) h = cond-false _ _ _ (ne_eqb b 10 (h (omega arith)))

pub as_wrong : (f : LineFault) → as_next (faulty f) ≡ wrong f
unfolding as_next
as_wrong f = refl

pub as_step : (set : ℕ) (t : List ℕ) → as_next (found set t) ≡ step set t
unfolding as_next
as_step set t = refl

module _ (K : ℕ) (had t : List ℕ) where
  pub steps_end : (room : ℕ) (rest : List ℕ) → next_of K t ≡ ended rest → steps_of K room had t ≡ found had rest
  unfolding steps_of at_last goes_on_by
  steps_end zero rest e = ap (at_last had) e
  steps_end (suc room) rest e = ap (goes_on_by (steps_of K room) had) e

  pub steps_wrong : (room : ℕ) (f : LineFault) → next_of K t ≡ wrong f → steps_of K room had t ≡ faulty f
  unfolding steps_of at_last goes_on_by
  steps_wrong zero f e = ap (at_last had) e
  steps_wrong (suc room) f e = ap (goes_on_by (steps_of K room) had) e

  pub steps_full : (room : ℕ) (set : ℕ) (rest : List ℕ) → room ≡ 0 → next_of K t ≡ step set rest → steps_of K room had t ≡ faulty TooManySteps
  unfolding steps_of at_last
  steps_full zero set rest z e = ap (at_last had) e
  steps_full (suc room) set rest z e = absurd (omega arith)

  pub steps_more : (room less : ℕ) (set : ℕ) (rest : List ℕ) → room ≡ less + 1 → next_of K t ≡ step set rest → steps_of K room had t ≡ steps_of K less (had ++ set ∷ []) rest
  unfolding steps_of goes_on_by
  steps_more zero less set rest z e = absurd (omega arith)
  steps_more (suc room) less set rest z e =
      let same : room ≡ less = omega arith in
      ap (goes_on_by (steps_of K room) had) e ∙ ap (λ (n : ℕ). steps_of K n (had ++ set ∷ []) rest) same

pub filled_none : (p t : List ℕ) → length p ≡ 0 → filled (found p t) ≡ faulty EmptyLine
unfolding filled
filled_none [] t h = refl
filled_none (s ∷ ss) t h = absurd (omega arith)

pub filled_some : (p t : List ℕ) → 0 < length p → filled (found p t) ≡ found p t
unfolding filled
filled_some [] t h = absurd (omega arith)
filled_some (s ∷ ss) t h = refl

pub filled_faulty : (f : LineFault) → filled (faulty f) ≡ faulty f
unfolding filled
filled_faulty f = refl

-- what is left of a line, after the steps that were read
pub line_left : (K L room : ℕ) (t : List ℕ) (n : ℕ) (had rest : List ℕ) (x : Found (List ℕ)) → steps_of L n had rest ≡ steps_of K room [] t → filled (steps_of L n had rest) ≡ x → x ≡ line_of K room t
unfolding line_of
line_left K L room t n had rest x e f = sym f ∙ ap filled e

-- ---- plans

module _ (K : ℕ) (room : ℕ) (had : List (List ℕ)) where
  pub lines_end : (left : ℕ) (t : List ℕ) → length t ≡ 0 → lines_of K left room had t ≡ Ok had
  unfolding lines_of
  lines_end left [] h = refl
  lines_end left (b ∷ t) h = absurd (omega arith)

  pub lines_full : (left : ℕ) (t : List ℕ) → 0 < length t → left ≡ 0 → lines_of K left room had t ≡ Err (Line (length had + 1) TooManyLines)
  unfolding lines_of
  lines_full left [] h z = absurd (omega arith)
  lines_full zero (b ∷ t) h z = refl
  lines_full (suc left) (b ∷ t) h z = absurd (omega arith)

  pub lines_wrong : (left : ℕ) (t : List ℕ) (f : LineFault) → 0 < length t → 0 < left → faulty f ≡ line_of K room t → lines_of K left room had t ≡ Err (Line (length had + 1) f)
  unfolding lines_of by_line
  lines_wrong left [] f h l e = absurd (omega arith)
  lines_wrong zero (b ∷ t) f h l e = absurd (omega arith)
  lines_wrong (suc left) (b ∷ t) f h l e = rw (← e)

  pub lines_more : (left less : ℕ) (t p rest : List ℕ) → 0 < length t → left ≡ less + 1 → found p rest ≡ line_of K room t → lines_of K left room had t ≡ lines_of K less (room - length p) (had ++ p ∷ []) rest
  unfolding lines_of by_line
  lines_more left less [] p rest h l e = absurd (omega arith)
  lines_more zero less (b ∷ t) p rest h l e = absurd (omega arith)
  lines_more (suc left) less (b ∷ t) p rest h l e =
      let same : left ≡ less = omega arith in
      rw (← e) (ap (λ (n : ℕ). lines_of K n (room - length p) (had ++ p ∷ []) rest) same)

pub read_letters : (K : ℕ) (text : List ℕ) → between 1 32 K ≡ false → read_plan K text ≡ Err Letters
unfolding read_plan
read_letters K text e = cond-false _ _ _ e

pub read_text : (K : ℕ) (text : List ℕ) → between 1 32 K ≡ true → whole text ≡ false → read_plan K text ≡ Err Text
unfolding read_plan
read_text K text e f = cond-true _ _ _ e ∙ cond-false _ _ _ f

pub read_lines : (K : ℕ) (text : List ℕ) → between 1 32 K ≡ true → whole text ≡ true → read_plan K text ≡ lines_of K 32 64 [] text
unfolding read_plan
read_lines K text e f = cond-true _ _ _ e ∙ cond-true _ _ _ f

-- a line was read: k patterns and so many steps before it, k' and count' after it
pub lines_again : (K k k' count count' : ℕ) (had had' : List (List ℕ)) (t p q rest : List ℕ)
    → 0 < length t → k < 32 → found p rest ≡ line_of K (64 - count) t → q ≡ p
    → k' ≡ k + 1 → count' ≡ count + length q → had' ≡ had ++ q ∷ []
    → lines_of K (32 - k') (64 - count') had' rest ≡ lines_of K (32 - k) (64 - count) had t
lines_again K k k' count count' had had' t p q rest h l e same ke ce he =
    let more : lines_of K (32 - k) (64 - count) had t ≡ lines_of K (32 - k') (64 - count - length p) (had ++ p ∷ []) rest = lines_more K (64 - count) had (32 - k) (32 - k') t p rest h (omega arith) e in
    let long : length q ≡ length p = ap length same in
    let room : 64 - count' ≡ 64 - count - length p = omega arith in
    let now : had' ≡ had ++ p ∷ [] = he ∙ ap (λ (l : List ℕ). had ++ l ∷ []) same in
    ap₂ (λ (n : ℕ) (x : List (List ℕ)). lines_of K (32 - k') n x rest) room now ∙ sym more

pub whole_none : (text : List ℕ) → length text < 1 → whole text ≡ false
whole_none [] h = refl
whole_none (b ∷ text) h = absurd (omega arith)

pub lines_start : (K : ℕ) (text : List ℕ) {k count : ℕ} {had : List (List ℕ)} → k ≡ 0 → count ≡ 0 → had ≡ [] → lines_of K (32 - k) (64 - count) had text ≡ lines_of K 32 64 [] text
lines_start K text ke ce he = rw (ke, ce, he)
