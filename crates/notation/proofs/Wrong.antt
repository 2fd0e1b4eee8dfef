-- Steps and lines that are wrong: what is read as a fault.
use Rattle.std.proofs.Common.{◌≡◌, ℕ, zero, suc, ◌-◌, ◌^◌, ◌<◌, ◌≤◌, Bool, true, false, cond, eqb, List, [], ◌∷◌, ◌++◌, map, length, sym, refl, ap, ◌∙◌, subst, ap₂, append_assoc, append-nil, arith}
use lib.Bits.{bit_or}
use Rattle.std.proofs.lemmas.List.{same_from_push, length-append, length_push}
use Rattle.std.proofs.lemmas.Bool.{eqb-true, eqb-false, eq-eqb, cond-true}
use Rattle.notation.specs.declared.Sign.{Sign}
use Rattle.notation.specs.declared.Sign.TheVariants.{Letter, Dot, Open, Close, Caret, Other}
use Rattle.notation.specs.declared.LineFault.{LineFault}
use Rattle.notation.specs.declared.LineFault.TheVariants.{BadSign, BadSet, NoLetter, TooManySteps}
use Rattle.notation.specs.Reading.{sign_of, Found, found, faulty, every, closed, in_set, set_of, others_of, bracket_of, by_sign, step_of, Next, ended, step, wrong, as_next, next_of, at_last, goes_on_by, steps_of}
use Rattle.notation.specs.Grammar.{byte_of, Below, Among, SetOf, StepText, letter, dot, one_of, none_of}
use Rattle.notation.specs.Refusals.{StepsText, none, more, WrongSet, no_set, no_other, WrongStep, no_sign, wrong_set, one_too_many}
use Rattle.notation.proofs.Signs.{letter_means, dot_means, open_means, letter_sign_lem, dot_sign, open_sign}
use Rattle.notation.proofs.Sets.{union, set_read, set_reads}
use Rattle.notation.proofs.Steps.{StepRead, step_read, letter_byte, union_set, every_set, some_letters, none_none, bracket_read, bracket_one, one_set}
use Rattle.notation.proofs.Turns.{next_on, as_wrong, steps_wrong, steps_full, steps_more}
use Rattle.notation.proofs.Lines.{Ended, next_steps}

same_fault : {A : Type 0} (f g : LineFault) → ◌≡◌ {A = Found A} (faulty f) (faulty g) → f ≡ g
same_fault f g e = cc

-- ---- sets

set_wrong : (K had : ℕ) (t : List ℕ) (f : LineFault) → set_of K had t ≡ faulty f → f ≡ BadSet
unfolding set_of in_set closed
set_wrong K had [] f e = sym (same_fault BadSet f e)
set_wrong K had (b ∷ t) f e = by_sign_lem (λ now. set_wrong K now t f) (sign_of K b) e
  where
    by_test : (x : Bool) → cond x (faulty BadSet) (found had t) ≡ faulty f → f ≡ BadSet
    by_test true e = sym (same_fault BadSet f e)
    by_test false e = absurd (cc)

    by_sign_lem : ((now : ℕ) → set_of K now t ≡ faulty f → f ≡ BadSet) → (x : Sign) → in_set (λ now. set_of K now t) had t x ≡ faulty f → f ≡ BadSet
    by_sign_lem again (Letter a) e = again (bit_or had (2 ^ a)) e
    by_sign_lem again Dot e = sym (same_fault BadSet f e)
    by_sign_lem again Open e = sym (same_fault BadSet f e)
    by_sign_lem again Close e = by_test (eqb had 0) e
    by_sign_lem again Caret e = sym (same_fault BadSet f e)
    by_sign_lem again Other e = sym (same_fault BadSet f e)

others_never : (K set : ℕ) (rest : List ℕ) → others_of K (found set rest) ≡ faulty BadSet → ⊥
unfolding others_of
others_never K set rest e = by_test (eqb set (every K)) e
  where
    by_test : (x : Bool) → cond x (faulty NoLetter) (found (every K - set) rest) ≡ faulty BadSet → ⊥
    by_test true e = cc
    by_test false e = cc

bracket_caret : (K : ℕ) (ls rest : List ℕ) → K ≤ 32 → 0 < length ls → Below K ls → bracket_of K (94 ∷ (map byte_of ls ++ 93 ∷ rest)) ≡ others_of K (found (union 0 ls) rest)
unfolding bracket_of
bracket_caret K ls rest l h b = ap (others_of K) (set_reads K 0 ls rest l b (some_letters ls h))

nothing_there : (K : ℕ) (t : List ℕ) → K ≤ 32 → bracket_of K t ≡ faulty BadSet → WrongSet K t BadSet
nothing_there K t l e =
    no_set (λ ls rest h b. (
      λ p. let z : faulty BadSet ≡ found (union 0 ls) rest = sym e ∙ ap (bracket_of K) p ∙ bracket_one K ls rest l h b in cc,
      λ p. others_never K (union 0 ls) rest (sym (bracket_caret K ls rest l h b) ∙ sym (ap (bracket_of K) p) ∙ e),
    ))

bracket_wrong : (K : ℕ) (t : List ℕ) (f : LineFault) → K ≤ 32 → bracket_of K t ≡ faulty f → WrongSet K t f
unfolding bracket_of others_of
bracket_wrong K [] f l e = let same : f ≡ BadSet = sym (same_fault BadSet f e) in subst (WrongSet K []) (sym same) (nothing_there K [] l refl)
bracket_wrong K (b ∷ t) f l e = by_test (eqb b 94) refl e
  where
    -- what was read is a fault of the set
    as_set : f ≡ BadSet → WrongSet K (b ∷ t) f
    as_set same = subst (WrongSet K (b ∷ t)) (sym same) (nothing_there K (b ∷ t) l (e ∙ ap faulty same))

    by_all : (set : ℕ) (rest : List ℕ) → eqb b 94 ≡ true → set_of K 0 t ≡ found set rest → (x : Bool) → eqb set (every K) ≡ x → cond x (faulty NoLetter) (found (every K - set) rest) ≡ faulty f → WrongSet K (b ∷ t) f
    by_all set rest p q true z e =
        let r = set_read K 0 t set rest q in
        let is : union 0 r.letters ≡ every K = sym r.set ∙ eqb-true set (every K) z in
        let all : SetOf K (λ a. Among a r.letters) (every K) = subst (SetOf K (λ a. Among a r.letters)) is (union_set K r.letters r.below) in
        subst (WrongSet K (b ∷ t)) (same_fault NoLetter f e)
        (no_other r.letters rest (none_none r.letters (λ w. r.some (r.set ∙ w))) r.below (ap₂ ◌∷◌ (eqb-true b 94 p) r.is) (λ a less. (all.holds a less).0 (((every_set K).holds a less).1 tt)))
    by_all set rest p q false z e = absurd (cc)

    by_read : eqb b 94 ≡ true → (y : Found ℕ) → set_of K 0 t ≡ y → others_of K y ≡ faulty f → WrongSet K (b ∷ t) f
    by_read p (found set rest) q e = by_all set rest p q (eqb set (every K)) refl e
    by_read p (faulty g) q e = as_set (sym (same_fault g f e) ∙ set_wrong K 0 t g q)

    by_test : (x : Bool) → eqb b 94 ≡ x → cond x (others_of K (set_of K 0 t)) (set_of K 0 (b ∷ t)) ≡ faulty f → WrongSet K (b ∷ t) f
    by_test true p e = by_read p (set_of K 0 t) refl e
    by_test false p e = as_set (set_wrong K 0 (b ∷ t) f e)

-- ---- steps

step_wrong : (K room b : ℕ) (t : List ℕ) (f : LineFault) → K ≤ 32 → (b ≡ 10 → ⊥) → step_of K (b ∷ t) ≡ faulty f → WrongStep K room (b ∷ t) f
unfolding step_of by_sign
step_wrong K room b t f l n e = by_sign_lem (sign_of K b) refl e
  where
    as_sign : (x : Sign) → x ≡ sign_of K b → ((a : ℕ) → x ≡ Letter a → ⊥) → (x ≡ Dot → ⊥) → (x ≡ Open → ⊥) → BadSign ≡ f → WrongStep K room (b ∷ t) f
    as_sign x p r s u same =
        subst (WrongStep K room (b ∷ t)) same
        (no_sign b t refl
        (λ a less q. r a (p ∙ ap (sign_of K) q ∙ letter_sign_lem K a less l))
        (λ q. s (p ∙ ap (sign_of K) q ∙ dot_sign K))
        (λ q. u (p ∙ ap (sign_of K) q ∙ open_sign K))
        n)

    by_sign_lem : (x : Sign) → x ≡ sign_of K b → by_sign K t x ≡ faulty f → WrongStep K room (b ∷ t) f
    by_sign_lem (Letter a) p e = absurd (cc)
    by_sign_lem Dot p e = absurd (cc)
    by_sign_lem Open p e = wrong_set t (ap (λ (m : ℕ). m ∷ t) (open_means K b p)) (bracket_wrong K t f l e)
    by_sign_lem Close p e = as_sign Close p (λ a q. cc) (λ q. cc) (λ q. cc) (same_fault BadSign f e)
    by_sign_lem Caret p e = as_sign Caret p (λ a q. cc) (λ q. cc) (λ q. cc) (same_fault BadSign f e)
    by_sign_lem Other p e = as_sign Other p (λ a q. cc) (λ q. cc) (λ q. cc) (same_fault BadSign f e)

-- ---- the end of the text stays in sight

-- the last byte of a step's text is not byte 10
record Closes (x : List ℕ) : Type 0 where
  init : List ℕ
  last : ℕ
  is : x ≡ init ++ last ∷ []
  goes_on : last ≡ 10 → ⊥

step_closes : (K : ℕ) (x : List ℕ) (s : ℕ) → StepText K x s → Closes x
step_closes K x s (letter a h set) = record { init = []; last = byte_of a; is = refl; goes_on = (letter_byte a).1 }
step_closes K x s (dot set) = record { init = []; last = 46; is = refl; goes_on = λ e. omega arith }
step_closes K x s (one_of ls h b set) = record { init = 91 ∷ map byte_of ls; last = 93; is = refl; goes_on = λ e. omega arith }
step_closes K x s (none_of ls h b set some) = record { init = 91 ∷ 94 ∷ map byte_of ls; last = 93; is = refl; goes_on = λ e. omega arith }

pub ended_behind : (x rest before : List ℕ) → 0 < length rest → x ++ rest ≡ before ++ 10 ∷ [] → Ended rest
ended_behind [] rest before h e = record { before = before; is = e }
ended_behind (a ∷ x) [] [] h e = absurd (omega arith)
ended_behind (a ∷ x) (r ∷ rest) [] h e = let none : x ++ (r ∷ rest) ≡ [] = cc in absurd (omega (arith, ap length none, length-append x (r ∷ rest)))
ended_behind (a ∷ x) rest (b ∷ before) h e = let same : x ++ rest ≡ before ++ 10 ∷ [] = cc in ended_behind x rest before h same

ended_after : (K : ℕ) (t : List ℕ) (s : ℕ) (rest : List ℕ) → Ended t → StepRead K t s rest → Ended rest
ended_after K t s [] e r =
    let c = step_closes K r.front s r.text in
    absurd (c.goes_on (same_from_push c.init e.before c.last 10 (sym c.is ∙ sym (append-nil r.front) ∙ sym r.is ∙ e.is)).1)
ended_after K t s (b ∷ rest) e r = ended_behind r.front (b ∷ rest) e.before (omega arith) (sym r.is ∙ e.is)

-- ---- the steps of a line

abbrev NextFails : ℕ → ℕ → List ℕ → Next → Type 0
NextFails K room t (ended rest) = Unit {0}
NextFails K room t (step set rest) = StepRead K t set rest
NextFails K room t (wrong f) = WrongStep K room t f

next_fails : (K room : ℕ) (t : List ℕ) → K ≤ 32 → 0 < length t → NextFails K room t (next_of K t)
unfolding next_of as_next
next_fails K room [] l h = absurd (omega arith)
next_fails K room (b ∷ t) l h = by_test (eqb b 10) refl
  where
    by_step : (b ≡ 10 → ⊥) → (y : Found ℕ) → step_of K (b ∷ t) ≡ y → NextFails K room (b ∷ t) (as_next y)
    by_step n (found set rest) q = step_read K (b ∷ t) set rest q
    by_step n (faulty f) q = step_wrong K room b t f l n q

    by_test : (x : Bool) → eqb b 10 ≡ x → NextFails K room (b ∷ t) (cond x (ended t) (as_next (step_of K (b ∷ t))))
    by_test true p = tt
    by_test false p = by_step (eqb-false b 10 p) (step_of K (b ∷ t)) refl

-- the steps p are right, and then one is wrong
pub record StepsFail (K room : ℕ) (t : List ℕ) (f : LineFault) : Type 0 where
  pub p : List ℕ
  pub front : List ℕ
  pub here : List ℕ
  pub is : t ≡ front ++ here
  pub right : StepsText K front p
  pub fits : length p ≤ room
  pub fails : WrongStep K (room - length p) here f

fails_here : (K room : ℕ) (t : List ℕ) (f : LineFault) → WrongStep K room t f → StepsFail K room t f
fails_here K room t f w = let all : room - 0 ≡ room = omega arith in record { p = []; front = []; here = t; is = refl; right = none; fits = omega arith; fails = rw all w }

fails_later : (K room : ℕ) (t : List ℕ) (f : LineFault) (set : ℕ) (after : List ℕ) → StepRead K t set after → StepsFail K room after f → StepsFail K (suc room) t f
fails_later K room t f set after s r =
    let left : suc room - length (set ∷ r.p) ≡ room - length r.p = omega arith in
    record {
      p = set ∷ r.p;
      front = s.front ++ r.front;
      here = r.here;
      is = s.is ∙ ap (λ (l : List ℕ). s.front ++ l) r.is ∙ sym (append_assoc s.front r.front r.here);
      right = more s.front r.front s.text r.right;
      fits = omega (arith, r.fits);
      fails = subst (λ (n : ℕ). WrongStep K n r.here f) (sym left) r.fails;
    }

pub some_left : (t : List ℕ) → Ended t → 0 < length t
some_left t e = omega (arith, ap length e.is, length_push e.before 10)

pub steps_fail : (K room : ℕ) (had t : List ℕ) (f : LineFault) → K ≤ 32 → Ended t → steps_of K room had t ≡ faulty f → StepsFail K room t f
unfolding steps_of at_last goes_on_by
steps_fail K zero had t f l d e = by_next (next_of K t) (next_fails K zero t l (some_left t d)) e
  where
    by_next : (x : Next) → NextFails K zero t x → at_last had x ≡ faulty f → StepsFail K zero t f
    by_next (ended after) n e = absurd (cc)
    by_next (step set after) n e = fails_here K zero t f (subst (WrongStep K zero t) (same_fault TooManySteps f e) (one_too_many n.front after n.is n.text refl))
    by_next (wrong g) n e = fails_here K zero t f (subst (WrongStep K zero t) (same_fault g f e) n)
steps_fail K (suc room) had t f l d e = by_next (λ now after. steps_fail K room now after f l) (next_of K t) (next_fails K (suc room) t l (some_left t d)) e
  where
    by_next : ((now after : List ℕ) → Ended after → steps_of K room now after ≡ faulty f → StepsFail K room after f) → (x : Next) → NextFails K (suc room) t x → goes_on_by (steps_of K room) had x ≡ faulty f → StepsFail K (suc room) t f
    by_next again (ended after) n e = absurd (cc)
    by_next again (step set after) n e = fails_later K room t f set after n (again (had ++ set ∷ []) after (ended_after K t set after d n) e)
    by_next again (wrong g) n e = fails_here K (suc room) t f (subst (WrongStep K (suc room) t) (same_fault g f e) n)

-- ---- and back

bracket_fails : (K : ℕ) (t : List ℕ) (f : LineFault) → K ≤ 32 → WrongSet K t f → bracket_of K t ≡ faulty f
unfolding others_of
bracket_fails K t f l (no_other ls rest h b is all) =
    let whole : union 0 ls ≡ every K = one_set K (λ a. Among a ls) (union 0 ls) (every K) (union_set K ls b) (record { small = (every_set K).small; holds = λ a less. (λ e. all a less, λ m. ((every_set K).holds a less).1 tt) }) in
    ap (bracket_of K) is ∙ bracket_caret K ls rest l h b ∙ cond-true _ _ _ (eq-eqb (union 0 ls) (every K) whole)
bracket_fails K t f l (no_set never) = by_read (bracket_of K t) refl
  where
    by_text : (x rest : List ℕ) (s : ℕ) → 91 ∷ t ≡ x ++ rest → StepText K x s → ⊥
    by_text x rest s e (letter a h set) = let same : byte_of a ≡ 91 = cc in (letter_byte a).2 same
    by_text x rest s e (dot set) = let same : ◌≡◌ {A = ℕ} 91 46 = cc in omega arith
    by_text x rest s e (one_of ls h b set) = let same : t ≡ (map byte_of ls ++ 93 ∷ []) ++ rest = cc in (never ls rest h b).0 (same ∙ append_assoc (map byte_of ls) (93 ∷ []) rest)
    by_text x rest s e (none_of ls h b set some) = let same : t ≡ 94 ∷ ((map byte_of ls ++ 93 ∷ []) ++ rest) = cc in (never ls rest h b).1 (same ∙ ap (λ (l : List ℕ). 94 ∷ l) (append_assoc (map byte_of ls) (93 ∷ []) rest))

    by_wrong : (g : LineFault) → WrongSet K t g → ◌≡◌ {A = Found ℕ} (faulty g) (faulty BadSet)
    by_wrong g (no_set n) = refl
    by_wrong g (no_other ls rest h b is all) = absurd ((never ls rest h b).1 is)

    by_read : (y : Found ℕ) → bracket_of K t ≡ y → y ≡ faulty BadSet
    by_read (found s rest) q = let r = bracket_read K t s rest q in absurd (by_text r.front rest s r.is r.text)
    by_read (faulty g) q = by_wrong g (bracket_wrong K t g l q)

step_fails : (K : ℕ) (b : ℕ) (rest : List ℕ) → ((a : ℕ) → a < K → b ≡ byte_of a → ⊥) → (b ≡ 46 → ⊥) → (b ≡ 91 → ⊥) → step_of K (b ∷ rest) ≡ faulty BadSign
unfolding step_of by_sign
step_fails K b rest r s u = by_sign_lem (sign_of K b) refl
  where
    by_sign_lem : (x : Sign) → x ≡ sign_of K b → by_sign K rest x ≡ faulty BadSign
    by_sign_lem (Letter a) p = let m = letter_means K b a p in absurd (r a m.0 m.1)
    by_sign_lem Dot p = absurd (s (dot_means K b p))
    by_sign_lem Open p = absurd (u (open_means K b p))
    by_sign_lem Close p = refl
    by_sign_lem Caret p = refl
    by_sign_lem Other p = refl

open_fails : (K : ℕ) (rest : List ℕ) (f : LineFault) → bracket_of K rest ≡ faulty f → step_of K (91 ∷ rest) ≡ faulty f
unfolding step_of by_sign
open_fails K rest f e = ap (by_sign K rest) (open_sign K) ∙ e

next_faulty : (K b : ℕ) (rest : List ℕ) (f : LineFault) → (b ≡ 10 → ⊥) → step_of K (b ∷ rest) ≡ faulty f → next_of K (b ∷ rest) ≡ wrong f
next_faulty K b rest f n e = next_on K (b ∷ rest) (λ h. n) ∙ ap as_next e ∙ as_wrong f

pub here_fails : (K room : ℕ) (had t : List ℕ) (f : LineFault) → K ≤ 32 → WrongStep K room t f → steps_of K room had t ≡ faulty f
here_fails K room had t f l (no_sign b rest is r s u n) = ap (steps_of K room had) is ∙ steps_wrong K had (b ∷ rest) room BadSign (next_faulty K b rest BadSign n (step_fails K b rest r s u))
here_fails K room had t f l (wrong_set rest is w) =
    ap (steps_of K room had) is ∙ steps_wrong K had (91 ∷ rest) room f (next_faulty K 91 rest f (λ e. omega arith) (open_fails K rest f (bracket_fails K rest f l w)))
here_fails K room had t f l (one_too_many x rest {set} is text full) = ap (steps_of K room had) is ∙ steps_full K had (x ++ rest) room set rest full (next_steps K x set rest l text)

pub steps_before : (K room : ℕ) (had x p here : List ℕ) → K ≤ 32 → length p ≤ room → StepsText K x p → steps_of K room had (x ++ here) ≡ steps_of K (room - length p) (had ++ p) here
steps_before K room had x p here l h none = let all : room - 0 ≡ room = omega arith in ap₂ (λ (n : ℕ) (q : List ℕ). steps_of K n q here) (sym all) (sym (append-nil had))
steps_before K room had y q here l h (more x t {set} {p} s rest) =
    let left : (room - 1) - length p ≡ room - length (set ∷ p) = omega arith in
    ap (steps_of K room had) (append_assoc x t here)
    ∙ steps_more K had (x ++ (t ++ here)) room (room - 1) set (t ++ here) (omega arith) (next_steps K x set (t ++ here) l s)
    ∙ steps_before K (room - 1) (had ++ set ∷ []) t p here l (omega arith) rest
    ∙ ap₂ (λ (n : ℕ) (q : List ℕ). steps_of K n q here) left (append_assoc had (set ∷ []) p)
