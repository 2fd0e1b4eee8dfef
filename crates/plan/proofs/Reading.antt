-- What a result of reading says of the text, and how the reading begins.
use Rattle.std.proofs.Common.{◌≡◌, ℕ, ◌-◌, ◌<◌, ◌≤◌, Bool, true, false, cond, List, [], length, Ok, Err, Result, sym, refl, ap, ◌∙◌, subst, arith}
use Rattle.std.specs.Result.{MatchResult, IsErrAnd, is_ok}
use Rattle.notation.specs.declared.PlanRefusal.{PlanRefusal}
use Rattle.notation.specs.declared.PlanRefusal.TheVariants.{Letters}
use Rattle.notation.specs.Reading.{found, between, line_of, lines_of, whole, read_plan}
use Rattle.notation.proofs.Plans.{reads_what_is_written_lem}
use Rattle.notation.proofs.Refusing.{refuses_for_its_reason_lem}
use Rattle.notation.proofs.Lines.{line_size, line_sets}
use Rattle.notation.proofs.Turns.{read_letters, read_lines, lines_start}
use Rattle.pattern.specs.Fits.{rests}
use Rattle.plan.specs.Sets.{Steps}
use Rattle.plan.specs.Spans.{items}
use Rattle.plan.specs.Views.{letters_of, patterns_of, planned, Right, empty_plan, Room}
use Rattle.plan.specs.declared.Plan.{Plan}
use Rattle.plan.proofs.Building.{length_plan}

pub right : (K : ℕ) (text : List ℕ) (r : Result Plan PlanRefusal) → planned r ≡ read_plan K text → Right K text r
right K text (Ok plan) e = (reads_what_is_written_lem K text (patterns_of plan)).0 (sym e)
right K text (Err e) f = (refuses_for_its_reason_lem K text e).0 (sym f)

-- ---- the empty plan is what the reading begins with

abbrev Answer : Type 0
Answer = Result (List (List ℕ)) PlanRefusal

same_plan : (x y : List (List ℕ)) → ◌≡◌ {A = Answer} (Ok x) (Ok y) → x ≡ y
same_plan x y e = cc

pub emptied : (K : ℕ) (had : List (List ℕ)) → Ok had ≡ empty_plan K → (between 1 32 K ≡ true) × (had ≡ [])
emptied K had e = go (between 1 32 K) refl e
  where
    go : (x : Bool) → between 1 32 K ≡ x → ◌≡◌ {A = Answer} (Ok had) (cond x (Ok []) (Err Letters)) → (between 1 32 K ≡ true) × (had ≡ [])
    go true p e = (p, same_plan had [] e)
    go false p e = absurd (cc)

pub refused : (K : ℕ) (text : List ℕ) (f : PlanRefusal) → Err f ≡ empty_plan K → Err f ≡ read_plan K text
refused K text f e = go (between 1 32 K) refl e
  where
    go : (x : Bool) → between 1 32 K ≡ x → ◌≡◌ {A = Answer} (Err f) (cond x (Ok []) (Err Letters)) → Err f ≡ read_plan K text
    go true p e = absurd (cc)
    go false p e = e ∙ sym (read_letters K text p)

pub begun : (K : ℕ) (text : List ℕ) (plan : Plan) → Ok (patterns_of plan) ≡ empty_plan K → lines_of K (32 - length (items plan.spans)) (64 - length (items plan.steps)) (patterns_of plan) text ≡ lines_of K 32 64 [] text
unfolding rests
begun K text plan e =
    let none : patterns_of plan ≡ [] = (emptied K (patterns_of plan) e).1 in
    lines_start K text (sym (length_plan plan) ∙ ap length none) (sym plan.tables.counted ∙ ap (λ (x : List (List ℕ)). length (rests x)) none) none

-- of a whole text over such an alphabet the lines are read
pub lines : (K : ℕ) (text : List ℕ) (plan : Plan) → Ok (patterns_of plan) ≡ empty_plan K → true ≡ whole text → lines_of K 32 64 [] text ≡ read_plan K text
lines K text plan e h = sym (read_lines K text (emptied K (patterns_of plan) e).0 (sym h))

-- there is room for a line that was read
pub room : (K : ℕ) (plan : Plan) (t p q rest : List ℕ) → letters_of plan ≡ K → length (items plan.spans) < 32 → length (items plan.steps) ≤ 64 → q ≡ p → found p rest ≡ line_of K (64 - length (items plan.steps)) t → Room plan q
room K plan t p q rest letters few small same e =
    let size = line_size K (64 - length (items plan.steps)) t p rest e in
    let long : length q ≡ length p = ap length same in
    let some : 1 ≤ K = omega (arith, plan.alphabet.some) in
    record {
      some = omega (arith, size.0);
      steps = omega (arith, size.1);
      patterns = few;
      sets = subst (λ (k : ℕ). Steps k q) (sym letters) (subst (Steps K) (sym same) (line_sets K (64 - length (items plan.steps)) t p rest some e));
    }

-- ---- a result whose error was mapped

pub ok_before : {X E D : Type 0} (r : Result X E) (s : Result X D) (Q : E → Type 0) (x : X) → MatchResult r (λ y. s ≡ Ok y) Q → is_ok s ≡ is_ok r → s ≡ Ok x → r ≡ Ok x
ok_before (Ok y) s Q x is same e = let z : ◌≡◌ {A = Result _ _} (Ok y) (Ok x) = sym is ∙ e in let w : y ≡ x = cc in ap Ok w
ok_before (Err f) s Q x is same e = let z : true ≡ false = ap is_ok (sym e) ∙ same in cc

pub err_before : {X E D : Type 0} (r : Result X E) (s : Result X D) (P : E → D → Type 0) (h : E → D) (d : D) → MatchResult r (λ y. s ≡ Ok y) (λ e. IsErrAnd s (P e)) → ((e : E) (d : D) → P e d → d ≡ h e) → s ≡ Err d → (e : E) × (r ≡ Err e) × (d ≡ h e)
err_before (Ok y) s P h d is gives e = let z : s ≡ Ok y = is in cc
err_before (Err f) (Ok y) P h d is gives e = absurd is
err_before (Err f) (Err g) P h d is gives e = let z : g ≡ d = cc in (f, refl, sym z ∙ gives f g is)
