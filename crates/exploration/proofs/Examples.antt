-- The worked examples hold by computation.
use Rattle.std.proofs.Common.{◌≡◌, ℕ, zero, suc, ◌<◌, ◌≤◌, Bool, true, false, ◌&&◌, eqb, ltb, ◌≢◌, ◌↔◌, List, [], ◌∷◌, length, get_or, Some, None, Option, sym, refl, ap, ◌∙◌, subst, inl, inr, arith}
use mathlib.Core.Bool.{false≢true}
use Rattle.std.proofs.lemmas.Bool.{cases_eq, ltb-true, and_parts, and_from, eqb-true, eq-eqb, both_ways}
use Rattle.pattern.specs.Examples.{aba}
use Rattle.pattern.specs.Patterns.{admits}
use Rattle.pattern.specs.Fits.{fitting, tails, rests, steps_where, bit, admits_first, is_last, opening, opens, first_step}
use Rattle.pattern.specs.Images.{images_of}
use Rattle.pattern.specs.Laws.{Wellformed}
use Rattle.automaton.specs.Automata.{Automaton}
use Rattle.automaton.specs.Wrong.{NoWrong}
use Rattle.automaton.specs.Examples.{aba_sheet}
use Rattle.automaton.specs.Machines.{Outcome, dead, wrong, to, Machine}
use Rattle.automaton.specs.Judging.{Node, judge}
use Rattle.exploration.specs.Stage.{Table}
use Rattle.exploration.specs.Drawing.{drawing, Leads, ReadOff}
use Rattle.exploration.specs.Explore.{Entry, Lawful, Turn, Verdict, complete, fault, overflow, stop, explore, begin, enough, view, Right}
use Rattle.exploration.specs.Examples.{same_node, exploring, unmarked, unlinked, Judgements}
use Rattle.exploration.specs.Pairs.{FirstWrong, HoldsPairs, VerdictsTell}
use Rattle.exploration.proofs.Drawing.{drawing_is_right_lem}
use Rattle.exploration.proofs.Explore.{explores}
use Rattle.exploration.proofs.Pairs.{verdicts_are_right_lem}

-- what the exploration of a machine comes to; and of a sheet of ABA
abbrev outcome : Machine Node → ℕ → Turn Node
outcome M room = explore (exploring 26 M room) (enough (exploring 26 M room)) (begin (exploring 26 M room))

abbrev result : Automaton → ℕ → Turn Node
result sheet room = outcome (judge (fitting aba) sheet) room

abbrev entry : Node → ℕ → ℕ → Entry Node
entry n parent letter = record { node = n; parent = parent; letter = letter }

abbrev one : List (Entry Node)
one = entry (1, 0, 0) 0 0 ∷ []

abbrev four : List (Entry Node)
four = entry (1, 0, 0) 0 0 ∷ entry (2, 4, 1) 0 0 ∷ entry (3, 0, 2) 0 1 ∷ entry (4, 2, 0) 1 1 ∷ []

abbrev six : List (Entry Node)
six = entry (1, 0, 0) 0 0 ∷ entry (2, 4, 1) 0 0 ∷ entry (3, 0, 2) 0 1 ∷ entry (4, 2, 0) 1 1 ∷ entry (5, 0, 1) 2 0 ∷ entry (6, 1, 0) 3 0 ∷ []

result_aba : result aba_sheet 6 ≡ stop (complete six)
unfolding explore judge tails rests steps_where admits admits_first is_last opening opens first_step bit
result_aba = refl

result_unmarked : result unmarked 6 ≡ stop (fault one (0 ∷ []))
unfolding explore judge tails rests steps_where admits admits_first is_last opening opens first_step bit
result_unmarked = refl

result_unlinked : result unlinked 4 ≡ stop (fault four (0 ∷ 1 ∷ []))
unfolding explore judge tails rests steps_where admits admits_first is_last opening opens first_step bit
result_unlinked = refl

result_full : result unlinked 3 ≡ stop (overflow (1 ∷ 0 ∷ []))
unfolding explore judge tails rests steps_where admits admits_first is_last opening opens first_step bit
result_full = refl

-- ---- from the results to the words

well : Wellformed aba
unfolding rests tails
well = record { nonempty = nonempty; filled = filled; few = omega arith }
  where
    nonempty : (j : ℕ) → j < 1 → 0 < length (get_or aba j [])
    nonempty zero l = omega arith
    nonempty (suc j) l = absurd (omega arith)

    filled : (j i : ℕ) → i < length (get_or aba j []) → 0 < get_or (get_or aba j []) i 0
    filled zero zero l = omega arith
    filled zero (suc zero) l = omega arith
    filled zero (suc (suc zero)) l = omega arith
    filled zero (suc (suc (suc i))) l = absurd (omega arith)
    filled (suc j) i l = absurd (omega arith)

same_parts : (x y : Node) → same_node x y ≡ true → x ≡ y
same_parts x y h =
    let a = and_parts (eqb x.0 y.0) (eqb x.1 y.1 && eqb x.2 y.2) h in
    let b = and_parts (eqb x.1 y.1) (eqb x.2 y.2) a.1 in
    λ i. (eqb-true x.0 y.0 a.0 i, eqb-true x.1 y.1 b.0 i, eqb-true x.2 y.2 b.1 i)

other_parts : (x y : Node) → same_node x y ≡ false → x ≢ y
other_parts x y h e = both_ways (same_node x y) h (and_from (eqb x.0 y.0) (eqb x.1 y.1 && eqb x.2 y.2) (eq-eqb x.0 y.0 (ap (λ (z : Node). z.0) e)) (and_from (eqb x.1 y.1) (eqb x.2 y.2) (eq-eqb x.1 y.1 (ap (λ (z : Node). z.1) e)) (eq-eqb x.2 y.2 (ap (λ (z : Node). z.2) e))))

lawful_task : (M : Machine Node) (room : ℕ) → 0 < room → Lawful (exploring 26 M room)
lawful_task M room some = record { tells_same = same_parts; tells_other = other_parts; room = some }

stop_inj : {v w : Verdict Node} → ◌≡◌ {A = Turn Node} (stop v) (stop w) → v ≡ w
stop_inj h = cc

right : (M : Machine Node) (room : ℕ) → 0 < room → (v : Verdict Node) → outcome M room ≡ stop v → Right (exploring 26 M room) v
right M room some v e =
    let r = explores (exploring 26 M room) (lawful_task M room some) in
    subst (Right (exploring 26 M room)) (stop_inj (sym r.1 ∙ e)) r.2

-- ---- the sheet of ABA is read off the table of its fits

abbrev fits_table : List (Entry Node)
fits_table = entry (0, 0, 0) 0 0 ∷ entry (0, 4, 1) 0 0 ∷ entry (0, 0, 2) 0 1 ∷ entry (0, 2, 0) 1 1 ∷ entry (0, 0, 1) 2 0 ∷ entry (0, 1, 0) 3 0 ∷ []

abbrev T : Table Node
T = view (exploring 26 (drawing (fitting aba)) 6) fits_table

result_fits : outcome (drawing (fitting aba)) 6 ≡ stop (complete fits_table)
unfolding explore drawing tails rests steps_where admits admits_first is_last opening opens first_step bit
result_fits = refl

-- the test holds of each number below n
all_below : ℕ → (ℕ → Bool) → Bool
all_below zero p = true
all_below (suc n) p = p n && all_below n p

below : (n : ℕ) (p : ℕ → Bool) → all_below n p ≡ true → (k : ℕ) → k < n → p k ≡ true
unfolding all_below
below zero p h k l = absurd (omega arith)
below (suc n) p h k l =
    let b = and_parts (p n) (all_below n p) h in
    elim (cases_eq k n) [ inl e ↦ ap p e ∙ b.0 | inr ne ↦ below n p b.1 k (omega arith) ]

-- the arrow stands for the outcome, as a test
leads : Outcome Node → Option ℕ → Bool
leads dead None = true
leads dead (Some q) = false
leads wrong None = true
leads wrong (Some q) = false
leads (to n) None = false
leads (to n) (Some zero) = false
leads (to n) (Some (suc j)) = ltb j 6 && same_node (T.node j) n

leads_true : (o : Outcome Node) (x : Option ℕ) → leads o x ≡ true → Leads T o x
unfolding leads
leads_true dead None h = refl
leads_true dead (Some q) h = absurd (false≢true h)
leads_true wrong None h = refl
leads_true wrong (Some q) h = absurd (false≢true h)
leads_true (to n) None h = absurd (false≢true h)
leads_true (to n) (Some zero) h = absurd (false≢true h)
leads_true (to n) (Some (suc j)) h = let b = and_parts (ltb j 6) (same_node (T.node j) n) h in (j, ltb-true j 6 b.0, same_parts (T.node j) n b.1, refl)

step_test : ℕ → ℕ → Bool
step_test k a = leads ((drawing (fitting aba)).step (T.node k) a) (aba_sheet.arrow (suc k) a)

row_test : ℕ → Bool
row_test k = all_below 26 (step_test k)

all_steps_lem : all_below 6 row_test ≡ true
unfolding all_below leads step_test row_test drawing tails rests steps_where admits admits_first is_last opening opens
all_steps_lem = refl

off : ReadOff 26 (fitting aba) T aba_sheet
unfolding row_test step_test tails rests first_step bit opens opening
off = record { arrows = λ k a lk la. leads_true _ _ (below 26 (step_test k) (below 6 row_test all_steps_lem k lk) a la); bare = (refl, refl); marks = marks; prefixes = prefixes }
  where
    marks : (k : ℕ) → 0 < k → k < 6 → aba_sheet.marks (suc k) ≡ (fitting aba).marks ((T.node k).1, (T.node k).2)
    marks zero some l = absurd (omega arith)
    marks (suc zero) some l = refl
    marks (suc (suc zero)) some l = refl
    marks (suc (suc (suc zero))) some l = refl
    marks (suc (suc (suc (suc zero)))) some l = refl
    marks (suc (suc (suc (suc (suc zero))))) some l = refl
    marks (suc (suc (suc (suc (suc (suc k)))))) some l = absurd (omega arith)

    prefixes : (k : ℕ) → 0 < k → k < 6 → aba_sheet.prefix (suc k) ≡ (fitting aba).prefix ((T.node k).1, (T.node k).2)
    prefixes zero some l = absurd (omega arith)
    prefixes (suc zero) some l = refl
    prefixes (suc (suc zero)) some l = refl
    prefixes (suc (suc (suc zero))) some l = refl
    prefixes (suc (suc (suc (suc zero)))) some l = refl
    prefixes (suc (suc (suc (suc (suc zero))))) some l = refl
    prefixes (suc (suc (suc (suc (suc (suc k)))))) some l = absurd (omega arith)

pub judgements : Judgements
judgements =
    record {
      draws = (drawing_is_right_lem 26 aba well).complete T aba_sheet (right (drawing (fitting aba)) 6 (omega arith) _ result_fits).0 off;
      well = whole.0;
      six = (whole.1 6).1 (omega arith);
      not_five = λ h. let l : 6 ≤ 5 = (whole.1 5).0 h in omega arith;
      wrong_a = ((told unmarked).fault _ (0 ∷ []) (right (judge (fitting aba) unmarked) 6 (omega arith) _ result_unmarked).0).0;
      wrong_ba = linked.0;
      four = linked.1 4 (omega arith);
      not_three = (told unlinked).overflow 3 (1 ∷ 0 ∷ []) (right (judge (fitting aba) unlinked) 3 (omega arith) _ result_full);
    }
  where
    told : (sheet : Automaton) → VerdictsTell 26 aba sheet
    told sheet = verdicts_are_right_lem 26 aba well sheet

    whole : NoWrong 26 (images_of aba) aba_sheet × ((most : ℕ) → HoldsPairs most 26 aba aba_sheet ↔ (6 ≤ most))
    whole = (told aba_sheet).complete _ (right (judge (fitting aba) aba_sheet) 6 (omega arith) _ result_aba).0

    linked : FirstWrong 26 (images_of aba) unlinked (1 ∷ 0 ∷ []) × ((most : ℕ) → 4 ≤ most → HoldsPairs most 26 aba unlinked)
    linked = (told unlinked).fault _ (0 ∷ 1 ∷ []) (right (judge (fitting aba) unlinked) 4 (omega arith) _ result_unlinked).0
