-- The plan and the sheet that a reading is set up with.
use Rattle.std.proofs.Common.{◌≡◌, ℕ, zero, suc, ◌≤◌, Bool, true, false, cond, ◌&&◌, leb, List, [], get_or, replicate, None, Ok, Err, Result, refl, ap, arith}
use Rattle.std.proofs.lemmas.Bool.{le-leb}
use Rattle.std.specs.Result.{IsOk}
use Rattle.pattern.specs.Patterns.{shortest}
use Rattle.pattern.specs.Images.{images_of}
use Rattle.automaton.specs.Wrong.{NoWrong}
use Rattle.automaton.proofs.Wrong.{bare_sheets_are_right_lem}
use Rattle.plan.specs.declared.Plan.{Plan}
use Rattle.plan.specs.Views.{letters_of, patterns_of}
use Rattle.sheet.specs.declared.Sheet.{Sheet}
use Rattle.sheet.specs.declared.refusals.SheetRefusal.TheVariants.{Counts}
use Rattle.sheet.specs.Tables.{Table, single, arrow_from, arrow_of, entry_at}
use Rattle.sheet.specs.Files.{ask, is_counted}
use Rattle.sheet.specs.Views.{table_of, automaton_in, automaton_of}

-- 1 to 32 letters are never refused by the plan without patterns
pub always_planned : {P E : Type 0} (planned : Result P E → Result (List (List ℕ)) E) → ((x : E) → planned (Err x) ≡ Err x) → (K : ℕ) (r : Result P E) (y : E) → planned r ≡ cond (leb 1 K && leb K 32) (Ok []) (Err y) → 1 ≤ K → K ≤ 32 → IsOk r
always_planned {P} {E} planned refused K r y e h g = go r (rw (le-leb 1 K h, le-leb K 32 g) at e)
  where
    go : (r : Result P E) → planned r ≡ Ok [] → IsOk r
    go (Ok plan) f = grind arith
    go (Err x) f = let z = refused x in absurd cc

pub single_table : (K : ℕ) (t : Table) → ask (is_counted 1 K) Counts (Ok (single K 0)) ≡ Ok t → t ≡ single K 0
single_table K t = go (is_counted 1 K)
  where
    go : (b : Bool) → ask b Counts (Ok (single K 0)) ≡ Ok t → t ≡ single K 0
    go true e = cc
    go false e = absurd cc

get_d_same : {A : Type 0} (n i : ℕ) (a : A) → get_or (replicate n a) i a ≡ a
get_d_same zero i a = refl
get_d_same (suc n) zero a = refl
get_d_same (suc n) (suc i) a = get_d_same n i a

no_arrow : (K a : ℕ) → arrow_from (single K 0) 1 a ≡ None
unfolding entry_at
no_arrow K a = ap arrow_of (get_d_same K a 0)

bare : (L K : ℕ) (plan : List (List ℕ)) (t : Table) → plan ≡ [] → t ≡ single K 0 → NoWrong L (images_of plan) (automaton_in t)
bare L K plan t e f = rw (e, f) (bare_sheets_are_right_lem L (automaton_in (single K 0)) (λ a h. no_arrow K a))

pub fresh_right : (plan : Plan) (sheet : Sheet) (K : ℕ) → patterns_of plan ≡ [] → table_of sheet ≡ single K 0 → NoWrong (letters_of plan) (images_of (patterns_of plan)) (automaton_of sheet)
fresh_right plan sheet K e f = bare (letters_of plan) K (patterns_of plan) (table_of sheet) e f

pub fresh_least : (plan : List (List ℕ)) (t : Table) (K : ℕ) → plan ≡ [] → t ≡ single K 0 → t.shortest ≡ shortest plan
unfolding shortest
fresh_least plan t K e f = rw (e, f)
