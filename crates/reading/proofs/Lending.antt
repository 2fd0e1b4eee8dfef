-- Buffers that are lent as slices of vectors, and come back with what the call left in them.
use Rattle.std.proofs.Common.{◌≡◌, ℕ, List, ◌++◌, length, take, Result, sym, ap, ◌∙◌, subst}
use lib.ListN.{length-replicate}
use Rattle.std.proofs.lemmas.List.{take_at}
use Rattle.plan.specs.declared.Plan.{Plan}
use Rattle.sheet.specs.declared.Sheet.{Sheet}
use Rattle.judge.specs.Memory.{Wiped}
use Rattle.judge.specs.Refusals.{DrawError}
use Rattle.judge.specs.Drawings.{Draws}
use Rattle.reading.specs.declared.refusals.AdmitRefusal.{AdmitRefusal}
use Rattle.reading.specs.Admission.{Admitted}

-- a vector of n items whose slice was filled anew
pub back : (after rest : List ℕ) (n : ℕ) → length after ≡ n → take n (after ++ rest) ≡ after
back after rest n e = take_at after rest n e

wiped_long : (lent after : List ℕ) → Wiped lent after → length after ≡ length lent
wiped_long lent after e = ap length e ∙ length-replicate _ _

pub wiped_back : (lent before after rest : List ℕ) (n : ℕ) → lent ≡ before → length lent ≡ n → Wiped lent after → Wiped before (take n (after ++ rest))
wiped_back lent before after rest n e l w = back after rest n (wiped_long lent after w ∙ l) ∙ subst (λ (x : List ℕ). Wiped x after) e w

pub drawn_back : (plan : Plan) (lent before after rest : List ℕ) (n : ℕ) (x : Result Sheet DrawError) → lent ≡ before → length lent ≡ n → Draws plan lent after x → Draws plan before (take n (after ++ rest)) x
drawn_back plan lent before after rest n x e l d =
    subst (λ (y : List ℕ). Draws plan before y x) (sym (back after rest n (wiped_long lent after d.wiped ∙ l))) (subst (λ (y : List ℕ). Draws plan y after x) e d)

pub admitted_back : (K : ℕ) (plan : Plan) (sheet : Sheet) (memory lent memory₀ word after rest : List ℕ) (n : ℕ) (v : Result (Unit {0}) AdmitRefusal) → memory ≡ memory₀ → lent ≡ word → length lent ≡ n → length after ≡ length lent → Admitted K plan sheet memory lent after v → Admitted K plan sheet memory₀ word (take n (after ++ rest)) v
admitted_back K plan sheet memory lent memory₀ word after rest n v e f l k a =
    subst (λ (y : List ℕ). Admitted K plan sheet memory₀ word y v) (sym (back after rest n (k ∙ l))) (subst (λ (y : List ℕ). Admitted K plan sheet memory₀ y after v) f (subst (λ (y : List ℕ). Admitted K plan sheet y lent after v) e a))
