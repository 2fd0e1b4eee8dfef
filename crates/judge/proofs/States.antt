-- No sheet has a state above the most.
use Rattle.std.proofs.Common.{◌≡◌, ℕ, zero, suc, ◌<◌, map, get_or, None, vec_items, sym, ap, arith}
use Rattle.std.proofs.lemmas.List.{get_or_past, length-map}
use Rattle.sheet.specs.declared.Sheet.{Sheet}
use Rattle.sheet.specs.Tables.{Entry, blank, entry_at, arrow_of, arrow_from}
use Rattle.sheet.specs.Views.{entry_in, table_of}

pub arrow_above : (sheet : Sheet) (q a : ℕ) → 255 < q → None ≡ arrow_from (table_of sheet) q a
unfolding entry_at
arrow_above sheet zero a h = absurd (omega arith)
arrow_above sheet (suc i) a h =
    sym (ap (λ (x : Entry). arrow_of (get_or x.arrows a 0)) (get_or_past (map (entry_in sheet.letters) (vec_items sheet.states)) i blank (simp length-map (omega (arith, sheet.states.ok.0, sheet.counted)))))
