-- What the test for an arrow's two states and its letter tells.
use Rattle.std.proofs.Common.{◌≡◌, ℕ, ◌<◌, ◌≤◌, true, ◌&&◌, ltb, leb, length, vec_items, vec_len, sym, refl, ap, ◌∙◌}
use Rattle.std.proofs.lemmas.List.{length-map}
use Rattle.std.proofs.lemmas.Bool.{and_parts, leb-true, ltb-true}
use Rattle.sheet.specs.declared.Sheet.{Sheet}
use Rattle.sheet.specs.Tables.{has_state, has_places}
use Rattle.sheet.specs.Views.{entry_in, table_of}

module _ (sheet : Sheet) where
  pub count_is : length (table_of sheet).states ≡ vec_len sheet.states
  count_is = length-map (vec_items sheet.states) (entry_in sheet.letters) ∙ sym sheet.states.ok.0

module _ (sheet : Sheet) (from a to : ℕ) where
  pub places_are :
      (n : ℕ) → n ≡ vec_len sheet.states → has_places (table_of sheet) from a to ≡ (has_state n from && (has_state n to && ltb a sheet.letters))
  places_are n e =
      ap (λ (m : ℕ). has_state m from && (has_state m to && ltb a sheet.letters)) (count_is sheet ∙ sym e)

  pub record Exist : Type 0 where
    pub some : 1 ≤ from
    pub from_in : from ≤ vec_len sheet.states
    pub to_in : to ≤ vec_len sheet.states
    pub letter_in_lem : a < sheet.letters

  pub exist : true ≡ has_places (table_of sheet) from a to → Exist
  exist h =
      let n = vec_len sheet.states in
      let p = and_parts (has_state n from) (has_state n to && ltb a sheet.letters) (sym (h ∙ places_are n refl)) in
      let f = and_parts (leb 1 from) (leb from n) p.0 in
      let q = and_parts (has_state n to) (ltb a sheet.letters) p.1 in
      let t = and_parts (leb 1 to) (leb to n) q.0 in
      record {
        some = leb-true 1 from f.0;
        from_in = leb-true from n f.1;
        to_in = leb-true to n t.1;
        letter_in_lem = ltb-true a sheet.letters q.1;
      }
