-- The entry of a state, as the code finds it.
use Rattle.std.proofs.Common.{◌≡◌, ℕ, zero, suc, ◌<◌, ◌≤◌, List, map, get_or, take, Some, None, Option, vec_items, vec_len, sym, refl, ap, ◌∙◌, subst, ⊎_elim, arith}
use Rattle.std.specs.Option.{option_map, unwrap_or}
use Rattle.std.proofs.lemmas.Option.{unwrap_or-slice_get, slice_get-map, get_or_from_slice_get}
use Rattle.std.proofs.lemmas.List.{get_or_past, get_or-take, length-take}
use Rattle.std.proofs.lemmas.Bool.{cases_lt}
use Rattle.sheet.specs.declared.Sheet.{Sheet}
use Rattle.sheet.specs.declared.states.State.{State}
use Rattle.sheet.specs.States.{absent, Good}
use Rattle.sheet.specs.Tables.{Entry, blank, entry_at, arrow_of, arrow_from}
use Rattle.sheet.specs.Views.{entry_in, table_of, state_at}
use Rattle.sheet.proofs.Goods.{sheet_good}

-- the arrows by letters that are below the number of letters are all arrows
pub front_arrow :
    (letters : ℕ) (arrows : List ℕ) (a : ℕ) → ((b : ℕ) → letters ≤ b → get_or arrows b 0 ≡ 0) → get_or (take letters arrows) a 0 ≡ get_or arrows a 0
front_arrow letters arrows a bare =
    ⊎_elim
    (λ (h : a < letters). get_or-take letters arrows a 0 h)
    (λ (h : letters ≤ a). get_or_past (take letters arrows) a 0 (simp length-take (omega arith)) ∙ sym (bare a h))
    (cases_lt a letters)

module _ (sheet : Sheet) where
  pub entry_is : (q : ℕ) → entry_at (table_of sheet) q ≡ unwrap_or (option_map (entry_in sheet.letters) (state_at sheet q)) blank
  unfolding entry_at
  entry_is zero = refl
  entry_is (suc i) =
      sym (unwrap_or-slice_get (map (entry_in sheet.letters) (vec_items sheet.states)) i blank)
      ∙ ap (λ (o : Option Entry). unwrap_or o blank) (slice_get-map (entry_in sheet.letters) (vec_items sheet.states) i)

  good_at : (q : ℕ) (s : State) → state_at sheet q ≡ Some s → Good sheet.letters (vec_len sheet.states) s
  good_at zero s e = absurd (cc)
  good_at (suc i) s e =
      subst (Good sheet.letters (vec_len sheet.states)) (get_or_from_slice_get (vec_items sheet.states) i s absent e) (sheet_good sheet i)

  module _ (q a : ℕ) where
    pub arrow_past : state_at sheet q ≡ None → arrow_from (table_of sheet) q a ≡ None
    arrow_past e =
        ap (λ (x : Entry). arrow_of (get_or x.arrows a 0))
        (entry_is q ∙ ap (λ (o : Option State). unwrap_or (option_map (entry_in sheet.letters) o) blank) e)

    pub arrow_there : (s : State) → state_at sheet q ≡ Some s → arrow_from (table_of sheet) q a ≡ arrow_of (get_or s.arrows a 0)
    arrow_there s e =
        let g = good_at q s e in
        ap (λ (x : Entry). arrow_of (get_or x.arrows a 0))
        (entry_is q ∙ ap (λ (o : Option State). unwrap_or (option_map (entry_in sheet.letters) o) blank) e)
        ∙ ap arrow_of (front_arrow sheet.letters s.arrows a g.bare)
