-- What a buffer holds, state by state.
use Rattle.std.proofs.Common.{◌≡◌, ℕ, zero, suc, ◌+◌, ◌*◌, ◌<◌, ◌≤◌, Bool, true, false, cond, List, [], ◌∷◌, ◌++◌, map, length, get_or, set, take, drop, Ok, Err, vec_items, vec_len, sym, refl, ap, ◌∙◌, subst, suc-mul, zero-add, zero-mul, add-one, arith}
use mir.Val.{bool_byte}
use lib.Seq.{paste}
use borrow.Rule.Slice.PartMut.{put_mid}
use Rattle.std.specs.List.{flat_map}
use Rattle.std.proofs.lemmas.List.Edits.{paste-paste, paste_all}
use Rattle.std.proofs.lemmas.List.{take_all, take_at, length-take-le, take_more, map_push, flat_map_more, get_or_default, length-append, append-nil, drop_all, drop-drop}
use Rattle.sheet.specs.declared.states.State.{State}
use Rattle.sheet.specs.States.{absent, Each, IsWide, Good}
use Rattle.sheet.specs.Tables.{Table, Lawful, most_letters}
use Rattle.sheet.specs.Files.{four_bytes, entry_bytes, entry_size, file_of, read_file, written, overwritten}
use Rattle.sheet.specs.Views.{entry_in, table_of}
use Rattle.sheet.specs.declared.Sheet.{Sheet}
use Rattle.sheet.specs.declared.refusals.SheetRefusal.TheVariants.{Buffer}
use Rattle.sheet.proofs.Places.{count_is}
use Rattle.sheet.proofs.Files.{length_entries, written_read}
use Rattle.sheet.proofs.Goods.{sheet_good, sheet_lawful}
use Rattle.std.proofs.lemmas.Bool.{le-leb, lt-leb, cond-true, cond-false}

pub byte_of : (b : Bool) → bool_byte b ≡ cond b 1 0
byte_of true = refl
byte_of false = refl

-- ---- one state

-- the marks, the prefix mark and the arrows, one after the other, are the state
pub state_written :
    (front part arrows : List ℕ) (n p q k : ℕ)
    → front ≡ four_bytes n → p ≡ q → 5 ≤ length part → length part ≤ 5 + k
    → put_mid 5 k (set (front ++ drop 4 part) 4 p) arrows ≡ four_bytes n ++ q ∷ arrows
state_written front (t ∷ u ∷ v ∷ w ∷ x ∷ rest) arrows n p q k e f h l =
    ap (λ (xs : List ℕ). put_mid 5 k (set (xs ++ x ∷ rest) 4 p) arrows) e
    ∙ ap (λ (ys : List ℕ). four_bytes n ++ p ∷ ys) (ap (λ (zs : List ℕ). arrows ++ zs) (drop_all k rest (omega arith)) ∙ append-nil arrows)
    ∙ ap (λ (z : ℕ). four_bytes n ++ z ∷ arrows) f
state_written front [] arrows n p q k e f h l = absurd (omega arith)
state_written front (t ∷ []) arrows n p q k e f h l = absurd (omega arith)
state_written front (t ∷ u ∷ []) arrows n p q k e f h l = absurd (omega arith)
state_written front (t ∷ u ∷ v ∷ []) arrows n p q k e f h l = absurd (omega arith)
state_written front (t ∷ u ∷ v ∷ w ∷ []) arrows n p q k e f h l = absurd (omega arith)

-- ---- all states

module _ (letters : ℕ) (items : List State) where
  -- the bytes of the first states
  abbrev pub front : ℕ → List ℕ
  front i = flat_map entry_bytes (map (entry_in letters) (take i items))

  pub front_more : (i : ℕ) (s : State) → i < length items → s ≡ get_or items i s → front i ++ entry_bytes (entry_in letters s) ≡ front (i + 1)
  front_more i s h e =
      flat_map_more entry_bytes [] (map (entry_in letters) (take i items)) (entry_in letters s)
      ∙ ap (flat_map entry_bytes) (sym (ap (map (entry_in letters)) (take_more items i s h) ∙ map_push (entry_in letters) (take i items) (get_or items i s) ∙ ap (λ (x : State). map (entry_in letters) (take i items) ++ entry_in letters x ∷ []) (sym e)))

  module _ (wide : Each IsWide items) (few : letters ≤ most_letters) where
    pub length_one : (s : State) → IsWide s → length (entry_bytes (entry_in letters s)) ≡ entry_size letters
    length_one s w = let e : length (take letters s.arrows) ≡ letters = length-take-le letters s.arrows (omega arith) in omega arith

    pub length_front : (i : ℕ) → i ≤ length items → length (front i) ≡ i * entry_size letters
    length_front zero h = sym (zero-mul (entry_size letters))
    length_front (suc i) h =
        let s = get_or items i absent in
        let more = front_more i s (omega arith) (get_or_default items i absent s (omega arith)) in
        let m = suc-mul i (entry_size letters) in
        let l = length_front i (omega arith) in
        let o = length_one s (wide i) in
        ap (λ (k : ℕ). length (front k)) (sym (add-one i)) ∙ sym (ap length more) ∙ length-append (front i) (entry_bytes (entry_in letters s)) ∙ omega arith

    -- one state more is written
    pub written_more :
        (d b : List ℕ) (i : ℕ) (s : State) → i < length items → s ≡ get_or items i s
        → b ≡ paste d 0 (front i) (i * entry_size letters)
        → paste b (i * entry_size letters) (entry_bytes (entry_in letters s)) (entry_size letters) ≡ paste d 0 (front (i + 1)) ((i + 1) * entry_size letters)
    written_more d b i s l e so_far =
        let m : i * entry_size letters + entry_size letters ≡ (i + 1) * entry_size letters = sym (ap (λ (k : ℕ). k * entry_size letters) (add-one i) ∙ suc-mul i (entry_size letters)) in
        let w : IsWide s = subst IsWide (sym (e ∙ get_or_default items i s absent l)) (wide i) in
        let z : i * entry_size letters ≡ 0 + i * entry_size letters = sym (zero-add (i * entry_size letters)) in
        ap (λ (x : List ℕ). paste x (i * entry_size letters) (entry_bytes (entry_in letters s)) (entry_size letters)) so_far
        ∙ ap (λ (at : ℕ). paste (paste d 0 (front i) (i * entry_size letters)) at (entry_bytes (entry_in letters s)) (entry_size letters)) z
        ∙ paste-paste d 0 (front i) (entry_bytes (entry_in letters s)) (i * entry_size letters) (entry_size letters) (sym (length_front i (omega arith))) (sym (length_one s w)) (omega arith)
        ∙ ap (λ (xs : List ℕ). paste d 0 xs (i * entry_size letters + entry_size letters)) (front_more i s l e)
        ∙ ap (paste d 0 (front (i + 1))) m

module _ (sheet : Sheet) where
  -- a state that the loop comes to
  pub state_there : (xs : List State) (i : ℕ) (d : State) → xs ≡ vec_items sheet.states → i < length xs → Good sheet.letters (vec_len sheet.states) (get_or xs i d)
  state_there xs i d e h =
      subst (Good sheet.letters (vec_len sheet.states)) (ap (λ (ys : List State). get_or ys i absent) (sym e) ∙ get_or_default xs i absent d h) (sheet_good sheet i)

  pub states_written :
      (d b : List ℕ) (i : ℕ) → length d ≡ vec_len sheet.states * entry_size sheet.letters → i ≡ vec_len sheet.states
      → b ≡ paste d 0 (front sheet.letters (vec_items sheet.states) i) (i * entry_size sheet.letters)
      → b ≡ flat_map entry_bytes (table_of sheet).states
  states_written d b i l e g =
      let items = vec_items sheet.states in
      let n : i ≡ length items = e ∙ sheet.states.ok.0 in
      let file = front sheet.letters items i in
      let long : i * entry_size sheet.letters ≡ length file = sym (length_front sheet.letters items sheet.wide sheet.few i (omega arith)) in
      let end : length d ≡ i * entry_size sheet.letters = l ∙ ap (λ (k : ℕ). k * entry_size sheet.letters) (sym e) in
      g
      ∙ paste_all d 0 file (i * entry_size sheet.letters) long
      ∙ ap (λ (xs : List ℕ). file ++ xs) (drop_all (0 + i * entry_size sheet.letters) d (omega arith))
      ∙ append-nil file
      ∙ ap (λ (xs : List State). flat_map entry_bytes (map (entry_in sheet.letters) xs)) (take_all i items (omega arith))

-- ---- the file

module _ (sheet : Sheet) where
  pub file_long : length (file_of (table_of sheet)) ≡ 4 + vec_len sheet.states * entry_size sheet.letters
  unfolding file_of
  file_long =
      let n = length_entries sheet.letters (length (table_of sheet).states) (table_of sheet).states (sheet_lawful sheet).entries in
      let m : length (table_of sheet).states * entry_size sheet.letters ≡ vec_len sheet.states * entry_size sheet.letters = ap (λ (k : ℕ). k * entry_size sheet.letters) (count_is sheet) in
      omega arith

  -- the head and all states are the file
  pub file_written :
      (d h body : List ℕ) (count k : ℕ) → count ≡ vec_len sheet.states
      → h ≡ count ∷ sheet.letters ∷ sheet.shortest ∷ 1 ∷ []
      → body ≡ flat_map entry_bytes (table_of sheet).states
      → 4 + k ≡ length (file_of (table_of sheet))
      → put_mid 4 k (h ++ drop 4 d) body ≡ file_of (table_of sheet) ++ drop (length (file_of (table_of sheet))) d
  unfolding file_of
  file_written d h body count k e f g l =
      ap (λ (xs : List ℕ). put_mid 4 k (xs ++ drop 4 d) body) f
      ∙ ap (λ (xs : List ℕ). count ∷ sheet.letters ∷ sheet.shortest ∷ 1 ∷ (xs ++ drop k (drop 4 d))) g
      ∙ ap (λ (n : ℕ). n ∷ sheet.letters ∷ sheet.shortest ∷ 1 ∷ (flat_map entry_bytes (table_of sheet).states ++ drop k (drop 4 d))) (e ∙ sym (count_is sheet))
      ∙ ap (λ (xs : List ℕ). file_of (table_of sheet) ++ xs) (drop-drop k 4 d ∙ ap (λ (n : ℕ). drop n d) l)

-- ---- the answers

module _ (t : Table) (d : List ℕ) where
  pub no_room : length d < length (file_of t) → (Err Buffer ≡ written t (length d)) × (d ≡ overwritten t d)
  no_room h =
      let no = lt-leb (length (file_of t)) (length d) h in
      (sym (cond-false _ _ _ no), sym (cond-false _ _ _ no))

  pub room : length (file_of t) ≤ length d → (Ok (length (file_of t)) ≡ written t (length d)) × (file_of t ++ drop (length (file_of t)) d ≡ overwritten t d)
  room h =
      let yes' = le-leb (length (file_of t)) (length d) h in
      (sym (cond-true _ _ _ yes'), sym (cond-true _ _ _ yes'))

  pub read_again : (n : ℕ) (b : List ℕ) → Lawful t → n ≡ length (file_of t) → b ≡ file_of t ++ drop (length (file_of t)) d → read_file (take n b) ≡ Ok t
  read_again n b l e f =
      ap (λ (xs : List ℕ). read_file (take n xs)) f ∙ ap read_file (take_at (file_of t) (drop (length (file_of t)) d) n (sym e)) ∙ written_read t l
