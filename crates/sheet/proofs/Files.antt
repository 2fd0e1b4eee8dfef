-- Reading a file and writing a table are inverse.
use Rattle.std.proofs.Common.{◌≡◌, ℕ, zero, suc, ◌+◌, ◌*◌, ◌/◌, ◌%◌, ◌^◌, ◌<◌, ◌≤◌, Bool, true, false, cond, ◌&&◌, eqb, leb, List, [], ◌∷◌, ◌++◌, map, length, get_or, take, drop, Ok, Decides, Result, sym, refl, ap, ◌∙◌, subst, suc-mul, zero-mul, arith}
use Rattle.std.specs.List.{flat_map, AllByRecursion}
use Rattle.std.proofs.ByRecursion.{All-take, All-drop, All-from_get_or, Decides-by_and}
use Rattle.std.proofs.lemmas.List.{length-append, length-take, length-drop, length-map, take_at, drop_at, take-append-drop, nil_from_length}
use Rattle.std.proofs.lemmas.Bool.{and_parts, and_from, leb-true, le-leb, eqb-true, eq-eqb}
use Rattle.sheet.specs.declared.refusals.SheetRefusal.{SheetRefusal}
use Rattle.sheet.specs.declared.refusals.SheetRefusal.TheVariants.{Head, Edition, Counts, Length, Content}
use Rattle.sheet.specs.Tables.{Entry, Table, LawfulEntry, Lawful}
use Rattle.sheet.specs.Files.{four_bytes, entry_bytes, file_of, ask, entry_size, cut, up_to, sound_entry, sound, entry_of, parts, is_counted, is_long, table_in, read_file, Bytes, ReadingInvertsWriting}

-- ---- one state

four_sum : (n h g f p q r : ℕ) → h * 256 + p ≡ n → g * 256 + q ≡ h → f * 256 + r ≡ g → f * 16777216 + r * 65536 + q * 256 + p ≡ n
four_sum n h g f p q r a b c = omega arith

four_back : (n : ℕ) → n < 2 ^ 32 → n / 16777216 % 256 * 16777216 + n / 65536 % 256 * 65536 + n / 256 % 256 * 256 + n % 256 ≡ n
four_back n h =
    let g : n / 65536 ≡ n / 256 / 256 = omega arith in
    let f : n / 16777216 ≡ n / 65536 / 256 = omega arith in
    let top : n / 16777216 % 256 ≡ n / 65536 / 256 = omega arith in
    four_sum n (n / 256) (n / 65536) (n / 16777216 % 256) (n % 256) (n / 256 % 256) (n / 65536 % 256) (omega arith) (omega arith) (omega arith)

four_forth :
    (a b c d : ℕ) → a < 256 → b < 256 → c < 256 → d < 256
    → four_bytes (a * 16777216 + b * 65536 + c * 256 + d) ≡ a ∷ b ∷ c ∷ d ∷ []
four_forth a b c d ha hb hc hd =
    let n : ℕ = a * 16777216 + b * 65536 + c * 256 + d in
    let p : n / 16777216 % 256 ≡ a = omega arith in
    let q : n / 65536 % 256 ≡ b = omega arith in
    let r : n / 256 % 256 ≡ c = omega arith in
    let s : n % 256 ≡ d = omega arith in
    cc

bit_back : (b : Bool) → eqb (cond b 1 0) 1 ≡ b
bit_back true = refl
bit_back false = refl

bit_forth : (p : ℕ) → p ≤ 1 → cond (eqb p 1) 1 0 ≡ p
bit_forth zero h = refl
bit_forth (suc zero) h = refl
bit_forth (suc (suc p)) h = absurd (omega arith)

bit_small : (b : Bool) → leb (cond b 1 0) 1 ≡ true
bit_small true = refl
bit_small false = refl

rebuilt : (e : Entry) (m : ℕ) (p : Bool) → m ≡ e.marks → p ≡ e.prefix → ◌≡◌ {A = Entry} (record { marks = m; prefix = p; arrows = e.arrows }) e
rebuilt e m p x y = rw (x, y)

pub entry_back : (letters states : ℕ) (e : Entry) → LawfulEntry letters states e → entry_of (entry_bytes e) ≡ e
entry_back letters states e l = rebuilt e _ _ (four_back e.marks l.marks) (bit_back e.prefix)

pub length_entry : (letters states : ℕ) (e : Entry) → LawfulEntry letters states e → length (entry_bytes e) ≡ entry_size letters
length_entry letters states e l = let a = l.arrows in omega arith

pub decides_up_to : (most : ℕ) (bytes : List ℕ) → Decides (up_to most bytes) (AllByRecursion (λ b. b ≤ most) bytes)
decides_up_to most bytes =
    Decides-by_and (λ b. leb b most) (λ b. b ≤ most) (up_to most) (λ b. (leb-true b most, le-leb b most)) refl (λ _ _. refl) bytes

pub entry_sound : (letters states : ℕ) (e : Entry) → LawfulEntry letters states e → sound_entry states (entry_bytes e) ≡ true
entry_sound letters states e l = and_from _ _ (bit_small e.prefix) ((decides_up_to states e.arrows).1 l.inside)

-- a part of a file, with bytes for its marks, is what its state is written as
pub part_back :
    (states : ℕ) (part : List ℕ) → 5 ≤ length part → Bytes (take 4 part) → sound_entry states part ≡ true → entry_bytes (entry_of part) ≡ part
part_back states [] h b s = absurd (omega arith)
part_back states (x ∷ []) h b s = absurd (omega arith)
part_back states (x ∷ y ∷ []) h b s = absurd (omega arith)
part_back states (x ∷ y ∷ z ∷ []) h b s = absurd (omega arith)
part_back states (x ∷ y ∷ z ∷ w ∷ []) h b s = absurd (omega arith)
part_back states (x ∷ y ∷ z ∷ w ∷ p ∷ arrows) h b s =
    let f = four_forth x y z w b.0 b.1.0 b.1.1.0 b.1.1.1.0 in
    let q = bit_forth p (leb-true p 1 (and_parts (leb p 1) (up_to states arrows) s).0) in
    cc

-- ---- all states

byte_at : (bytes : List ℕ) → Bytes bytes → (i : ℕ) → get_or bytes i 0 < 256
byte_at [] b i = omega arith
byte_at (x ∷ bytes) b zero = b.0
byte_at (x ∷ bytes) b (suc i) = byte_at bytes b.1 i

pub length_cut : (size n : ℕ) (bytes : List ℕ) → length (cut size n bytes) ≡ n
unfolding cut
length_cut size zero bytes = refl
length_cut size (suc n) bytes = ap suc (length_cut size n (drop size bytes))

module _ (letters states : ℕ) where
  pub length_entries :
      (es : List Entry) → AllByRecursion (LawfulEntry letters states) es → length (flat_map entry_bytes es) ≡ length es * entry_size letters
  length_entries [] l = sym (zero-mul (entry_size letters))
  length_entries (e ∷ es) l =
      let h = length_entry letters states e l.0 in
      let t = length_entries es l.1 in
      let m = suc-mul (length es) (entry_size letters) in
      length-append (entry_bytes e) (flat_map entry_bytes es) ∙ omega arith

  pub cut_entries :
      (es : List Entry) → AllByRecursion (LawfulEntry letters states) es → cut (entry_size letters) (length es) (flat_map entry_bytes es) ≡ map entry_bytes es
  unfolding cut
  cut_entries [] l = refl
  cut_entries (e ∷ es) l =
      let h = length_entry letters states e l.0 in
      rw (take_at (entry_bytes e) (flat_map entry_bytes es) (entry_size letters) h, drop_at (entry_bytes e) (flat_map entry_bytes es) (entry_size letters) h, cut_entries es l.1)

  pub entries_back : (es : List Entry) → AllByRecursion (LawfulEntry letters states) es → map entry_of (map entry_bytes es) ≡ es
  entries_back [] l = refl
  entries_back (e ∷ es) l =
      let h = entry_back letters states e l.0 in
      let t = entries_back es l.1 in
      cc

  pub entries_sound : (es : List Entry) → AllByRecursion (LawfulEntry letters states) es → sound states (map entry_bytes es) ≡ true
  entries_sound [] l = refl
  entries_sound (e ∷ es) l = and_from _ _ (entry_sound letters states e l.0) (entries_sound es l.1)

  -- the parts of a body of bytes are written as they were read
  pub parts_back :
      (n : ℕ) (body : List ℕ) → length body ≡ n * entry_size letters → Bytes body → sound states (cut (entry_size letters) n body) ≡ true
      → flat_map entry_bytes (map entry_of (cut (entry_size letters) n body)) ≡ body
  unfolding cut
  parts_back zero body h b s = sym (nil_from_length body (h ∙ zero-mul (entry_size letters)))
  parts_back (suc n) body h b s =
      let size : ℕ = entry_size letters in
      let m = suc-mul n size in
      let part = take size body in
      let rest = drop size body in
      let p = and_parts (sound_entry states part) (sound states (cut size n rest)) s in
      let here : entry_bytes (entry_of part) ≡ part = part_back states part (simp length-take (omega arith)) (All-take (λ x. x < 256) 4 part (All-take (λ x. x < 256) size body b)) p.0 in
      let more = parts_back n rest (simp length-drop (omega arith)) (All-drop (λ x. x < 256) size body b) p.1 in
      ap (λ (xs : List ℕ). xs ++ flat_map entry_bytes (map entry_of (cut size n rest))) here ∙ ap (λ (xs : List ℕ). part ++ xs) more ∙ take-append-drop size body

  -- the states of a body of bytes are lawful
  pub parts_lawful :
      (n : ℕ) (body : List ℕ) → length body ≡ n * entry_size letters → Bytes body → sound states (cut (entry_size letters) n body) ≡ true
      → AllByRecursion (LawfulEntry letters states) (map entry_of (cut (entry_size letters) n body))
  unfolding cut
  parts_lawful zero body h b s = tt
  parts_lawful (suc n) body h b s =
      let size : ℕ = entry_size letters in
      let m = suc-mul n size in
      let part = take size body in
      let rest = drop size body in
      let p = and_parts (sound_entry states part) (sound states (cut size n rest)) s in
      let byte = byte_at part (All-take (λ x. x < 256) size body b) in (
        record { marks = let x = byte 0 in let y = byte 1 in let z = byte 2 in let w = byte 3 in omega arith; arrows = simp (length-drop, length-take) (omega arith); inside = (decides_up_to states (drop 5 part)).0 (and_parts (leb (get_or part 4 0) 1) (up_to states (drop 5 part)) p.0).1 },
        parts_lawful n rest (simp length-drop (omega arith)) (All-drop (λ x. x < 256) size body b) p.1,
      )

-- ---- the questions

ask_inv : {A : Type 0} (b : Bool) (e : SheetRefusal) (r : Result A SheetRefusal) (x : A) → ask b e r ≡ Ok x → (b ≡ true) × (r ≡ Ok x)
ask_inv true e r x h = (refl, h)
ask_inv false e r x h = absurd (let z : ◌≡◌ {A = ℕ} 0 1 = cc in omega arith)

ok_same : (x y : Table) → ◌≡◌ {A = Result Table SheetRefusal} (Ok x) (Ok y) → x ≡ y
ok_same x y h = cc

-- every question is answered by yes
pub record Accepted (bytes : List ℕ) : Type 0 where
  pub head : 4 ≤ length bytes
  pub edition : get_or bytes 3 0 ≡ 1
  pub counted : is_counted (get_or bytes 0 0) (get_or bytes 1 0) ≡ true
  pub long : length bytes ≡ 4 + get_or bytes 0 0 * entry_size (get_or bytes 1 0)
  pub is_sound : sound (get_or bytes 0 0) (parts bytes) ≡ true

module _ (bytes : List ℕ) where
  pub accept : Accepted bytes → read_file bytes ≡ Ok (table_in bytes)
  unfolding read_file
  accept a =
      rw (le-leb 4 (length bytes) a.head, eq-eqb (get_or bytes 3 0) 1 a.edition, a.counted, eq-eqb (length bytes) _ a.long, a.is_sound)

  pub accepted : (t : Table) → read_file bytes ≡ Ok t → Accepted bytes × (table_in bytes ≡ t)
  unfolding read_file
  accepted t h =
      let p = ask_inv (leb 4 (length bytes)) Head _ t h in
      let q = ask_inv (eqb (get_or bytes 3 0) 1) Edition _ t p.1 in
      let r = ask_inv (is_counted (get_or bytes 0 0) (get_or bytes 1 0)) Counts _ t q.1 in
      let s = ask_inv (is_long bytes) Length _ t r.1 in
      let u = ask_inv (sound (get_or bytes 0 0) (parts bytes)) Content _ t s.1 in (
        record {
          head = leb-true 4 (length bytes) p.0;
          edition = eqb-true (get_or bytes 3 0) 1 q.0;
          counted = r.0;
          long = eqb-true (length bytes) _ s.0;
          is_sound = u.0;
        },
        ok_same (table_in bytes) t u.1,
      )

pub record Counted (states letters : ℕ) : Type 0 where
  pub some : 1 ≤ states
  pub letter : 1 ≤ letters
  pub few : letters ≤ 32

pub counted_is : (states letters : ℕ) → is_counted states letters ≡ true → Counted states letters
counted_is states letters h =
    let p = and_parts (leb 1 states) (leb 1 letters && leb letters 32) h in
    let q = and_parts (leb 1 letters) (leb letters 32) p.1 in
    record { some = leb-true 1 states p.0; letter = leb-true 1 letters q.0; few = leb-true letters 32 q.1 }

-- a file is its head and the bytes behind it
pub head_is : (bytes : List ℕ) → 4 ≤ length bytes → bytes ≡ get_or bytes 0 0 ∷ get_or bytes 1 0 ∷ get_or bytes 2 0 ∷ get_or bytes 3 0 ∷ drop 4 bytes
head_is [] h = absurd (omega arith)
head_is (x ∷ []) h = absurd (omega arith)
head_is (x ∷ y ∷ []) h = absurd (omega arith)
head_is (x ∷ y ∷ z ∷ []) h = absurd (omega arith)
head_is (x ∷ y ∷ z ∷ w ∷ body) h = refl

pub body_long : (bytes : List ℕ) → Accepted bytes → length (drop 4 bytes) ≡ get_or bytes 0 0 * entry_size (get_or bytes 1 0)
body_long bytes a = let l = a.long in simp length-drop (omega arith)

pub file_is :
    (bytes : List ℕ) (t : Table) → Accepted bytes → length t.states ≡ get_or bytes 0 0 → t.letters ≡ get_or bytes 1 0 → t.shortest ≡ get_or bytes 2 0 → flat_map entry_bytes t.states ≡ drop 4 bytes → bytes ≡ file_of t
unfolding file_of
file_is bytes t a n k m j = let h = head_is bytes a.head in let e = a.edition in cc

pub count_of_parts : (bytes : List ℕ) → length (table_in bytes).states ≡ get_or bytes 0 0
count_of_parts bytes = length-map (parts bytes) entry_of ∙ length_cut (entry_size (get_or bytes 1 0)) (get_or bytes 0 0) (drop 4 bytes)

-- ---- the two directions

read_lawful : (bytes : List ℕ) → Bytes bytes → Accepted bytes → Lawful (table_in bytes)
read_lawful bytes b a =
    let c = counted_is (get_or bytes 0 0) (get_or bytes 1 0) a.counted in
    let n = count_of_parts bytes in
    let small = byte_at bytes b 0 in
    record {
      letters = (c.letter, c.few);
      states = (omega arith, omega arith);
      entries =
          subst (λ (m : ℕ). AllByRecursion (LawfulEntry (get_or bytes 1 0) m) (table_in bytes).states) (sym n)
          (parts_lawful (get_or bytes 1 0) (get_or bytes 0 0) (get_or bytes 0 0) (drop 4 bytes) (body_long bytes a) (All-drop (λ x. x < 256) 4 bytes b) a.is_sound);
    }

read_written : (bytes : List ℕ) → Bytes bytes → Accepted bytes → bytes ≡ file_of (table_in bytes)
read_written bytes b a =
    file_is bytes (table_in bytes) a (count_of_parts bytes) refl refl
    (parts_back (get_or bytes 1 0) (get_or bytes 0 0) (get_or bytes 0 0) (drop 4 bytes) (body_long bytes a) (All-drop (λ x. x < 256) 4 bytes b) a.is_sound)

retabled : (t : Table) (es : List Entry) → es ≡ t.states → ◌≡◌ {A = Table} (record { letters = t.letters; shortest = t.shortest; states = es }) t
retabled t es e = rw e

module _ (t : Table) (l : Lawful t) where
  parts_of_file : parts (file_of t) ≡ map entry_bytes t.states
  unfolding file_of
  parts_of_file = cut_entries t.letters (length t.states) t.states l.entries

  file_accepted : Accepted (file_of t)
  unfolding file_of
  file_accepted =
      let n = length_entries t.letters (length t.states) t.states l.entries in
      record {
        head = omega arith;
        edition = refl;
        counted = and_from _ _ (le-leb 1 _ l.states.0) (and_from _ _ (le-leb 1 _ l.letters.0) (le-leb _ 32 l.letters.1));
        long = omega arith;
        is_sound = ap (sound (length t.states)) parts_of_file ∙ entries_sound t.letters (length t.states) t.states l.entries;
      }

  table_of_file : table_in (file_of t) ≡ t
  unfolding file_of
  table_of_file =
      retabled t _ (ap (map entry_of) parts_of_file ∙ entries_back t.letters (length t.states) t.states l.entries)

  -- what a lawful table is written as reads as that table
  pub written_read : read_file (file_of t) ≡ Ok t
  written_read = accept (file_of t) file_accepted ∙ ap Ok table_of_file

pub bytes_from_typed : (bytes : List ℕ) → ((i : ℕ) → get_or bytes i 0 < 256) → Bytes bytes
bytes_from_typed bytes h = All-from_get_or (λ b. b < 256) bytes 0 (λ i _. h i)

pub reading_inverts_writing_lem : ReadingInvertsWriting
reading_inverts_writing_lem bytes t b = (
  λ h.
      let a = accepted bytes t h in
      (read_written bytes b a.0 ∙ ap file_of a.1, subst Lawful a.1 (read_lawful bytes b a.0)),
  λ h. ap read_file h.0 ∙ written_read t h.1,
)
