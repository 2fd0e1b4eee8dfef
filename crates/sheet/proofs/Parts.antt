-- The state that a part of a file writes, as the code makes it.
use Rattle.std.proofs.Common.{◌≡◌, ℕ, zero, suc, ◌+◌, ◌*◌, ◌^◌, ◌<◌, ◌≤◌, Bool, true, eqb, leb, List, [], ◌∷◌, ◌++◌, map, length, get_or, take, drop, sym, ap, ◌∙◌, ⊎_elim, subst, suc-mul, zero-mul, arith}
use Rattle.std.proofs.ByRecursion.{All-get_or}
use Rattle.std.proofs.lemmas.List.{append_assoc, map_push, ext_get_or, get_or-take, length-take, length-drop, length-append, take_at, drop_at}
use Rattle.std.proofs.lemmas.Bool.{and_parts, cases_lt}
use Rattle.sheet.specs.declared.states.State.{State}
use Rattle.sheet.specs.States.{Good}
use Rattle.sheet.specs.Tables.{Entry, most_letters}
use Rattle.sheet.specs.Files.{entry_size, cut, up_to, sound_entry, entry_of}
use Rattle.sheet.specs.Views.{entry_in}
use Rattle.sheet.proofs.Files.{decides_up_to}

-- arrows with room for all letters, read from the bytes of those that there are
pub record Arrows (bytes arrows : List ℕ) : Type 0 where
  pub wide : length arrows ≡ most_letters
  pub there : (a : ℕ) → a < length bytes → get_or arrows a 0 ≡ get_or bytes a 0
  pub bare : (a : ℕ) → length bytes ≤ a → get_or arrows a 0 ≡ 0

module _ (letters : ℕ) (part : List ℕ) (long : length part ≡ entry_size letters) (few : letters ≤ most_letters) (arrows : List ℕ) (read : Arrows (drop 5 part) arrows) where
  count : length (drop 5 part) ≡ letters
  count = simp length-drop (omega arith)

  front_arrows : take letters arrows ≡ drop 5 part
  front_arrows =
      let w = read.wide in
      let n = count in
      let m : length (take letters arrows) ≡ letters = simp length-take (omega arith) in
      ext_get_or 0 (take letters arrows) (drop 5 part) (m ∙ sym n)
      (λ i h. get_or-take letters arrows i 0 (omega arith) ∙ read.there i (omega arith))

  pub state_entry :
      (front : List ℕ) (marks : ℕ) → front ≡ take 5 part → marks ≡ get_or front 0 0 * 16777216 + get_or front 1 0 * 65536 + get_or front 2 0 * 256 + get_or front 3 0
      → entry_in letters (record { marks = marks; prefix = eqb (get_or front 4 0) 1; arrows = arrows }) ≡ entry_of part
  state_entry front marks f m =
      let at : (i : ℕ) → i < 5 → get_or front i 0 ≡ get_or part i 0 = λ i h. ap (λ (xs : List ℕ). get_or xs i 0) f ∙ get_or-take 5 part i 0 h in
      let a = at 0 (omega arith) in
      let b = at 1 (omega arith) in
      let c = at 2 (omega arith) in
      let d = at 3 (omega arith) in
      let e = at 4 (omega arith) in
      let x = front_arrows in
      cc

  pub state_good : (states marks : ℕ) (prefix : Bool) → marks < 2 ^ 32 → sound_entry states part ≡ true → Good letters states (record { marks = marks; prefix = prefix; arrows = arrows })
  state_good states marks prefix h s =
      let n = count in
      let inside = (decides_up_to states (drop 5 part)).0 (and_parts (leb (get_or part 4 0) 1) (up_to states (drop 5 part)) s).1 in
      record {
        marks = h;
        wide = read.wide;
        inside = λ a.
            ⊎_elim
            (λ (l : a < length (drop 5 part)).
            let e = read.there a l in
            let i = All-get_or (λ b. b ≤ states) (drop 5 part) a 0 l inside in
            omega arith)
            (λ (l : length (drop 5 part) ≤ a). let e = read.bare a l in omega arith)
            (cases_lt a (length (drop 5 part)));
        bare = λ a l. read.bare a (omega arith);
      }

-- ---- all parts of a file

-- the bytes that are left are so many parts of one size, of which P holds
pub record Left (size : ℕ) (rest : List ℕ) (P : List (List ℕ) → Type 0) : Type 0 where
  pub count : ℕ
  pub long : length rest ≡ count * size
  pub holds : P (cut size count rest)

module _ (size : ℕ) (P : List (List ℕ) → Type 0) where
  next_from :
      (n : ℕ) (xs part rest : List ℕ) → 0 < size → xs ≡ part ++ rest → length part ≡ size → length xs ≡ n * size → P (cut size n xs)
      → Left size rest (λ parts. P (part ∷ parts))
  unfolding cut
  next_from zero xs part rest h e l long p =
      absurd (let n = ap length e ∙ length-append part rest in let z = zero-mul size in omega arith)
  next_from (suc m) xs part rest h e l long p =
      let n = ap length e ∙ length-append part rest in
      let s = suc-mul m size in
      let first : take size xs ≡ part = ap (take size) e ∙ take_at part rest size l in
      let others : drop size xs ≡ rest = ap (drop size) e ∙ drop_at part rest size l in
      record {
        count = m;
        long = omega arith;
        holds = subst P (ap (λ (x : List ℕ). x ∷ cut size m (drop size xs)) first ∙ ap (λ (ys : List ℕ). part ∷ cut size m ys) others) p;
      }

  pub left_next : (xs part rest : List ℕ) → 0 < size → xs ≡ part ++ rest → length part ≡ size → Left size xs P → Left size rest (λ parts. P (part ∷ parts))
  left_next xs part rest h e l left = next_from left.count xs part rest h e l left.long left.holds

  none_from : (n : ℕ) (xs : List ℕ) → length xs < size → length xs ≡ n * size → P (cut size n xs) → P []
  unfolding cut
  none_from zero xs h long p = p
  none_from (suc m) xs h long p = absurd (let s = suc-mul m size in omega arith)

  pub left_none : (xs : List ℕ) → length xs < size → Left size xs P → P []
  left_none xs h left = none_from left.count xs h left.long left.holds

-- what holds of the parts that are left, where it tells something else of them
pub left_then : (size : ℕ) (P Q : List (List ℕ) → Type 0) (rest : List ℕ) → ((parts : List (List ℕ)) → P parts → Q parts) → Left size rest P → Left size rest Q
left_then size P Q rest f left = record { count = left.count; long = left.long; holds = f (cut size left.count rest) left.holds }

-- a state more is read
pub more_states :
    (letters : ℕ) (xs : List State) (s : State) (part : List ℕ) (parts : List (List ℕ)) (all : List Entry)
    → entry_in letters s ≡ entry_of part
    → map (entry_in letters) xs ++ map entry_of (part ∷ parts) ≡ all
    → map (entry_in letters) (xs ++ s ∷ []) ++ map entry_of parts ≡ all
more_states letters xs s part parts all e so_far =
    ap (λ (es : List Entry). es ++ map entry_of parts) (map_push (entry_in letters) xs s)
    ∙ append_assoc (map (entry_in letters) xs) (entry_in letters s ∷ []) (map entry_of parts)
    ∙ ap (λ (x : Entry). map (entry_in letters) xs ++ (x ∷ map entry_of parts)) e
    ∙ so_far
