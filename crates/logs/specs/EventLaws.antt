-- Laws of what an event log shows, by which its answers are proved: a log whose blocks were judged one by one, and their cells counted, shows
-- the row of its bytes, and that row is lawful.
--   cell_of i         cell i of such a log: every block but the last gives 126 cells, so that its block is i / 126
--   list_from s n f   f s, f (s + 1), .., n of them
-- Assumes nothing.
use Rattle.std.proofs.Common.{◌≡◌, ℕ, zero, suc, ◌+◌, ◌*◌, ◌/◌, ◌%◌, ◌<◌, ◌≤◌, Bool, true, false, cond, eqb, ◌&&◌, List, [], ◌∷◌, ◌++◌, length, get_or, drop, replicate, Ok, Err, Result, sym, refl, ap, subst, ◌∙◌, append-nil, add-zero, zero-add, suc-add, add-suc, not-suc-le-zero, le_of_suc-le-suc, arith, lit≤, get_or-drop, get_or-take, drop-drop}
use Rattle.std.specs.Prelude.{nat_lt, slice_index_or}
use Rattle.std.proofs.lemmas.Bool.{cond_both, and_parts, ltb-true, eq-eqb, ne_eqb}
use Rattle.std.proofs.lemmas.Bool.Decides.{nat_tests}
use Rattle.trace.specs.Cells.{shown, cell_at, Below, Lettered, Lawful}
use Rattle.logs.specs.declared.cause.Cause.{Cause}
use Rattle.logs.specs.declared.cause.Cause.TheVariants.{Check, Number, Header, Record}
use Rattle.logs.specs.declared.cause.EventDamage.{EventDamage}
use Rattle.logs.specs.Blocks.{byte, word16, word32, check_of, well_headed, Verdict, verdict_of}
use Rattle.logs.specs.Records.{letter_of, damage_of, record_cell}
use Rattle.logs.specs.EventLogs.{record_cells, block_cells, cells_from, event_row, record_at, cell_in, block_at, cells_of, cell_count, Judged, WellSized}

abbrev pub cell_of : List ℕ → List Verdict → ℕ → Result ℕ EventDamage
cell_of bytes verdicts i = cell_in (i / 126) (i % 126) (slice_index_or verdicts (i / 126) (Ok 0)) bytes

unfoldable pub list_from : {X : Type 0} → ℕ → ℕ → (ℕ → X) → List X
list_from s zero f = []
list_from s (suc n) f = f s ∷ list_from (suc s) n f

module _ {X : Type 0} where
  pub length_list_from : (s n : ℕ) (f : ℕ → X) → length (list_from s n f) ≡ n
  unfolding list_from
  length_list_from s zero f = refl
  length_list_from s (suc n) f = ap suc (length_list_from (suc s) n f)

module _ {D : Type 0} (f : ℕ → Result ℕ D) where
  pub cell_list_from : (s n i : ℕ) → i < n → cell_at (list_from s n f) i ≡ shown (f (s + i))
  unfolding list_from
  cell_list_from s zero i h = absurd (not-suc-le-zero h)
  cell_list_from s (suc n) zero h = ap (λ (k : ℕ). shown (f k)) (sym (add-zero s))
  cell_list_from s (suc n) (suc i) h =
      cell_list_from (suc s) n i (le_of_suc-le-suc h) ∙ ap (λ (k : ℕ). shown (f k)) (suc-add s i ∙ sym (add-suc s i))

  pub lettered_list_from : (K : ℕ) → ((i : ℕ) → Below K (f i)) → (s n : ℕ) → Lettered K (list_from s n f)
  unfolding list_from
  lettered_list_from K below s zero = tt
  lettered_list_from K below s (suc n) = (below s, lettered_list_from K below (suc s) n)

record_below : (at h l c v : ℕ) → Below 32 (record_cell at h l c v)
unfolding record_cell
record_below at h l c v =
    cond_both (nat_lt (h * 256 + l) 1440 && (nat_lt c 8 && nat_lt v 256)) (Ok (letter_of c v)) (Err (damage_of Record at)) (Below 32)
    (λ e.
    let p = and_parts (nat_lt (h * 256 + l) 1440) (nat_lt c 8 && nat_lt v 256) e in
    let q = and_parts (nat_lt c 8) (nat_lt v 256) p.1 in
    let code : c < 8 = ltb-true c 8 q.0 in
    let level : v < 256 = ltb-true v 256 q.1 in
    omega arith)
    (λ e. tt)

cell_in_below : (place n : ℕ) (v : Verdict) (bytes : List ℕ) → Below 32 (cell_in place n v bytes)
unfolding cell_in
cell_in_below place n (Ok count) bytes =
    let at : ℕ = 512 * place + 4 + 4 * n in
    record_below at (byte bytes at) (byte bytes (at + 1)) (byte bytes (at + 2)) (byte bytes (at + 3))
cell_in_below place n (Err cause) bytes = tt

-- ---- the row of the blocks, one after the other, is the list of the cells by their numbers

module _ {X : Type 0} where
  list_from_append : (s m n : ℕ) (f : ℕ → X) → list_from s (m + n) f ≡ list_from s m f ++ list_from (s + m) n f
  unfolding list_from
  list_from_append s zero n f = simp (zero-add, add-zero)
  list_from_append s (suc m) n f = simp suc-add (ap (λ (r : List X). f s ∷ r) (list_from_append (suc s) m n f ∙ ap (λ (k : ℕ). list_from (suc s) m f ++ list_from k n f) (suc-add s m ∙ sym (add-suc s m))))

  list_from_same : (s n : ℕ) (f : ℕ → X) (x : X) → ((j : ℕ) → j < n → f (s + j) ≡ x) → list_from s n f ≡ replicate n x
  unfolding list_from
  list_from_same s zero f x h = refl
  list_from_same s (suc n) f x h =
      let head : f s ≡ x = ap f (sym (add-zero s)) ∙ h 0 (omega arith) in
      let tail = list_from_same (suc s) n f x (λ j l. ap f (suc-add s j ∙ sym (add-suc s j)) ∙ h (suc j) (omega arith)) in
      λ i. head i ∷ tail i

byte_at : (bytes : List ℕ) (k j : ℕ) → j < 512 → byte (block_at bytes k) j ≡ byte bytes (512 * k + j)
byte_at bytes k j h = get_or-take 512 (drop (512 * k) bytes) j 0 h ∙ get_or-drop (512 * k) bytes j 0

byte_behind : (bytes : List ℕ) (k j i : ℕ) → 4 + 4 * j + i < 512 → byte (drop (4 + 4 * j) (block_at bytes k)) i ≡ byte bytes (512 * k + 4 + 4 * j + i)
byte_behind bytes k j i h =
    let e : 512 * k + (4 + 4 * j + i) ≡ 512 * k + 4 + 4 * j + i = omega arith in
    get_or-drop (4 + 4 * j) (block_at bytes k) i 0 ∙ byte_at bytes k (4 + 4 * j + i) h ∙ ap (byte bytes) e

-- record j of block k
record_behind : (bytes : List ℕ) (k j : ℕ) → j < 126 → record_cell (512 * k + 4 + 4 * j) (byte (drop (4 + 4 * j) (block_at bytes k)) 0) (byte (drop (4 + 4 * j) (block_at bytes k)) 1) (byte (drop (4 + 4 * j) (block_at bytes k)) 2) (byte (drop (4 + 4 * j) (block_at bytes k)) 3) ≡ record_at bytes (512 * k + 4 + 4 * j)
record_behind bytes k j h =
    let at : ℕ = 512 * k + 4 + 4 * j in
    let a = byte_behind bytes k j 0 (omega arith) ∙ ap (byte bytes) (add-zero (512 * k + 4 + 4 * j)) in
    let b = byte_behind bytes k j 1 (omega arith) in
    let c = byte_behind bytes k j 2 (omega arith) in
    let d = byte_behind bytes k j 3 (omega arith) in
    λ i. record_cell at (a i) (b i) (c i) (d i)

module _ (bytes : List ℕ) (verdicts : List Verdict) where
  -- cell j of block k is cell 126 k + j of the log
  cell_of_block : (k j : ℕ) → j < 126 → cell_of bytes verdicts (126 * k + j) ≡ cell_in k j (get_or verdicts k (Ok 0)) bytes
  cell_of_block k j h =
      let block : (126 * k + j) / 126 ≡ k = omega arith in
      let cell : (126 * k + j) % 126 ≡ j = omega arith in
      λ i. cell_in (block i) (cell i) (get_or verdicts (block i) (Ok 0)) bytes

  sound_cell : (k j n : ℕ) → get_or verdicts k (Ok 0) ≡ Ok n → j < 126 → cell_of bytes verdicts (126 * k + j) ≡ record_at bytes (512 * k + 4 + 4 * j)
  unfolding cell_in
  sound_cell k j n v h = cell_of_block k j h ∙ ap (λ (x : Verdict). cell_in k j x bytes) v

  unsound_cell : (k j : ℕ) (cause : Cause) → get_or verdicts k (Ok 0) ≡ Err cause → j < 126 → cell_of bytes verdicts (126 * k + j) ≡ Err (damage_of cause (512 * k))
  unfolding cell_in
  unsound_cell k j cause v h = cell_of_block k j h ∙ ap (λ (x : Verdict). cell_in k j x bytes) v

  -- the records of block k from record j on
  records_list : (k count n j : ℕ) → get_or verdicts k (Ok 0) ≡ Ok count → j + n ≤ 126 → record_cells (512 * k + 4 + 4 * j) n (drop (4 + 4 * j) (block_at bytes k)) ≡ list_from (126 * k + j) n (cell_of bytes verdicts)
  unfolding record_cells list_from
  records_list k count zero j v h = refl
  records_list k count (suc n) j v h =
      let head = record_behind bytes k j (omega arith) ∙ sym (sound_cell k j count v (omega arith)) in
      let at : 512 * k + 4 + 4 * j + 4 ≡ 512 * k + 4 + 4 * suc j = omega arith in
      let off : 4 + 4 * j + 4 ≡ 4 + 4 * suc j = omega arith in
      let rest = drop-drop 4 (4 + 4 * j) (block_at bytes k) ∙ ap (λ (m : ℕ). drop m (block_at bytes k)) off in
      let from : 126 * k + suc j ≡ suc (126 * k + j) = omega arith in
      let tail = (λ i. record_cells (at i) n (rest i)) ∙ records_list k count n (suc j) v (omega arith) ∙ ap (λ (m : ℕ). list_from m n (cell_of bytes verdicts)) from in
      λ i. head i ∷ tail i

  block_list : (k : ℕ) (v : Verdict) → get_or verdicts k (Ok 0) ≡ v → cells_of v ≤ 126 → block_cells k v (block_at bytes k) ≡ list_from (126 * k) (cells_of v) (cell_of bytes verdicts)
  unfolding block_cells
  block_list k (Ok n) v h =
      let at : 512 * k + 4 ≡ 512 * k + 4 + 4 * 0 = omega arith in
      ap (λ (m : ℕ). record_cells m n (drop 4 (block_at bytes k))) at ∙ records_list k n n 0 v (omega arith) ∙ ap (λ (m : ℕ). list_from m n (cell_of bytes verdicts)) (add-zero (126 * k))
  block_list k (Err cause) v h = sym (list_from_same (126 * k) 126 (cell_of bytes verdicts) (Err (damage_of cause (512 * k))) (λ j l. unsound_cell k j cause v l))

-- ---- a block that is not the last one gives 126 cells, and no block gives more

headed_cells : (last : Bool) (b : List ℕ) → well_headed last b ≡ true → byte b 2 ≤ 126
headed_cells last b h = grind (arith, nat_tests)

headed_full : (b : List ℕ) → well_headed false b ≡ true → byte b 2 ≡ 126
headed_full b h = grind (arith, nat_tests)

-- a property of both kinds of verdict holds of what is found
verdict_both : (P : Verdict → Type 0) (number : ℕ) (last : Bool) (b : List ℕ) → (well_headed last b ≡ true → P (Ok (byte b 2))) → ((cause : Cause) → P (Err cause)) → P (verdict_of number last b)
unfolding verdict_of
verdict_both P number last b sound unsound =
    cond_both (eqb (word32 b 508) (check_of b)) (cond (eqb (word16 b 0) number) (cond (well_headed last b) (Ok (byte b 2)) (Err Header)) (Err Number)) (Err Check) P
    (λ _. cond_both (eqb (word16 b 0) number) (cond (well_headed last b) (Ok (byte b 2)) (Err Header)) (Err Number) P
    (λ _. cond_both (well_headed last b) (Ok (byte b 2)) (Err Header) P sound (λ _. unsound Header))
    (λ _. unsound Number))
    (λ _. unsound Check)

verdict_cells : (number : ℕ) (last : Bool) (b : List ℕ) → cells_of (verdict_of number last b) ≤ 126
verdict_cells number last b = verdict_both (λ v. cells_of v ≤ 126) number last b (headed_cells last b) (λ _. lit≤ tt)

verdict_full : (number : ℕ) (b : List ℕ) → cells_of (verdict_of number false b) ≡ 126
verdict_full number b = verdict_both (λ v. cells_of v ≡ 126) number false b (headed_full b) (λ _. refl)

-- ---- the whole row

module _ (bytes : List ℕ) (verdicts : List Verdict) (blocks : ℕ) (is : blocks ≡ length bytes / 512) (judged : Judged bytes verdicts blocks) where
  found : (k : ℕ) (last : Bool) → k < blocks → eqb (k + 1) blocks ≡ last → get_or verdicts k (Ok 0) ≡ verdict_of k last (block_at bytes k)
  found k last h e = judged k h ∙ ap (λ (t : Bool). verdict_of k t (block_at bytes k)) (ap (eqb (k + 1)) (sym is) ∙ e)

  block_found : (k : ℕ) (last : Bool) → k < blocks → eqb (k + 1) blocks ≡ last → block_cells k (verdict_of k last (block_at bytes k)) (block_at bytes k) ≡ list_from (126 * k) (cells_of (verdict_of k last (block_at bytes k))) (cell_of bytes verdicts)
  block_found k last h e = block_list bytes verdicts k (verdict_of k last (block_at bytes k)) (found k last h e) (verdict_cells k last (block_at bytes k))

  -- the cells of the blocks from k on, of which the last is block k + l
  row_from : (l k : ℕ) → k + suc l ≡ blocks → cells_from k (suc l) (drop (512 * k) bytes) ≡ list_from (126 * k) (126 * l + cells_of (get_or verdicts (k + l) (Ok 0))) (cell_of bytes verdicts)
  unfolding cells_from
  row_from zero k h =
      let last : eqb (k + 1) blocks ≡ true = eq-eqb (k + 1) blocks (omega arith) in
      let v : cells_of (verdict_of k true (block_at bytes k)) ≡ 126 * 0 + cells_of (get_or verdicts (k + 0) (Ok 0)) =
      ap cells_of (sym (found k true (omega arith) last) ∙ ap (λ (m : ℕ). get_or verdicts m (Ok 0)) (sym (add-zero k))) ∙ sym (zero-add (cells_of (get_or verdicts (k + 0) (Ok 0)))) in
      append-nil (block_cells k (verdict_of k true (block_at bytes k)) (block_at bytes k)) ∙ block_found k true (omega arith) last ∙ ap (λ (m : ℕ). list_from (126 * k) m (cell_of bytes verdicts)) v
  row_from (suc l) k h =
      let last : eqb (k + 1) blocks ≡ false = ne_eqb (k + 1) blocks (λ e. omega arith) in
      let n : ℕ = 126 * l + cells_of (get_or verdicts (suc k + l) (Ok 0)) in
      let here = block_found k false (omega arith) last ∙ ap (λ (m : ℕ). list_from (126 * k) m (cell_of bytes verdicts)) (verdict_full k (block_at bytes k)) in
      let off : 512 * k + 512 ≡ 512 * suc k = omega arith in
      let next : 126 * suc k ≡ 126 * k + 126 = omega arith in
      let below = ap (cells_from (suc k) (suc l)) (drop-drop 512 (512 * k) bytes ∙ ap (λ (m : ℕ). drop m bytes) off) ∙ row_from l (suc k) (omega arith) ∙ ap (λ (m : ℕ). list_from m n (cell_of bytes verdicts)) next in
      let place : suc k + l ≡ k + suc l = omega arith in
      let count : 126 + n ≡ 126 * suc l + cells_of (get_or verdicts (k + suc l) (Ok 0)) = omega (arith, ap (λ (m : ℕ). cells_of (get_or verdicts m (Ok 0))) place) in
      (λ i. here i ++ below i) ∙ sym (list_from_append (126 * k) 126 n (cell_of bytes verdicts)) ∙ ap (λ (m : ℕ). list_from (126 * k) m (cell_of bytes verdicts)) count

-- ---- what an opened log shows: each of its blocks was judged, and their cells were counted

module _ (bytes : List ℕ) (verdicts : List Verdict) where
  row_of : (blocks : ℕ) → blocks ≡ length bytes / 512 → Judged bytes verdicts blocks → event_row bytes ≡ list_from 0 (cell_count blocks verdicts) (cell_of bytes verdicts)
  unfolding event_row cells_from list_from
  row_of zero is judged = ap (λ (n : ℕ). cells_from 0 n bytes) (sym is)
  row_of (suc l) is judged =
      let place : 126 * l + cells_of (get_or verdicts (0 + l) (Ok 0)) ≡ 126 * l + cells_of (get_or verdicts l (Ok 0)) = ap (λ (m : ℕ). 126 * l + cells_of (get_or verdicts m (Ok 0))) (zero-add l) in
      ap (λ (n : ℕ). cells_from 0 n bytes) (sym is) ∙ row_from bytes verdicts (suc l) is judged l 0 (zero-add (suc l)) ∙ ap (λ (n : ℕ). list_from 0 n (cell_of bytes verdicts)) place

  count_within : (blocks : ℕ) → Judged bytes verdicts blocks → cell_count blocks verdicts ≤ 126 * blocks
  count_within zero judged = lit≤ tt
  count_within (suc l) judged =
      let last = ap cells_of (judged l (omega arith)) in
      let most = verdict_cells l (eqb (l + 1) (length bytes / 512)) (block_at bytes l) in
      omega arith

module _ (bytes : List ℕ) (verdicts : List Verdict) (cells : ℕ) (judged : Judged bytes verdicts (length bytes / 512)) (counted : cells ≡ cell_count (length bytes / 512) verdicts) where
  pub row_shown : event_row bytes ≡ list_from 0 cells (cell_of bytes verdicts)
  row_shown = row_of bytes verdicts (length bytes / 512) refl judged ∙ ap (λ (n : ℕ). list_from 0 n (cell_of bytes verdicts)) (sym counted)

  pub length_events : length (event_row bytes) ≡ cells
  length_events = ap length row_shown ∙ length_list_from 0 cells (cell_of bytes verdicts)

  pub cell_events : (i : ℕ) → i < cells → cell_at (event_row bytes) i ≡ shown (cell_of bytes verdicts i)
  cell_events i h =
      ap (λ (row : List (Result ℕ EventDamage)). cell_at row i) row_shown ∙ cell_list_from (cell_of bytes verdicts) 0 cells i h ∙ ap (λ (k : ℕ). shown (cell_of bytes verdicts k)) (zero-add i)

  pub cells_within : cells ≤ 126 * (length bytes / 512)
  cells_within = omega (arith, count_within bytes verdicts (length bytes / 512) judged)

-- so many cells of any bytes and verdicts are lawful
pub lawful_cells : (bytes : List ℕ) (verdicts : List Verdict) (n : ℕ) → n ≤ 16777216 → Lawful 32 (list_from 0 n (cell_of bytes verdicts))
lawful_cells bytes verdicts n h = record {
  some_letter = lit≤ tt;
  few_letters = lit≤ tt;
  short = omega (arith, length_list_from 0 n (cell_of bytes verdicts));
  lettered = lettered_list_from (cell_of bytes verdicts) 32 (λ i. cell_in_below (i / 126) (i % 126) (slice_index_or verdicts (i / 126) (Ok 0)) bytes) 0 n;
}

pub lawful_events : (bytes : List ℕ) (verdicts : List Verdict) (cells : ℕ) → WellSized bytes → Judged bytes verdicts (length bytes / 512) → cells ≡ cell_count (length bytes / 512) verdicts → Lawful 32 (event_row bytes)
lawful_events bytes verdicts cells sized judged counted =
    let few : cells ≤ 16777216 = omega (arith, sized.1, cells_within bytes verdicts cells judged counted) in
    subst (Lawful 32) (sym (row_shown bytes verdicts cells judged counted)) (lawful_cells bytes verdicts cells few)
