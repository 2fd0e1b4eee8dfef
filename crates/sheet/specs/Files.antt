-- The file of a sheet: how a table is written, and what reading asks.
--   file_of     the bytes of a table's file
--   read_file   the table of a file, or the first question that is answered by no
use Rattle.std.specs.Prelude.{◌≡◌, ℕ, zero, suc, ◌+◌, ◌*◌, ◌/◌, ◌%◌, ◌<◌, Bool, true, false, cond, ◌&&◌, ◌↔◌, List, [], ◌∷◌, ◌++◌, map, length, take, drop, Ok, Err, Result, ◌==◌, nat_le, slice_index}
use Rattle.std.specs.List.{flat_map, list_all, AllByRecursion}
use Rattle.sheet.specs.declared.refusals.SheetRefusal.{SheetRefusal}
use Rattle.sheet.specs.declared.refusals.SheetRefusal.TheVariants.{Head, Edition, Counts, Length, Content, Buffer}
use Rattle.sheet.specs.Tables.{Entry, Table, Lawful, most_letters}

-- ---- writing

-- four bytes, the highest first
abbrev pub four_bytes : ℕ → List ℕ
four_bytes n = (n / 16777216 % 256) ∷ (n / 65536 % 256) ∷ (n / 256 % 256) ∷ (n % 256) ∷ []

-- a state: its marks, its prefix mark, and a byte for each arrow
abbrev pub entry_bytes : Entry → List ℕ
entry_bytes e = four_bytes e.marks ++ (cond e.prefix 1 0 ∷ e.arrows)

-- the head has the number of states, the number of letters, the shortest length and the edition
unfoldable pub file_of : Table → List ℕ
file_of t = length t.states ∷ t.letters ∷ t.shortest ∷ 1 ∷ flat_map entry_bytes t.states

-- what writing answers about a buffer of so many bytes: how long the file is
abbrev pub written : Table → ℕ → Result ℕ SheetRefusal
written t room = cond (nat_le (length (file_of t)) room) (Ok (length (file_of t))) (Err Buffer)

-- what the buffer holds then: the file and the bytes that stood behind it, or what it held
abbrev pub overwritten : Table → List ℕ → List ℕ
overwritten t old = cond (nat_le (length (file_of t)) (length old)) (file_of t ++ drop (length (file_of t)) old) old

-- ---- reading

-- goes on if the answer is yes, and refuses otherwise
abbrev pub ask : {A : Type 0} → Bool → SheetRefusal → Result A SheetRefusal → Result A SheetRefusal
ask true refusal next = next
ask false refusal next = Err refusal

-- how many bytes a state has
abbrev pub entry_size : ℕ → ℕ
entry_size letters = 5 + letters

-- so many parts of one size, one after the other
unfoldable pub cut : ℕ → ℕ → List ℕ → List (List ℕ)
cut size zero bytes = []
cut size (suc n) bytes = take size bytes ∷ cut size n (drop size bytes)

-- no byte is above the bound
abbrev pub up_to : ℕ → List ℕ → Bool
up_to most bytes = list_all (λ b. nat_le b most) bytes

-- the prefix mark is 0 or 1, and every arrow is at most the number of states
abbrev pub sound_entry : ℕ → List ℕ → Bool
sound_entry states part = nat_le (slice_index part 4) 1 && up_to states (drop 5 part)

abbrev pub sound : ℕ → List (List ℕ) → Bool
sound states parts = list_all (sound_entry states) parts

-- the state that a part of the file writes
abbrev pub entry_of : List ℕ → Entry
entry_of part =
    record {
      marks = slice_index part 0 * 16777216 + slice_index part 1 * 65536 + slice_index part 2 * 256 + slice_index part 3;
      prefix = (slice_index part 4 == 1);
      arrows = drop 5 part;
    }

-- the parts of the states, behind the head
abbrev pub parts : List ℕ → List (List ℕ)
parts bytes = cut (entry_size (slice_index bytes 1)) (slice_index bytes 0) (drop 4 bytes)

-- the questions about the head
abbrev pub is_counted : ℕ → ℕ → Bool
is_counted states letters = nat_le 1 states && (nat_le 1 letters && nat_le letters most_letters)

abbrev pub is_long : List ℕ → Bool
is_long bytes = length bytes == 4 + slice_index bytes 0 * entry_size (slice_index bytes 1)

-- the table that an accepted file writes
abbrev pub table_in : List ℕ → Table
table_in bytes = record { letters = slice_index bytes 1; shortest = slice_index bytes 2; states = map entry_of (parts bytes) }

unfoldable pub read_file : List ℕ → Result Table SheetRefusal
read_file bytes =
    ask (nat_le 4 (length bytes)) Head (
    ask (slice_index bytes 3 == 1) Edition (
    ask (is_counted (slice_index bytes 0) (slice_index bytes 1)) Counts (
    ask (is_long bytes) Length (
    ask (sound (slice_index bytes 0) (parts bytes)) Content (
    Ok (table_in bytes))))))

-- ---- reading and writing are inverse

-- the numbers are bytes
abbrev pub Bytes : List ℕ → Type 0
Bytes bytes = AllByRecursion (λ b. b < 256) bytes

-- a file is accepted exactly if it is what a lawful table is written as, and then it reads as that table
abbrev pub ReadingInvertsWriting : Type 0
ReadingInvertsWriting = (bytes : List ℕ) (t : Table) → Bytes bytes → ((read_file bytes ≡ Ok t) ↔ ((bytes ≡ file_of t) × Lawful t))
