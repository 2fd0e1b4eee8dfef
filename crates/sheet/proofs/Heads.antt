-- The questions about a file, from its head on.
use Rattle.std.proofs.Common.{◌≡◌, ℕ, ◌+◌, ◌-◌, ◌*◌, true, false, List, map, length, get_or, drop, is_ok, Ok, Err, Result, sym, refl, ap, ◌∙◌, arith}
use Rattle.std.specs.Result.{IsErrAnd}
use Rattle.std.proofs.lemmas.List.{length-drop, length-map}
use Rattle.sheet.specs.declared.Sheet.{Sheet}
use Rattle.sheet.specs.declared.states.State.{State}
use Rattle.sheet.specs.declared.refusals.Unmade.{Unmade}
use Rattle.sheet.specs.declared.refusals.Unmade.TheVariants.{Refused, NoMemory}
use Rattle.sheet.specs.declared.refusals.SheetRefusal.{SheetRefusal}
use Rattle.sheet.specs.declared.layout.Head.{Head}
use Rattle.sheet.specs.declared.refusals.SheetRefusal.TheVariants.{Length, Content}
use Rattle.sheet.specs.Tables.{Table}
use Rattle.sheet.specs.Files.{entry_size, cut, sound, entry_of, is_counted, parts, table_in, read_file}
use Rattle.sheet.specs.Heads.{Begins, Accepts}
use Rattle.sheet.specs.Views.{entry_in, Gives}
use Rattle.sheet.proofs.Files.{Accepted, accept, length_cut}
use Rattle.sheet.proofs.Questions.{is_counted_lem, refuse_length, refuse_content}

module _ (bytes : List ℕ) (head : Head) (rest : List ℕ) (b : Begins bytes head rest) where
  -- the head has as many states and letters as there may be
  begun_counted : is_counted (get_or bytes 0 0) (get_or bytes 1 0) ≡ true
  begun_counted =
      let s = b.states in
      let l = b.letters in
      let some = head.some in
      let few = head.few in
      let peopled = head.peopled in
      is_counted_lem (get_or bytes 0 0) (get_or bytes 1 0) (λ e. omega arith) (λ e. omega arith) (omega arith)

  -- so many bytes as the head says
  said : head.states * entry_size head.letters ≡ get_or bytes 0 0 * entry_size (get_or bytes 1 0)
  said = ap (λ (n : ℕ). n * entry_size head.letters) b.states ∙ ap (λ (n : ℕ). get_or bytes 0 0 * entry_size n) b.letters

  behind : length rest ≡ length bytes - 4
  behind = ap length b.body ∙ length-drop 4 bytes

  long_said : length rest ≡ head.states * entry_size head.letters → length bytes ≡ 4 + get_or bytes 0 0 * entry_size (get_or bytes 1 0)
  long_said l = let s = said in let d = behind in let w = b.whole in omega arith

  parts_said : cut (entry_size head.letters) head.states rest ≡ parts bytes
  parts_said =
      ap (cut (entry_size head.letters) head.states) b.body
      ∙ ap (λ (n : ℕ). cut (entry_size head.letters) n (drop 4 bytes)) b.states
      ∙ ap (λ (n : ℕ). cut (entry_size n) (get_or bytes 0 0) (drop 4 bytes)) b.letters

  sound_said : sound head.states (cut (entry_size head.letters) head.states rest) ≡ sound (get_or bytes 0 0) (parts bytes)
  sound_said = ap (sound head.states) parts_said ∙ ap (λ (n : ℕ). sound n (parts bytes)) b.states

  pub begun_long : (length rest ≡ head.states * entry_size head.letters → ⊥) → read_file bytes ≡ Err Length
  begun_long bad =
      refuse_length bytes b.whole b.edition begun_counted (λ e. bad (let s = said in let d = behind in omega arith))

  pub begun_content : length rest ≡ head.states * entry_size head.letters → sound head.states (cut (entry_size head.letters) head.states rest) ≡ false → read_file bytes ≡ Err Content
  begun_content l bad = refuse_content bytes b.whole b.edition begun_counted (long_said l) (sym sound_said ∙ bad)

module _ (bytes : List ℕ) (head : Head) (rest : List ℕ) (a : Accepts bytes head rest) where
  -- a file about which all questions are answered by yes
  pub accepts : Accepted bytes
  accepts =
      record {
        head = a.begins.whole;
        edition = a.begins.edition;
        counted = begun_counted bytes head rest a.begins;
        long = long_said bytes head rest a.begins a.long;
        is_sound = sym (sound_said bytes head rest a.begins) ∙ a.good;
      }

  -- the states that were read are the table that the file writes
  pub reads :
      (items : List State) → map (entry_in head.letters) items ≡ map entry_of (cut (entry_size head.letters) head.states rest)
      → read_file bytes ≡ Ok (record { letters = head.letters; shortest = head.shortest; states = map (entry_in head.letters) items })
  reads items e =
      let l = a.begins.letters in
      let s = a.begins.shortest in
      let all = e ∙ ap (map entry_of) (parts_said bytes head rest a.begins) in
      let table : ◌≡◌ {A = Table} (table_in bytes) (record { letters = head.letters; shortest = head.shortest; states = map (entry_in head.letters) items }) = rw (all, l, s) refl in
      accept bytes accepts ∙ ap Ok table

  pub count_read :
      (items : List State) → map (entry_in head.letters) items ≡ map entry_of (cut (entry_size head.letters) head.states rest) → length items ≡ head.states
  count_read items e =
      sym (length-map items (entry_in head.letters)) ∙ ap length e
      ∙ length-map (cut (entry_size head.letters) head.states rest) entry_of
      ∙ length_cut (entry_size head.letters) head.states rest

  -- where memory is wanting, the file would be read
  pub no_memory : (r : Result Sheet (Unmade SheetRefusal)) → IsErrAnd r (λ e. e ≡ NoMemory) → Gives (read_file bytes) r
  no_memory (Ok sheet) w = absurd w
  no_memory (Err (Refused refusal)) w = absurd (cc)
  no_memory (Err NoMemory) w = ap is_ok (accept bytes accepts)
