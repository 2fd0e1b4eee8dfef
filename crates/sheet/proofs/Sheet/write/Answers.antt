use Rattle.std.proofs.Common.{◌≡◌, ℕ, ◌+◌, ◌*◌, length, Ok, vec_len, ap, ◌∙◌, sym, arith}
use Rattle.sheet.specs.Files.{file_of}
use Rattle.sheet.specs.Views.{table_of}
use Rattle.sheet.proofs.Goods.{sheet_lawful}
use Rattle.sheet.proofs.Writes.{file_long, file_written, no_room, room, read_again}
use Rattle.sheet.proofs.Sheet.write.Goals as goal
use Rattle.sheet.proofs.Sheet.write.Goals.{After-entry_size}

-- the length that the code computes is the file's
long : (c : After-entry_size) → 4 + c.len-count.result * c.entry_size.result ≡ length (file_of (table_of c.args.self.now))
long c =
    ap (λ (n : ℕ). 4 + n * c.entry_size.result) c.len-count.ensures
    ∙ ap (λ (n : ℕ). 4 + vec_len c.args.self.now.states * n) c.entry_size.ensures.answer
    ∙ sym (file_long c.args.self.now)

pub returns-then-buffer-long : goal.returns-then-buffer-long
returns-then-buffer-long c =
    let l = long (goal.at.returns-then-buffer-long c).After-entry_size in
    let no = no_room (table_of c.args.self.now) c.args.buffer.now (omega (arith, l)) in
    record { answer = no.0; held = no.1; again = tt }

pub returns : goal.returns
returns c =
    let sheet = c.args.self.now in
    let d = c.args.buffer.now in
    let t = table_of sheet in
    let l = long (goal.at.returns c).After-entry_size in
    let r = room t d (omega (arith, l)) in
    let file = file_written sheet d c.copy_from_slice.new.self c.put_states.new.body c.len-count.result _ c.len-count.ensures c.copy_from_slice.ensures.after c.put_states.ensures.after (omega arith) in
    record {
      answer = ap Ok l ∙ r.0;
      held = file ∙ r.1;
      again = read_again t d _ _ (sheet_lawful sheet) l file;
    }
