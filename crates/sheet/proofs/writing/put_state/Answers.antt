use Rattle.std.proofs.Common.{◌≡◌, ℕ, cond, List, ◌∷◌, ◌++◌, length, ap, ◌∙◌, arith}
use Rattle.std.proofs.lemmas.List.{length-append, length-drop, length-set}
use Rattle.sheet.specs.Files.{four_bytes}
use Rattle.sheet.proofs.Writes.{byte_of, state_written}
use Rattle.sheet.proofs.writing.put_state.Goals as goal

pub returns : goal.returns
returns c =
    let s = c.args.state.now in
    let front : c.copy_from_slice.new.self ≡ four_bytes s.marks = c.copy_from_slice.ensures.after ∙ c.to_be_bytes.ensures in
    let four : length c.copy_from_slice.new.self ≡ 4 = ap length front in
    let long = c.requires.long in
    record {
      after =
          state_written c.copy_from_slice.new.self c.args.part.now c.copy_from_slice-2.new.self s.marks c.from.result (cond s.prefix 1 0) _
          front
          (c.from.ensures ∙ byte_of s.prefix)
          (omega arith)
          (simp (length-set, length-append, length-drop) (omega arith))
          ∙ ap (λ (ys : List ℕ). four_bytes s.marks ++ cond s.prefix 1 0 ∷ ys)
          c.copy_from_slice-2.ensures.after;
    }
