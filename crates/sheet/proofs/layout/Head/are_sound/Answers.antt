use Rattle.std.proofs.Common.{ℕ, List, ap, ◌∙◌, length, arith, rules, tests}
use Rattle.std.proofs.lemmas.Iterator.Search.{all_from_yields_List}
use Rattle.sheet.specs.Files.{entry_size, cut, sound, sound_entry}
use Rattle.sheet.proofs.Chunks.{chunks_are}
use Rattle.sheet.proofs.layout.Head.are_sound.Goals as goal

pub returns : goal.returns
returns c =
    let h = c.args.self in
    let size = c.chunks_exact.ensures.size ∙ c.entry_size.ensures.answer in
    let chunks = chunks_are (entry_size h.letters) (omega arith) c.chunks_exact.result h.states size (ap length c.chunks_exact.ensures.rest ∙ c.requires) in
    record {
      answer =
          all_from_yields_List (sound_entry h.states) _ _ c.all.result c.all.ensures.ran chunks (λ x b q k. search (rules, tests))
          ∙ ap (λ (xs : List ℕ). sound h.states (cut (entry_size h.letters) h.states xs)) c.chunks_exact.ensures.rest;
    }
