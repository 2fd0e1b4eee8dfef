use Rattle.std.proofs.Common.{◌≡◌, ◌*◌, map, take, vec_items}
use lib.Seq.{paste}
use Rattle.std.specs.List.{flat_map}
use Rattle.sheet.specs.Files.{entry_size, entry_bytes}
use Rattle.sheet.specs.Views.{entry_in}
use Rattle.sheet.proofs.Sheet.put_states.Given as goal

-- the first states are written
abbrev pub invariant-loop-i : goal.invariant-loop-i
invariant-loop-i l =
    l.body ≡ paste l.initial.body 0 (flat_map entry_bytes (map (entry_in l.self.letters) (take l.i (vec_items l.self.states)))) (l.i * entry_size l.self.letters)
