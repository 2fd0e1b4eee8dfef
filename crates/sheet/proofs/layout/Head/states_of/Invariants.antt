use Rattle.std.proofs.Common.{◌≡◌, ◌+◌, ◌≤◌, true, ◌++◌, map, length, vec_items, vec_len, vec_capacity}
use Rattle.std.specs.Slice.Iter.{chunks_exact_rest, chunks_exact_size}
use Rattle.sheet.specs.States.{Each, Good}
use Rattle.sheet.specs.Files.{entry_size, cut, sound, entry_of}
use Rattle.sheet.specs.Views.{entry_in}
use Rattle.sheet.proofs.Parts.{Left}
use Rattle.sheet.proofs.layout.Head.states_of.Given as goal

-- the states so far and those that are left are the states of the body
abbrev pub invariant-loop-part : goal.invariant-loop-part
invariant-loop-part l =
    (goal.iterator-loop-part).can_next l.part-iterator
    × (goal.iterator-loop-part).is_finite l.part-iterator
    × (chunks_exact_size l.part-iterator ≡ entry_size l.self.letters)
    × Left (entry_size l.self.letters) (chunks_exact_rest l.part-iterator) (λ parts.
    (sound l.self.states parts ≡ true)
    × (map (entry_in l.self.letters) (vec_items l.all) ++ map entry_of parts ≡ map entry_of (cut (entry_size l.self.letters) l.self.states l.body))
    × (vec_len l.all + length parts ≡ l.self.states))
    × Each (Good l.self.letters l.self.states) (vec_items l.all)
    × (l.self.states ≤ vec_capacity l.all)
