-- What the code has read of a file: its head, and the parts of the states behind it.
use Rattle.std.specs.Prelude.{◌≡◌, ℕ, ◌*◌, ◌≤◌, true, List, length, drop, slice_index}
use Rattle.sheet.specs.declared.layout.Head.{Head}
use Rattle.sheet.specs.Files.{entry_size, cut, sound}

-- the file begins with this head, of the edition that is read, and the body is what stands behind it
pub record Begins (bytes : List ℕ) (head : Head) (rest : List ℕ) : Type 0 where
  pub whole : 4 ≤ length bytes
  pub states : head.states ≡ slice_index bytes 0
  pub letters : head.letters ≡ slice_index bytes 1
  pub shortest : head.shortest ≡ slice_index bytes 2
  pub edition : slice_index bytes 3 ≡ 1
  pub body : rest ≡ drop 4 bytes

-- all questions are answered by yes
pub record Accepts (bytes : List ℕ) (head : Head) (body : List ℕ) : Type 0 where
  pub begins : Begins bytes head body
  pub long : length body ≡ head.states * entry_size head.letters
  pub good : sound head.states (cut (entry_size head.letters) head.states body) ≡ true
