-- The word of an entry in the word buffer.
use Rattle.std.specs.Prelude.{◌≡◌, ℕ, ◌≤◌, List, ◌++◌, reverse, length, drop}
use Rattle.exploration.specs.Cells.{Traceable, text_at}

-- the word of an entry can be read back from the cells, and there is room for it
pub record Spellable (K : ℕ) (c : List ℕ) (at : ℕ) (word : List ℕ) : Type 0 where
  pub some : 1 ≤ K
  pub linked : Traceable K c at
  pub room : length (text_at K c at) ≤ length word

-- the buffer begins with the word of an entry, in reading order, of so many letters; the other bytes are as before
pub record Spelt (K : ℕ) (c : List ℕ) (at : ℕ) (before after : List ℕ) (size : ℕ) : Type 0 where
  pub length_is : size ≡ length (text_at K c at)
  pub held : after ≡ reverse (text_at K c at) ++ drop (length (text_at K c at)) before
