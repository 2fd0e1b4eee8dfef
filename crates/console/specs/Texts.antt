-- Texts that several programs print. Assumes nothing.
use Rattle.std.specs.Prelude.{ℕ, List, ◌++◌, codes, decimal}

abbrev pub refused_text : ℕ → List ℕ
refused_text number = codes "REFUSED " ++ decimal number
