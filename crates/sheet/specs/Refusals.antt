-- The numbers of the refusals, each that of the question that is answered by no.
use Rattle.std.specs.Prelude.{ℕ}
use Rattle.sheet.specs.declared.refusals.SheetRefusal.{SheetRefusal}
use Rattle.sheet.specs.declared.refusals.SheetRefusal.TheVariants.{Head, Edition, Counts, Length, Content, Buffer}

abbrev pub number_of : SheetRefusal → ℕ
number_of Head = 11
number_of Edition = 12
number_of Counts = 13
number_of Length = 14
number_of Content = 15
number_of Buffer = 16
