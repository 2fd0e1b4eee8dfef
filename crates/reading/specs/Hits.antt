-- What `next` answers, in the words of the search.
--   place_of, placed   a hit of the code as a hit of the full list; an answer, where None is the end
--   count_of           how many hits an answer is
--   hits_in            the hits among answers that are given latest first, the earliest hit first
use Rattle.std.specs.Prelude.{ℕ, List, [], ◌∷◌, ◌++◌, Some, None, Option}
use Rattle.pattern.specs.Rows.{Hit as Place}
use Rattle.reading.specs.declared.hits.Hit.{Hit}

abbrev pub place_of : Hit → Place
place_of h = record { start = h.start; end = h.end; marks = h.marks }

abbrev pub placed : Option Hit → Option Place
placed None = None
placed (Some h) = Some (place_of h)

abbrev pub count_of : Option Hit → ℕ
count_of None = 0
count_of (Some h) = 1

abbrev pub hits_in : List (Option Place) → List Place
hits_in [] = []
hits_in (None ∷ answers) = hits_in answers
hits_in (Some h ∷ answers) = hits_in answers ++ h ∷ []
