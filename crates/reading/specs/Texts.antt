-- How the answers of a search are written, each character by its code.
--   hit_text      a hit: its first cell, its last cell and its marks
--   report_text   the end of a search: how many hits were answered, and how many cells were fetched
use Rattle.std.specs.Prelude.{ℕ, List, ◌++◌, codes, decimal}
use Rattle.reading.specs.declared.hits.Hit.{Hit}
use Rattle.reading.specs.declared.hits.Report.{Report}

abbrev pub hit_text : Hit → List ℕ
hit_text hit = decimal hit.start ++ (codes " " ++ (decimal hit.end ++ (codes " " ++ decimal hit.marks)))

abbrev pub report_text : Report → List ℕ
report_text report = codes "END " ++ (decimal report.hits ++ (codes " " ++ decimal report.fetches))
