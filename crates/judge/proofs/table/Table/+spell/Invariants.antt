-- Each entry was found from one before it.
use Rattle.judge.proofs.table.Table.+spell.Given as goal

abbrev pub decreases-spell : goal.decreases-spell
decreases-spell l = l.at
