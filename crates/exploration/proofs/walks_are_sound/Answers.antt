-- `walks_are_sound`: the theorem of proofs/Cells.
use Rattle.exploration.proofs.Cells.{walks_are_sound_lem}
use Rattle.exploration.proofs.walks_are_sound.Goals as goal

pub returns : goal.returns
returns c = walks_are_sound_lem
