-- `full_list_holds`: the theorem of proofs/Full.
use Rattle.pattern.specs.Images.{images_of}
use Rattle.pattern.proofs.Full.{full_list_lem}
use Rattle.pattern.proofs.full_list_holds.Goals as goal

pub returns : goal.returns
returns c = λ plan row. full_list_lem (images_of plan) row
