-- One letter more than the word of the entry that this one was found from.
use Rattle.std.proofs.Common.{arith}
use Rattle.judge.proofs.Groups.{length_words, link_is}
use Rattle.judge.proofs.Letters.{parent_below, spellable_parent, spelt_room, spelt_more}
use Rattle.judge.proofs.table.Table.+spell.Goals as goal

pub offset_bounds-self-at : goal.offset_bounds-self-at
offset_bounds-self-at t c = omega (arith, c.requires.linked.within, length_words c.args.self.now.entries.now)

pub bounds-self-at : goal.bounds-self-at
bounds-self-at t c = omega (arith, c.requires.linked.within, length_words c.args.self.now.entries.now)

pub spell-size-requires : goal.spell-size-requires
spell-size-requires t c =
    rw (← (link_is c.args.self.now.entries.now c.args.at))
    (omega (arith, parent_below c.requires (omega arith)), spellable_parent c.requires (omega arith))

pub bounds-word-size : goal.bounds-word-size
bounds-word-size t c = spelt_room c.requires (omega arith) (rw (← (link_is c.args.self.now.entries.now c.args.at)) at c.spell-size.ensures)

pub returns : goal.returns
returns t c =
    rw (← (link_is c.args.self.now.entries.now c.args.at))
    (spelt_more c.requires (omega arith) (rw (← (link_is c.args.self.now.entries.now c.args.at)) at c.spell-size.ensures))
