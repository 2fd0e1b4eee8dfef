use Rattle.std.proofs.Common.{get_or, inl, inr}
use Rattle.sheet.proofs.Questions.{not_counted, refuse_head, refuse_edition, refuse_counts}
use Rattle.sheet.proofs.layout.Head.of.Goals as goal
use Rattle.sheet.proofs.layout.Head.of.Goals.{then-states-eq0-via-then-states-eq0, then-states-eq0-via-else-states-eq0+then-letters-eq0, then-states-eq0-via-else-states-eq0+else-letters-eq0+then-letters-gt-MOST_LETTERS}

pub returns-in_default : goal.returns-in_default
returns-in_default c = record { answer = refuse_head c.args.bytes.now c.in_default.len_below }

pub returns-then-edition-ne-EDITION : goal.returns-then-edition-ne-EDITION
returns-then-edition-ne-EDITION c = record { answer = refuse_edition c.args.bytes.now c.in-len4-up.len_at_least c.if-edition-ne-EDITION.true }

pub returns-then-states-eq0 : goal.returns-then-states-eq0
returns-then-states-eq0 c =
    let bytes = c.args.bytes.now in
    let no = not_counted (get_or bytes 0 0) (get_or bytes 1 0) in
    let refuse = refuse_counts bytes c.in-len4-up.len_at_least c.if-edition-ne-EDITION.false in
    elim c.then-states-eq0.branch [
      | then-states-eq0-via-then-states-eq0 w ↦ record { answer = refuse (no (inl w.if-states-eq0.true)) }
      | then-states-eq0-via-else-states-eq0+then-letters-eq0 w ↦ record { answer = refuse (no (inr (inl w.if-letters-eq0.true))) }
      | then-states-eq0-via-else-states-eq0+else-letters-eq0+then-letters-gt-MOST_LETTERS w ↦ record { answer = refuse (no (inr (inr w.if-letters-gt-MOST_LETTERS.true))) }
    ]
