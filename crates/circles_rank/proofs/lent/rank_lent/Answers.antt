-- Labels, then ranks, by the list of the slots that have a label. Assumes nothing.
use Rattle.std.proofs.Common.{arith}
use Rattle.circles_find.proofs.Rolls.{roll_front}
use Rattle.circles_order.proofs.Going.{agrees_of}
use Rattle.circles_rank.proofs.lent.rank_lent.Goals as goal

pub rank_labelled-requires-clause-given : goal.rank_labelled-requires-clause-given
rank_labelled-requires-clause-given c =
    let g = c.args.g in
    let e = c.circle_labels-count in
    (c.requires.given.0, e.ensures.label_after.1, agrees_of g.n g.a.now g.b.now c.args.label.now e.new.label e.ensures.label_after.0, e.ensures.chained.0)

pub rank_labelled-requires-clause-roll : goal.rank_labelled-requires-clause-roll
rank_labelled-requires-clause-roll c =
    let e = c.circle_labels-count in
    let s = c.requires.spare in
    (roll_front e.ensures.chained.1, s.flags, s.untaken, omega (arith, s.queued, e.auto.queue))
