-- Nothing is taken in what is lent or ready in the new array. Assumes nothing.
use Rattle.circles_order.proofs.Going.{covered}
use Rattle.circles_order.proofs.Taking.{outset_new}
use Rattle.circles_order.proofs.ranks.rank_labelled.Goals as goal

pub start_turns-requires : goal.start_turns-requires
start_turns-requires c =
    let p = c.requires in
    (p.given.1, covered p.given.0 p.given.2, outset_new c.args.g.n c.args.taken.now c.args.cur.now p.roll.1 p.roll.2 p.roll.3, p.roll.0)
