-- All members passed are free. Assumes nothing.
use Rattle.std.proofs.Common.{◌-◌}
use Rattle.circles_order.proofs.Cursors.{Going}
use Rattle.circles_order.proofs.ranks.advance.Given as goal

abbrev pub invariant-loop-e : goal.invariant-loop-e
invariant-loop-e l = Going l.r.g.n l.r.g.a.now l.r.g.b.now l.r.labels.label.now l.r.taken.now l.r.labels.after.now l.l l.x l.e

abbrev pub decreases-loop-e : goal.decreases-loop-e
decreases-loop-e l = l.r.g.n - l.e
