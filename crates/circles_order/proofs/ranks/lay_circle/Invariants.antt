-- What is laid and what is left are the circle. Assumes nothing.
use Rattle.std.proofs.Common.{◌-◌}
use Rattle.circles_order.proofs.Laying.{Laying}
use Rattle.circles_order.proofs.ranks.lay_circle.Given as goal

abbrev pub invariant-loop-y : goal.invariant-loop-y
invariant-loop-y l = Laying l.n l.labels.label.now l.l l.fn.members l.pos l.members l.y l.p

abbrev pub decreases-loop-y : goal.decreases-loop-y
decreases-loop-y l = l.n - l.y
