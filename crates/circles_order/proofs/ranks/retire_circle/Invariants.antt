-- What reads the members passed is sure. Assumes nothing.
use Rattle.std.proofs.Common.{◌-◌}
use Rattle.circles_order.specs.Inner.Turns.{Moved}
use Rattle.circles_order.proofs.Cursors.{Walked}
use Rattle.circles_order.proofs.ranks.retire_circle.Given as goal

abbrev pub invariant-loop-y : goal.invariant-loop-y
invariant-loop-y l = Moved l.r.g.n l.r.g.a.now l.r.g.b.now l.r.labels.label.now l.r.taken.now l.initial.cur l.initial.ready l.cur l.ready × Walked l.r.g.n l.r.g.a.now l.r.g.b.now l.r.labels.label.now l.r.taken.now l.cur l.l l.y

abbrev pub decreases-loop-y : goal.decreases-loop-y
decreases-loop-y l = l.r.g.n - l.y
