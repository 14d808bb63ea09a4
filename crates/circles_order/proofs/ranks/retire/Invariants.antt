-- What stands before e on the chain is sure. Assumes nothing.
use Rattle.std.proofs.Common.{◌*◌, ◌-◌}
use Rattle.circles_order.specs.Inner.Turns.{Moved}
use Rattle.circles_order.proofs.Cursors.{Passing}
use Rattle.circles_order.proofs.ranks.retire.Given as goal

abbrev pub invariant-loop-e : goal.invariant-loop-e
invariant-loop-e l = Moved l.r.g.n l.r.g.a.now l.r.g.b.now l.r.labels.label.now l.r.taken.now l.initial.cur l.initial.ready l.cur l.ready × Passing l.r.g.n l.r.g.a.now l.r.g.b.now l.r.labels.label.now l.r.taken.now l.cur l.y l.e

abbrev pub decreases-loop-e : goal.decreases-loop-e
decreases-loop-e l = 2 * l.r.g.n - l.e
