-- The slots below the root are listed, and the walks keep the order within the slots. Assumes nothing.
use Rattle.std.proofs.Common.{◌≤◌}
use Rattle.circles_find.specs.Inner.Search.{Stated, Roll}
use Rattle.circles_find.proofs.order.leaving_order.Given as goal

abbrev pub invariant-loop-root : goal.invariant-loop-root
invariant-loop-root l = (l.w.from ≤ l.g.n) × Roll (Stated l.g.a.now) l.root l.slots l.w.count
