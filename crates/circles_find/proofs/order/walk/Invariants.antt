-- The stack and the order stay within the slots. Assumes nothing.
use Rattle.std.proofs.Common.{◌≤◌}
use Rattle.circles_find.proofs.order.walk.Given as goal

abbrev pub invariant-loop : goal.invariant-loop
invariant-loop l = (l.top ≤ l.g.n) × (l.at ≤ l.g.n)
