-- Child by child: what the node defines at its left symbol and at the earlier children is wired. Assumes nothing.
use Prim.Native.Nat.{◌*◌, ◌+◌}
use lib.ListN.{length}
use Rattle.wire.specs.Inner.Turns.{Partly, Stay}
use Rattle.wire.proofs.wire_children.Given as goal

abbrev pub invariant-loop-at : goal.invariant-loop-at
invariant-loop-at l =
    Partly l.node.table.now l.node.productions.now (20 * l.node.q + 4 * l.at) l.a l.b l.left l.rule
    × Stay (8 * length l.node.productions.now) l.initial.a l.initial.b l.initial.left l.initial.rule l.a l.b l.left l.rule
