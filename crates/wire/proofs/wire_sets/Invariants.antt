-- Set by set of a position: the instances with turns before the next set's are wired, and from the last slot on nothing has changed. Assumes nothing.
use Prim.Native.Nat.{◌+◌, ◌*◌, min}
use lib.ListN.{length}
use Rattle.wire.specs.Inner.Turns.{Partly, Stay}
use Rattle.wire.proofs.wire_sets.Given as goal

abbrev pub invariant-loop-i : goal.invariant-loop-i
invariant-loop-i l =
    Partly l.node.table.now l.node.productions.now (20 * l.node.q + 4 * l.at + min l.i l.count) l.a l.b l.left l.rule
    × Stay (8 * length l.node.productions.now) l.initial.a l.initial.b l.initial.left l.initial.rule l.a l.b l.left l.rule
