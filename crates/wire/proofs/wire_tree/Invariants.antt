-- Node by node: what the earlier nodes define is wired, what is not declared is marked, the next node's own names are written, and nothing behind the slots has changed. Assumes nothing.
use Prim.Native.Nat.{◌*◌}
use lib.ListN.{length}
use Rattle.wire.specs.Inner.Turns.{Own, Partly, Stay}
use Rattle.wire.proofs.wire_tree.Given as goal

abbrev pub invariant-loop-q : goal.invariant-loop-q
invariant-loop-q l =
    Own l.q l.named × Partly l.table l.productions (20 * l.q) l.a l.b l.left l.rule × Stay (8 * length l.productions) l.initial.a l.initial.b l.initial.left l.initial.rule l.a l.b l.left l.rule
