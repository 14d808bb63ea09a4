-- Name by name: those before i stand at the position, and the node's own stay. Assumes nothing.
use Rattle.wire.specs.Inner.Turns.{Row}
use Rattle.wire.proofs.name_child.Given as goal

abbrev pub invariant-loop-i : goal.invariant-loop-i
invariant-loop-i l = Row l.at l.node l.i l.initial.named l.named
