-- Name by name: those before i are the next node's. Assumes nothing.
use Rattle.wire.proofs.Naming.{Moving}
use Rattle.wire.proofs.name_next.Given as goal

abbrev pub invariant-loop-i : goal.invariant-loop-i
invariant-loop-i l = Moving l.q l.i l.named
