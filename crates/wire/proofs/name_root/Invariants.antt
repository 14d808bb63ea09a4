-- Name by name: those before i are written. Assumes nothing.
use Rattle.wire.proofs.Naming.{Starting}
use Rattle.wire.proofs.name_root.Given as goal

abbrev pub invariant-loop-i : goal.invariant-loop-i
invariant-loop-i l = Starting l.i l.named
