-- From child to child: the names so far are written, and where the loop stands is the place of the next child. Assumes nothing.
use Rattle.wire.proofs.Naming.{Naming}
use Rattle.wire.proofs.name_children.Given as goal

abbrev pub invariant-loop-k : goal.invariant-loop-k
invariant-loop-k l = Naming l.table l.productions l.q l.named l.count l.next l.k
