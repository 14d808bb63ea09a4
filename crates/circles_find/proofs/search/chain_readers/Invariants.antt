-- The chains of the places of the slots of the list that are gone through, from its end, two links a turn. Assumes nothing.
use Rattle.std.proofs.Common.{◌-◌, length}
use Rattle.circles_find.proofs.Rolls.{Readers}
use Rattle.circles_find.proofs.search.chain_readers.Given as goal

abbrev pub invariant-loop-x : goal.invariant-loop-x
invariant-loop-x l = Readers l.g.n l.g.a.now l.g.b.now l.listed l.first l.next (length l.listed - length l.yielded)
