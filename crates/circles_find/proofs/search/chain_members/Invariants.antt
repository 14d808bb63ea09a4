-- The chains of the slots of the list that are gone through, from its end. Assumes nothing.
use Rattle.std.proofs.Common.{◌-◌, length}
use Rattle.circles_find.proofs.Rolls.{Members}
use Rattle.circles_find.proofs.search.chain_members.Given as goal

abbrev pub invariant-loop-x : goal.invariant-loop-x
invariant-loop-x l = Members l.n l.rep l.listed l.low l.after (length l.listed - length l.yielded)
