-- Behind the last node every further child would be where the walk stands. Assumes nothing.
use Rattle.std.proofs.Common.{arith}
use Rattle.tree.proofs.Size.{turn_out}
use Rattle.tree.proofs.end_of.Goals as goal

pub returns-then-productions-behind : goal.returns-then-productions-behind
returns-then-productions-behind c =
    turn_out _ _ c.args.at _ c.loop.counter _ _ (omega arith) c.from-p.ensures c.child_count-end.ensures c.loop.invariant c.loop.auto.counter-end c.if-productions-behind.true
