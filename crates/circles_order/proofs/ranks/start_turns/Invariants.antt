-- So many of the list are looked at. Assumes nothing.
use Rattle.std.proofs.Common.{length}
use Rattle.circles_order.proofs.Taking.{Started}
use Rattle.circles_order.proofs.ranks.start_turns.Given as goal

abbrev pub invariant-loop-l : goal.invariant-loop-l
invariant-loop-l l = Started l.r.g.n l.r.g.a.now l.r.g.b.now l.r.labels.label.now l.r.taken.now l.cur l.ready l.listed (length l.listed) l.l-index
