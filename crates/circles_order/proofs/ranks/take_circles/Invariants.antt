-- The circles laid so far and what is left of the ranking are the ranking. Assumes nothing.
use Rattle.std.proofs.Common.{set}
use Rattle.circles_order.specs.Inner.Turns.{Turn}
use Rattle.circles_order.proofs.Going.{Going}
use Rattle.circles_order.proofs.ranks.take_circles.Given as goal

abbrev pub invariant-loop-count : goal.invariant-loop-count
invariant-loop-count l = Turn l.g.n l.g.a.now l.g.b.now l.labels.label.now l.taken l.cur l.ready l.g.n × Going l.g.n l.g.a.now l.g.b.now l.taken l.fn.members (set l.fn.ends 0 0) l.members l.ends l.count l.pos
