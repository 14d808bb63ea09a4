-- One slot of the list more. Assumes nothing.
use Rattle.std.proofs.Common.{arith}
use Rattle.circles_order.proofs.Taking.{started_none, started_at, started_more, started_all}
use Rattle.circles_order.proofs.ranks.start_turns.Goals as goal

pub loop-l-init : goal.loop-l-init
loop-l-init c = started_none c.requires.3 c.requires.2

pub start_cursor-requires : goal.start_cursor-requires
start_cursor-requires c = (c.requires.0, c.requires.1, c.requires.3.within c.loop-l.l-index (omega arith), c.requires.2.untaken, started_at c.requires.3 c.loop-l.invariant (omega arith))

pub loop-l-preserved : goal.loop-l-preserved
loop-l-preserved c = started_more c.requires.3 c.loop-l.invariant (omega arith) c.start_cursor.ensures

pub returns : goal.returns
returns c = started_all c.requires.3 c.loop-l.invariant (omega arith)
