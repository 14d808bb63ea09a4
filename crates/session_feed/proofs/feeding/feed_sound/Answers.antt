-- What was owed at first is what has been printed and what is owed now, and the turns that follow make the call. Assumes nothing.
use Rattle.std.proofs.Common.{rules}
use Rattle.session_memory.proofs.Deciding.{tested_not}
use Rattle.session_feed.proofs.Faring.{gone_first, gone_on, gone_full}
use Rattle.session_feed.proofs.feeding.feed_sound.Goals as goal

pub loop-now-init : goal.loop-now-init
loop-now-init c = (search rules, gone_first _ _ _ _ c.requires)

pub loop-now-preserved : goal.loop-now-preserved
loop-now-preserved c = (search rules, gone_on c.loop-now.invariant.1 c.loop-now-test.true (record { room = c.has_room.ensures.yes c.if-has_room.true }) c.turn-now.ensures.turns)

pub returns-else-has_room-clause-feeds : goal.returns-else-has_room-clause-feeds
returns-else-has_room-clause-feeds c =
    let g = c.loop-now.invariant.1 in
    let m = c.loop-now-test.true in
    (rw m (gone_full g m (tested_not c.has_room.ensures c.if-has_room.false)), g.fares.ready.size)
