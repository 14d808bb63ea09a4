-- The invariant: what was owed at first is what has been printed and what is owed now, and the turns that follow make the call. What is left to do falls. Assumes nothing.
use Rattle.session_feed.specs.Inner.Kept.{Same, kept_with}
use Rattle.session_feed.proofs.Faring.{Gone, left_to_do}
use Rattle.session_feed.proofs.feeding.feed_sound.Given as goal

abbrev pub invariant-loop-now : goal.invariant-loop-now
invariant-loop-now l =
    Same l.initial.kept l.kept
    × Gone (kept_with l.initial.kept l.fn.state) l.piece l.from l.initial.out (kept_with l.kept l.now.state) l.now.place l.out l.now.printed l.now.more

abbrev pub decreases-loop-now : goal.decreases-loop-now
decreases-loop-now l = left_to_do (kept_with l.kept l.now.state) l.piece l.now.place l.out l.now.printed l.now.more
