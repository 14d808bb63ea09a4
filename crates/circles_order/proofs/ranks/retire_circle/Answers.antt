-- What reads one member is touched, and on to the next member. Assumes nothing.
use Rattle.std.proofs.Common.{arith}
use Rattle.circles_order.proofs.Cursors.{member_next, moved_join, walked_more}
use Rattle.circles_order.proofs.ranks.retire_circle.Goals as goal

pub loop-y-preserved : goal.loop-y-preserved
loop-y-preserved c =
    let p = c.requires.l_lt_n in
    let yl = c.loop-y-test.true in
    let i = c.loop-y.invariant in
    let r = c.retire.ensures in
    (moved_join p.2.few i.0 r.0, walked_more c.from-y.result p.2 i.1 r.0 r.1 (member_next p.2 p.0 yl (i.1.hit yl) c.from-y.ensures))

pub returns : goal.returns
returns c = (c.loop-y.invariant.0, λ y w h₁ h₂. c.loop-y.invariant.1.past y (omega (arith, h₁, c.loop-y-test.false)) h₁ h₂ w)
