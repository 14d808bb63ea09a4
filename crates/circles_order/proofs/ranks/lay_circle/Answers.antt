-- One member is laid, and on to the next. Assumes nothing.
use Rattle.std.proofs.Common.{◌<◌, get_or, refl, arith}
use Rattle.circles_order.proofs.Cursors.{member_next}
use Rattle.circles_order.proofs.Laying.{laying_start, laying_room, laying_more, laying_end}
use Rattle.circles_order.proofs.ranks.lay_circle.Goals as goal

pub loop-y-init : goal.loop-y-init
loop-y-init c = laying_start c.requires.0 c.requires.1 c.requires.2

pub bounds-members-p : goal.bounds-members-p
bounds-members-p c = laying_room c.loop-y.invariant c.requires.3 (omega arith)

pub loop-y-preserved : goal.loop-y-preserved
loop-y-preserved c =
    let l = c.loop-y in
    let yl : l.y < c.args.n = omega arith in
    rw c.from.ensures (laying_more l.invariant (get_or c.args.labels.after.now l.y 0) yl (member_next c.requires.0 c.requires.1 yl (l.invariant.hit yl) refl))

pub returns : goal.returns
returns c = laying_end c.loop-y.invariant (omega arith)
