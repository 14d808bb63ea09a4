-- A declared root is listed. Assumes nothing.
use Rattle.std.proofs.Common.{arith}
use Rattle.circles_find.proofs.Rolls.{roll_more}
use Rattle.circles_find.proofs.order.walk_new.Goals as goal
use Rattle.circles_find.proofs.order.walk_new.Goals.{then-stage-root-eq-UNSEEN, else-stage-root-eq-UNSEEN}

pub returns : goal.returns
returns c = (
  elim c.if-stage-root-eq-UNSEEN.branch [ then-stage-root-eq-UNSEEN w ↦ omega arith | else-stage-root-eq-UNSEEN w ↦ omega arith ],
  let R = c.requires.n_in_bounds.1 in roll_more R c.if-g-root.false (omega (arith, R.few)),
)
