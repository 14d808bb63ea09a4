-- Each point is shifted by what came and what left before it. Assumes nothing.
use Rattle.std.proofs.Common.{refl, arith}
use Rattle.update_open.proofs.Shifting.{shifting_start, left_before, came_few, shifting_next, shifting_all}
use Rattle.update_open.proofs.shift_points.Goals as goal

pub loop-i-init : goal.loop-i-init
loop-i-init c = shifting_start _ _ c.requires

pub overflow_add-points : goal.overflow_add-points
overflow_add-points c = omega (arith, (c.loop-i.invariant.small.each _ c.loop-i-test.true).1, came_few _ _ c.loop-i.invariant c.loop-i-test.true)

pub overflow_sub-points : goal.overflow_sub-points
overflow_sub-points c = omega (arith, left_before _ _ c.loop-i.invariant c.loop-i-test.true)

pub overflow_add-came : goal.overflow_add-came
overflow_add-came c = omega (arith, came_few _ _ c.loop-i.invariant c.loop-i-test.true)

pub overflow_add-left : goal.overflow_add-left
overflow_add-left c = omega (arith, left_before _ _ c.loop-i.invariant c.loop-i-test.true, (c.loop-i.invariant.small.each _ c.loop-i-test.true).1)

pub loop-i-preserved : goal.loop-i-preserved
loop-i-preserved c = shifting_next _ _ c.loop-i.invariant c.loop-i-test.true _ refl

pub returns : goal.returns
returns c = shifting_all _ _ c.loop-i.invariant c.loop-i-test.false
