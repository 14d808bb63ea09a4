-- What is left to look at decides, from the place behind the last point on. Assumes nothing.
use Rattle.std.proofs.Common.{◌≡◌, drop}
use Rattle.update.specs.Records.{astray, points_of}
use Rattle.update_judge.proofs.limits.is_astray.Given as goal

abbrev pub invariant-loop-point : goal.invariant-loop-point
invariant-loop-point l = astray l.fn.«record».nodes 0 (points_of l.fn.«record») ≡ astray l.fn.«record».nodes l.from (drop l.point-index l.point-items)
