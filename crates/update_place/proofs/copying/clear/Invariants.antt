-- Those passed are all `zero`. Assumes nothing.
use Rattle.std.proofs.Common.{◌≡◌, replicate}
use Rattle.std.proofs.Math.Seq.{paste}
use Rattle.update_place.proofs.copying.clear.Given as goal

abbrev pub invariant-loop-x : goal.invariant-loop-x
invariant-loop-x g l = l.x-items ≡ paste l.initial.x-items 0 (replicate l.x-index l.zero) l.x-index
