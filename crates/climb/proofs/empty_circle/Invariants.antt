-- `empty_circle`: what is left to empty falls place by place. Assumes nothing.
use Rattle.std.proofs.Common.{◌≡◌, drop}
use Rattle.climb.specs.Memory.{empty_on}
use Rattle.climb.proofs.empty_circle.Given as goal

abbrev pub invariant-loop-x : goal.invariant-loop-x
invariant-loop-x l = empty_on (drop l.x-index l.circle) l.sets ≡ empty_on l.circle l.initial.sets
