-- `store`: what is left to store falls place by place. Assumes nothing.
use Rattle.std.proofs.Common.{◌≡◌, drop}
use Rattle.climb.specs.Memory.{puts}
use Rattle.climb.proofs.store.Given as goal

abbrev pub invariant-loop-p : goal.invariant-loop-p
invariant-loop-p l = puts l.sets (drop l.p l.circle) (drop l.p l.values) ≡ puts l.initial.sets l.circle l.values
