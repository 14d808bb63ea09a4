-- The nodes passed are cleared. Assumes nothing.
use Rattle.std.proofs.Common.{◌≡◌}
use Rattle.update_place.specs.Inner.Cleared.{cleared}
use Rattle.update_place.proofs.placing.clear_undeclared.Given as goal

abbrev pub invariant-loop-at : goal.invariant-loop-at
invariant-loop-at l = l.sets ≡ cleared l.table l.nodes 0 l.at l.initial.sets
