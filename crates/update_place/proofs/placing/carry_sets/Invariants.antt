-- Turn by turn: the sets of what stays, the next point's with them, then empty ones for the rest of its part. Assumes nothing.
use Rattle.std.proofs.Common.{◌*◌, take, drop}
use Rattle.update_place.specs.Inner.Pieces.{carried_by}
use Rattle.update_place.proofs.Laying.{Carry}
use Rattle.update_place.proofs.placing.carry_sets.Given as goal

abbrev pub invariant-loop-c : goal.invariant-loop-c
invariant-loop-c l = Carry l.sets l.nodes (drop l.c-index l.c-items) (carried_by l.fn.cuts (take (8 * l.nodes) l.sets)) l.initial.out l.at l.to l.out
