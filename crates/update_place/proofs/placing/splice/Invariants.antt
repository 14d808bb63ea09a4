-- Turn by turn: what stays up to the next point, then its part. Assumes nothing.
use Rattle.std.proofs.Common.{take, drop}
use Rattle.update_place.specs.Inner.Pieces.{spliced_by}
use Rattle.update_place.proofs.Laying.{Splice}
use Rattle.update_place.proofs.placing.splice.Given as goal

abbrev pub invariant-loop-c : goal.invariant-loop-c
invariant-loop-c g l = Splice l.held l.new l.nodes (drop l.c-index l.c-items) (spliced_by l.fn.cuts l.new (take l.nodes l.held)) l.initial.out l.at l.from l.to l.out
