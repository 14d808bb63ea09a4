-- `compute`: the values in a row and the flag, as they are left by what is left of the circle. Assumes nothing.
use Rattle.std.proofs.Common.{◌≡◌, ◌&&◌, map, drop}
use Rattle.std.proofs.lemmas.List.Edits.{sets as row}
use Rattle.climb.specs.Memory.{at, still_on}
use Rattle.climb.specs.Inner.Wires.{wired_by}
use Rattle.climb.proofs.compute.Given as goal

abbrev pub invariant-loop-p : goal.invariant-loop-p
invariant-loop-p l = record {
  still : (l.still && still_on (wired_by l.table l.owns l.wires) (drop l.p l.circle) l.sets) ≡ still_on (wired_by l.table l.owns l.wires) l.circle l.sets;
  values : row l.values l.p (map ((wired_by l.table l.owns l.wires).eval (at l.sets)) (drop l.p l.circle)) ≡ row l.initial.values 0 (map ((wired_by l.table l.owns l.wires).eval (at l.sets)) l.circle);
}
