-- The cuts of the points passed stand in their places. Assumes nothing.
use Rattle.std.proofs.Common.{◌≡◌, ℕ, ◌<◌, length}
use Rattle.tree.specs.Points.{point_at}
use Rattle.tree.specs.Handed.{cut_at, cut_of}
use Rattle.update_judge.proofs.points.cuts_of.Given as goal

abbrev pub invariant-loop-i : goal.invariant-loop-i
invariant-loop-i l = record {
  long : length l.cuts ≡ 8;
  each : (j : ℕ) → j < l.i → cut_at l.cuts j ≡ cut_of l.table l.tree (point_at l.fn.points.points j);
}
