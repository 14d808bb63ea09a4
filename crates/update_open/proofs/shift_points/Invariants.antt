-- The points that are made, and what came and what left before the next. Assumes nothing.
use Rattle.update_open.proofs.Shifting.{Shifting}
use Rattle.update_open.proofs.shift_points.Given as goal

abbrev pub invariant-loop-i : goal.invariant-loop-i
invariant-loop-i l = Shifting l.cuts.count l.cuts.cuts l.points l.came l.left l.i
