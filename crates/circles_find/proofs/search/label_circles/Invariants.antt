-- A circle of declared slots is labelled whole or not at all; those of the list so far are. Assumes nothing.
use Rattle.circles_find.specs.Inner.Labels.{Reps, Stale}
use Rattle.circles_find.proofs.Rounds.{Labelled}
use Rattle.circles_find.proofs.search.label_circles.Given as goal

abbrev pub invariant-loop-x : goal.invariant-loop-x
invariant-loop-x l = Reps l.g.n l.g.a.now l.g.b.now l.rep × Stale l.g.n l.seen l.rep

abbrev pub invariant-loop-seed : goal.invariant-loop-seed
invariant-loop-seed l = Reps l.g.n l.g.a.now l.g.b.now l.rep × Stale l.g.n l.seen l.rep × Labelled l.g.n l.listed l.rep l.seed-index
