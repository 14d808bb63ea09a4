-- So many of the list have their least. Assumes nothing.
use Rattle.circles_find.proofs.Lowering.{Partway}
use Rattle.circles_find.proofs.search.least_labels.Given as goal

abbrev pub invariant-loop-x : goal.invariant-loop-x
invariant-loop-x l = Partway l.n l.rep l.low l.listed l.initial.label l.x-index l.label
