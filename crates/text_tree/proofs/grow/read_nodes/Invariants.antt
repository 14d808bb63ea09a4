-- The invariant: reading on from here gives the same. Assumes nothing.
use Rattle.text_tree.proofs.Growing.{Onward}
use Rattle.text_tree.proofs.grow.read_nodes.Given as goal

abbrev pub invariant-loop-i : goal.invariant-loop-i
invariant-loop-i l = Onward l.text l.count l.place l.line l.initial.productions l.initial.owns l.productions l.owns l.i l.at l.l
