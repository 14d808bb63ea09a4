-- From child to child: where the loop stands is the place of the next child. Assumes nothing.
use Rattle.std.proofs.Common.{◌≡◌}
use Rattle.tree.specs.Tree.{child_at}
use Rattle.tree.proofs.end_of.Given as goal

abbrev pub invariant-loop : goal.invariant-loop
invariant-loop l = l.behind ≡ child_at l.table l.productions l.at l.counter
