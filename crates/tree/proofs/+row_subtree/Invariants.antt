-- What is unread falls from call to call: a subtree's row starts one node further on, and a row's subtree passes one node at least. The loop goes from child to child. Assumes nothing.
use Rattle.std.proofs.Common.{◌+◌, ◌-◌, ◌*◌, length}
use Rattle.tree.proofs.Walks.{Walking}
use Rattle.tree.proofs.+row_subtree.Given as goal

abbrev pub decreases-row : goal.decreases-row
decreases-row l = 2 * (length l.productions.now - l.at) + 1

abbrev pub decreases-subtree : goal.decreases-subtree
decreases-subtree l = 2 * (length l.productions.now - l.at)

abbrev pub invariant-row-loop-child : goal.invariant-row-loop-child
invariant-row-loop-child l = Walking l.table l.productions l.fn.at l.production l.child l.next
