-- Each node takes one subtree off and puts its children on. Assumes nothing.
use Rattle.std.proofs.Common.{◌≡◌, ◌+◌, ◌*◌, ◌≤◌, drop}
use Rattle.tree.specs.Tree.{size}
use Rattle.tree.specs.Replace.{part}
use Rattle.update_judge.proofs.trees.part_of.Given as goal

abbrev pub invariant-loop-count : goal.invariant-loop-count
invariant-loop-count l = record {
  few : l.left ≤ 1 + 4 * l.count;
  rest : part l.table l.fn.tree l.point ≡ l.count + size l.table (drop l.count l.below) l.left;
}
