-- From the last node to the first: the loop has the ends of the nodes behind it, and touches nothing behind the nodes. Assumes nothing.
use Rattle.std.proofs.Common.{ℕ, ◌≡◌, ◌≤◌, length, get_or}
use Rattle.tree.specs.Inner.Spans.{Ended}
use Rattle.tree.proofs.spans.Given as goal

abbrev pub invariant-loop-at : goal.invariant-loop-at
invariant-loop-at l =
    (Ended l.table l.productions l.at l.ends)
    × ((n : ℕ) → length l.productions ≤ n → get_or l.ends n 0 ≡ get_or l.initial.ends n 0)
