-- The sum so far, which stays within 512, and what is left to add. Assumes nothing.
use Rattle.std.proofs.Common.{◌≡◌, ◌+◌, ◌≤◌, drop}
use Rattle.update_judge.specs.Inner.Cuts.{named_cuts, coming}
use Rattle.update_judge.proofs.points.count_coming.Given as goal

abbrev pub invariant-loop-cut : goal.invariant-loop-cut
invariant-loop-cut l = record {
  low : l.sum ≤ 512;
  rest : coming (named_cuts l.fn.cuts) ≡ l.sum + coming (drop l.cut-index l.cut-items);
}
