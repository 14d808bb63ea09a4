-- The sum so far, and what is left to add. Assumes nothing.
use Rattle.std.proofs.Common.{◌≡◌, ◌+◌, ◌*◌, ◌≤◌, drop}
use Rattle.update_judge.specs.Inner.Cuts.{named_cuts, leaving}
use Rattle.update_judge.proofs.points.count_leaving.Given as goal

abbrev pub invariant-loop-cut : goal.invariant-loop-cut
invariant-loop-cut l = record {
  low : l.sum ≤ 512 * l.cut-index;
  rest : leaving (named_cuts l.fn.cuts) ≡ l.sum + leaving (drop l.cut-index l.cut-items);
}
