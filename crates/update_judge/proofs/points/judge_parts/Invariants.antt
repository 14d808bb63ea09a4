-- What is left of the parts decides, where those passed have no number. Assumes nothing.
use Rattle.std.proofs.Common.{◌≡◌, ◌+◌, ◌≤◌, length, drop}
use Rattle.update_judge.specs.Inner.Cuts.{named_cuts, coming, judge_cuts}
use Rattle.update_judge.proofs.points.judge_parts.Given as goal

abbrev pub invariant-loop-cut : goal.invariant-loop-cut
invariant-loop-cut l = record {
  fits : l.at + coming (drop l.cut-index l.cut-items) ≤ length l.new;
  rest : judge_cuts l.table l.tree (named_cuts l.fn.cuts) l.new ≡ judge_cuts l.table l.tree (drop l.cut-index l.cut-items) (drop l.at l.new);
}
