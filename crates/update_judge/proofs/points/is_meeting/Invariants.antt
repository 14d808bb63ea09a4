-- What is left to look at decides, from the end of the last old part on. Assumes nothing.
use Rattle.std.proofs.Common.{◌≡◌, drop}
use Rattle.update_judge.specs.Inner.Cuts.{named_cuts, meeting}
use Rattle.update_judge.proofs.points.is_meeting.Given as goal

abbrev pub invariant-loop-cut : goal.invariant-loop-cut
invariant-loop-cut l = meeting 0 (named_cuts l.fn.cuts) ≡ meeting l.from (drop l.cut-index l.cut-items)
