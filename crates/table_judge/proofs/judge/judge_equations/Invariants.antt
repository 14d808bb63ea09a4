-- The positions of a production in order. The loop goes on while none is refused. Assumes nothing.
use Rattle.std.proofs.Common.{◌≡◌}
use Rattle.table.specs.First.{scan}
use Rattle.table.specs.Inner.Parts.{position_of}
use Rattle.table_judge.proofs.judge.judge_equations.Given as goal

abbrev pub invariant-loop-q : goal.invariant-loop-q
invariant-loop-q l = scan (position_of l.table l.p) l.q ≡ 0
