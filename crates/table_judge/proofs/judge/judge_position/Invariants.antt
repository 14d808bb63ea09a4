-- The equations of a position in order. The loop goes on while none is refused. Assumes nothing.
use Rattle.std.proofs.Common.{◌≡◌}
use Rattle.table.specs.First.{scan}
use Rattle.table.specs.Inner.Parts.{equation_number}
use Rattle.table_judge.proofs.judge.judge_position.Given as goal

abbrev pub invariant-loop-k : goal.invariant-loop-k
invariant-loop-k l = scan (equation_number l.table l.p l.q) l.k ≡ 0
