-- The productions in order. The loop goes on while none is refused. Assumes nothing.
use Rattle.std.proofs.Common.{◌≡◌}
use Rattle.table.specs.First.{scan}
use Rattle.table.specs.Inner.Parts.{part_number}
use Rattle.table_judge.proofs.judge.judge_productions.Given as goal

abbrev pub invariant-loop-p : goal.invariant-loop-p
invariant-loop-p l = scan (part_number l.table) l.p ≡ 0
