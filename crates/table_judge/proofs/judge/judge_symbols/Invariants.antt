-- The symbols' frames in order. The loop goes on while none is refused. Assumes nothing.
use Rattle.std.proofs.Common.{◌≡◌}
use Rattle.table.specs.First.{scan}
use Rattle.table.specs.Inner.Parts.{symbol_number}
use Rattle.table_judge.proofs.judge.judge_symbols.Given as goal

abbrev pub invariant-loop-s : goal.invariant-loop-s
invariant-loop-s l = scan (symbol_number l.table) l.s ≡ 0
