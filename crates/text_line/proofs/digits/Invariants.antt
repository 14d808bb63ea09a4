-- The invariant: the bytes passed are digits. Assumes nothing.
use Rattle.text_line.proofs.Rows.{AllHex}
use Rattle.text_line.proofs.digits.Given as goal

abbrev pub invariant-loop-i : goal.invariant-loop-i
invariant-loop-i l = AllHex l.text l.place l.i
