-- A byte that is no digit, and the end. Assumes nothing.
use Rattle.std.proofs.Common.{arith, ◌∙◌}
use Rattle.text_line.proofs.Rows.{row_stops, row_ends}
use Rattle.text_line.proofs.digits.Goals as goal

pub returns-then-not-is_hex : goal.returns-then-not-is_hex
returns-then-not-is_hex c = row_stops c.args.text.now c.args.place c.loop-i.i (omega arith) (omega arith) c.loop-i.invariant cc

pub returns : goal.returns
returns c = c.saturating_sub.ensures ∙ row_ends c.args.text.now c.args.place c.min-end.result c.min-end.ensures (λ k h l. c.loop-i.invariant k h (omega arith))
