-- The line that was found lies in the text. Assumes nothing.
use native.Mathlib.Omega.{arith}
use mathlib.Core.Path.{sym}
use Rattle.text_line.proofs.Rows.{line_says}
use Rattle.text_frame.proofs.kinds.frame_at.Goals as goal

pub frame_of-requires : goal.frame_of-requires
frame_of-requires c = omega (arith, (line_says c.args.text.now c.args.place c.in-Digits.n (sym c.in-Digits.ensures)).inside)

pub overflow_add-result : goal.overflow_add-result
overflow_add-result c = omega (arith, (line_says c.args.text.now c.args.place c.in-Digits.n (sym c.in-Digits.ensures)).many)

pub overflow_add-result-in-Digits : goal.overflow_add-result-in-Digits
overflow_add-result-in-Digits c = omega (arith, (line_says c.args.text.now c.args.place c.in-Digits.n (sym c.in-Digits.ensures)).inside)
