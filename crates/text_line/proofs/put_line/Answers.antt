-- Two numbers and LF, stored one behind the other. Assumes nothing.
use Rattle.std.proofs.Common.{arith}
use Rattle.text_line.proofs.Out.{line_put}
use Rattle.text_line.proofs.put_line.Goals as goal

pub returns : goal.returns
returns c =
    let a = c.args in
    let x = c.put_hex-a.ensures in
    let y = c.put_hex-b.ensures in
    (omega (arith, x.0, y.0), line_put a.buffer.now a.place a.before a.head a.behind a.tail _ _ _ _ x y)
