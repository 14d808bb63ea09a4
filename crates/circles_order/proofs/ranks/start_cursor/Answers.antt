-- One more slot is looked at. Assumes nothing.
use Rattle.std.proofs.Common.{ℕ, get_or, arith, ap, ◌∙◌}
use Rattle.circles_order.proofs.Taking.{turn_skip, turn_on, turn_past}
use Rattle.circles_order.proofs.ranks.start_cursor.Goals as goal

pub returns-then-r-j : goal.returns-then-r-j
returns-then-r-j c =
    let p = c.requires in
    turn_skip p.0 p.2 p.3 p.4 (λ e. c.if-r-j.true (ap (λ (u : ℕ). get_or c.args.r.labels.label.now u 0) c.from-j.ensures ∙ e))

pub returns-then-r-from : goal.returns-then-r-from
returns-then-r-from c =
    let p = c.requires in
    rw c.from-j.ensures (turn_past p.0 p.2 p.3 p.4 (rw c.from-j.ensures at c.if-r-j.false) c.advance-d.ensures (omega arith) (rw c.from-j.ensures at c.put.ensures))

pub returns-else-r-from : goal.returns-else-r-from
returns-else-r-from c =
    let p = c.requires in
    rw c.from-j.ensures (turn_on p.0 p.2 p.3 p.4 (rw c.from-j.ensures at c.if-r-j.false) c.advance-d.ensures (omega arith))
