-- 10, 22, 16, 9, and then the exchange at those points. Assumes nothing.
use Rattle.std.proofs.Common.{sym}
use Rattle.refusal.proofs.Distinct.{handed}
use Rattle.tree.specs.Handed.{named_points, bare_row}
use Rattle.update.specs.Memories.{lent}
use Rattle.update_judge.proofs.Orders.{named}
use Rattle.update_open.proofs.Answers.{named_refused}
use Rattle.update_open.proofs.replace_points_judged.Goals as goal

pub exchange_row-requires : goal.exchange_row-requires
exchange_row-requires c =
    let n = named c.args.table.now (lent c.args.held.now c.args.held_owns.now c.args.sets.now c.args.earlier.now) c.args.«record» (bare_row (named_points c.args.points)) (sym c.in_ok-judge_named.ensures) in
    record { grounded = c.requires.footing; sound = c.requires.tree n.held; named = n }

pub returns-in_err-judge_named : goal.returns-in_err-judge_named
returns-in_err-judge_named c = rw (handed _ _ c.from_residual.ensures.1) (named_refused _ _ _ _ _ _ c.requires _ c.in_err-judge_named.ensures)
