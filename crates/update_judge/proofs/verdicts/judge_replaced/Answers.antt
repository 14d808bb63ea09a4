-- Where the numbers of points and parts are not given, the tree that they leave can be built, and is sound. Assumes nothing.
use Rattle.std.proofs.Common.{sym}
use Rattle.update_judge.proofs.Last.{row_fits, row_holds}
use Rattle.update_judge.proofs.verdicts.judge_replaced.Goals as goal

pub waives_then-requires-clause-fitting : goal.waives_then-requires-clause-fitting
waives_then-requires-clause-fitting c = row_fits c.args.table.now c.args.tree.now c.args.points c.args.cuts c.args.new.now c.args.new_owns.now c.requires (sym c.in_ok-judge_row.ensures)

pub waives_then-requires-clause-held : goal.waives_then-requires-clause-held
waives_then-requires-clause-held c = row_holds c.args.table.now c.args.tree.now c.args.points c.args.cuts c.args.new.now c.args.new_owns.now c.requires (sym c.in_ok-judge_row.ensures)
