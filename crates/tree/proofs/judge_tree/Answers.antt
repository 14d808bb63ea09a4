-- A table that is judged sound keeps to its limits. Assumes nothing.
use Rattle.std.proofs.Common.{sym}
use Rattle.table.proofs.Limits.{limits}
use Rattle.tree.proofs.judge_tree.Goals as goal

pub judge_nodes-requires : goal.judge_nodes-requires
judge_nodes-requires c = limits c.args.table.now (sym c.in_ok-judge_table.ensures)
