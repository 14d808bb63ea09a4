-- A sound table is within its limits. Assumes nothing.
use Rattle.table.proofs.Limits.{limits}
use Rattle.text_tree.proofs.grow.judge_read.Goals as goal

pub judge_held-requires-clause-limits : goal.judge_held-requires-clause-limits
judge_held-requires-clause-limits c = limits c.args.table.now c.requires.0
