-- A judged table keeps to its limits. Assumes nothing.
use Rattle.table.proofs.Limits.{limits}
use Rattle.update_judge.proofs.refuse.judge_holding.Goals as goal

pub judge_held-requires-clause-limits : goal.judge_held-requires-clause-limits
judge_held-requires-clause-limits c = limits _ c.requires.table_value
