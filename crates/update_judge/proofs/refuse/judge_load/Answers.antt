-- A judged table keeps to its limits. Assumes nothing.
use Rattle.table.proofs.Limits.{limits}
use Rattle.update_judge.proofs.refuse.judge_load.Goals as goal

pub judge_nodes-requires : goal.judge_nodes-requires
judge_nodes-requires c = limits _ c.requires
