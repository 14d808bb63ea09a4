-- `judge` is safe and ends: only a sound tree goes on. Assumes nothing.
use Rattle.refusal.proofs.Distinct.{sound_zero}
use Rattle.bench_stages.proofs.Judged.{held}
use Rattle.bench_stages.proofs.judge.Goals as goal

pub work-requires : goal.work-requires
work-requires c = held c.args.table.now c.args.nodes.now c.args.owns.now (sound_zero c.in-Ok.is c.judge_tree.ensures)
