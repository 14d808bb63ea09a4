-- What is loaded is a sound tree of 512 nodes at the most. Assumes nothing.
use Rattle.std.proofs.Common.{sym}
use Rattle.update_judge.proofs.Last.{load_holds}
use Rattle.update_judge.proofs.verdicts.judge_loaded.Goals as goal

pub waives_tree-requires : goal.waives_tree-requires
waives_tree-requires c = load_holds c.args.table.now c.args.«record» c.args.productions.now c.args.owns.now (sym c.in_ok-judge_load.ensures) c.requires
