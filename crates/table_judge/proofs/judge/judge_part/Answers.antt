-- A production that is not refused has the shape that its equations need. Assumes nothing.
use Rattle.std.proofs.Common.{sym}
use Rattle.table.specs.Judge.{production}
use Rattle.table.proofs.Holds.{holds, shaped_of}
use Rattle.table_judge.proofs.judge.judge_part.Goals as goal

pub judge_equations-requires-clause-shaped : goal.judge_equations-requires-clause-shaped
judge_equations-requires-clause-shaped c = shaped_of c.args.table.now c.args.p c.requires.symbols (holds c.args.table.now (production c.args.p) (sym c.in_ok-judge_production.ensures))
