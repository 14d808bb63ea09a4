-- What is taken tells what is waited for. Assumes nothing.
use Rattle.session_line.proofs.Heard.{table_stopped}
use mathlib.Core.Path.{sym}
use Rattle.session_line.proofs.hearing.hear_table.Goals as goal

pub returns-in-Err : goal.returns-in-Err
returns-in-Err c = λ ps os m.
    let g = c.in-Err in
    table_stopped _ _ ps os m _ _ _ _ _ c.empty-none.result g.e (sym g.ensures.0) g.ensures.1 c.empty-none.ensures (c.stop.ensures _ ps os m)
