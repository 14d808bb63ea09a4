-- The call, and the update that it opens or the refusal that is printed. Assumes nothing.
use Rattle.session_line.specs.Lent.{memory_in}
use Rattle.session_line.proofs.Heard.{as_well, silent, refusing, called_open, called_refused}
use Rattle.session_line.proofs.opening.open_update.Goals as goal

pub returns-in-Ok-clause-heard : goal.returns-in-Ok-clause-heard
returns-in-Ok-clause-heard c =
    let a = c.args in
    let k = c.min-n in
    let o = c.call_order-opened in
    let m = memory_in a.memory.now in
    let m' = memory_in o.new.memory in
    as_well (called_open a.table.now a.parts.now.nodes.now a.parts.now.owns.now m a.«record» a.coming a.count a.line o.result m' k.result k.ensures _ c.points_in-points.ensures o.ensures.called c.in-Ok.next c.in-Ok.is) (silent a.table.now a.parts.now.nodes.now a.parts.now.owns.now m' c.in-Ok.next _ a.printed a.out.now)

pub returns-in-Err-clause-heard : goal.returns-in-Err-clause-heard
returns-in-Err-clause-heard c =
    let a = c.args in
    let k = c.min-n in
    let o = c.call_order-opened in
    let m = memory_in a.memory.now in
    let m' = memory_in o.new.memory in
    let p = c.put_refusal.ensures in
    as_well (called_refused a.table.now a.parts.now.nodes.now a.parts.now.owns.now m a.«record» a.coming a.count a.line o.result m' k.result k.ensures _ c.points_in-points.ensures o.ensures.called c.in-Err.refusal c.in-Err.is) (refusing a.table.now a.parts.now.nodes.now a.parts.now.owns.now m' a.«record» _ _ a.line a.printed _ a.out.now _ p.0 p.1)
