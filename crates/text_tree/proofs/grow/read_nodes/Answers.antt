-- One line more, a stray line, and the end. Assumes nothing.
use native.Mathlib.Omega.{arith}
use Rattle.text_tree.proofs.Growing.{onward_next, onward_stop, onward_end}
use Rattle.text_tree.proofs.grow.read_nodes.Goals as goal

pub returns-in_default : goal.returns-in_default
returns-in_default c =
    let l = c.loop-i in
    let a = c.args in
    let n = c.next_at-step in
    onward_stop a.text.now a.count a.place a.line a.productions.now a.owns.now l.productions l.owns l.i l.at l.l l.invariant (omega arith) n.result n.ensures c.in_default.not-Node _ c.no_node.ensures

pub loop-i-preserved : goal.loop-i-preserved
loop-i-preserved c =
    let l = c.loop-i in
    let a = c.args in
    let n = c.next_at-step in
    let g = c.in-Node in
    onward_next a.text.now a.count a.place a.line a.productions.now a.owns.now l.productions l.owns l.i l.at l.l l.invariant (omega arith) n.result n.ensures g.production g.own g.is _ _ c.keep.ensures c.keep-in-loop-i.ensures

pub returns : goal.returns
returns c =
    let l = c.loop-i in
    let a = c.args in
    onward_end a.text.now a.count a.place a.line a.productions.now a.owns.now l.productions l.owns l.i l.at l.l l.invariant (omega arith)
