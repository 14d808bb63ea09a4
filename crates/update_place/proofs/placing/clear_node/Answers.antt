-- A judged table has at most four sets each way at a symbol, so both stretches of empty slots lie inside the node. Assumes nothing.
use Rattle.std.proofs.Common.{◌≡◌, ◌+◌, ◌-◌, ◌*◌, ap, ◌∙◌, arith, replicate, get_or}
use Rattle.std.proofs.Math.Seq.{paste}
use Rattle.table.specs.Words.{synthesized, inherited, left_of}
use Rattle.update_place.proofs.Slots.{node_cleared, node_of_table}
use Rattle.update_place.proofs.placing.clear_node.Goals as goal

pub returns : goal.returns
returns c =
    let t = c.args.table.now in
    let n = node_of_table _ _ c.args.at c.requires.limits c.requires.numbered c.requires.at_in_bounds in
    let e : c.left_of-symbol.result ≡ left_of t (get_or c.args.nodes.now c.args.at 0) = cc in
    let a : c.synthesized_of-a.result ≡ synthesized t (left_of t (get_or c.args.nodes.now c.args.at 0)) = cc in
    let b : c.inherited_of-b.result ≡ inherited t (left_of t (get_or c.args.nodes.now c.args.at 0)) = cc in
    c.clear-2.ensures
    ∙ ap (λ l. paste l (8 * c.args.at + 4 + c.inherited_of-b.result) (replicate (4 - c.inherited_of-b.result) 0) (4 - c.inherited_of-b.result)) c.clear.ensures
    ∙ node_cleared t c.args.nodes.now c.args.at c.args.sets.now c.synthesized_of-a.result c.inherited_of-b.result (omega arith) (omega arith) c.requires.at_in_bounds (omega arith) a b
