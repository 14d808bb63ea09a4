-- The command's own line, then its nodes. Assumes nothing.
use mathlib.Core.Path.{ap, ◌∙◌}
use Rattle.text_frame.specs.declared.Frame.TheVariants.{Change}
use Rattle.text_tree.proofs.Growing.{load_lines, load_stray, no_change, no_load}
use Rattle.text_tree.proofs.grow.read_lines.Goals as goal

pub returns-in_default : goal.returns-in_default
returns-in_default c =
    let a = c.args in
    let n = c.next_at-step in
    load_stray a.text.now a.place a.line n.result n.ensures (no_change n.result.frame a.line _ c.in_default.not-Change) _ c.no_node.ensures a.productions.now a.owns.now a.productions.now a.owns.now

pub returns-in_default-change : goal.returns-in_default-change
returns-in_default-change c =
    let a = c.args in
    let n = c.next_at-step in
    let g = c.in-Change in
    load_stray a.text.now a.place a.line n.result n.ensures (rw g.is (no_load g.change a.line _ c.in_default-change.not-Load)) _ c.no_node-in_default-change.ensures a.productions.now a.owns.now a.productions.now a.owns.now

pub returns : goal.returns
returns c =
    let a = c.args in
    let n = c.next_at-step in
    rw (load_lines a.text.now a.place a.line n.result n.ensures c.in-Load.count (c.in-Change.is ∙ ap Change c.in-Load.is)) (rw c.from.ensures at c.read_nodes.ensures)
