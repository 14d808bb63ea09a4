-- A node is kept, and the next is waited for or the command carried out. Assumes nothing.
use mathlib.Core.Path.{◌∙◌}
use native.Mathlib.Omega.{arith}
use Rattle.session_line.specs.Lent.{memory_in}
use Rattle.session_line.proofs.Cases.{no_node, more_nodes, last_node}
use Rattle.session_line.proofs.Heard.{as_well, silent, kept_as, called_as}
use Rattle.session_line.proofs.hearing.hear_node.Goals as goal

pub returns-in_default-clause-heard : goal.returns-in_default-clause-heard
returns-in_default-clause-heard c =
    let a = c.args in
    let m = memory_in a.memory.now in
    as_well (no_node a.table.now a.parts.now.nodes.now a.parts.now.owns.now m a.«record» a.coming a.count a.taken a.command a.frame a.line c.in_default.not-Node) (c.stop_at.ensures a.table.now a.parts.now.nodes.now a.parts.now.owns.now m)

pub returns-then-taken-count-clause-heard : goal.returns-then-taken-count-clause-heard
returns-then-taken-count-clause-heard c =
    let a = c.args in
    let m = memory_in a.memory.now in
    let g = c.in-Node in
    let e = c.keep_node.ensures.kept in
    kept_as e.0 e.1 (as_well (more_nodes a.table.now a.parts.now.nodes.now a.parts.now.owns.now m a.«record» a.frame a.line a.coming a.count a.taken a.command g.production g.own g.is (omega arith)) (silent a.table.now _ _ m a.«record» _ a.printed a.out.now))

pub returns-clause-heard : goal.returns-clause-heard
returns-clause-heard c =
    let a = c.args in
    let m = memory_in a.memory.now in
    let g = c.in-Node in
    let e = c.keep_node.ensures.kept in
    as_well (last_node a.table.now a.parts.now.nodes.now a.parts.now.owns.now m a.«record» a.frame a.line a.coming a.count a.taken a.command g.production g.own g.is (omega (arith, c.if-taken-count.false)) ∙ called_as a.table.now m a.«record» a.coming a.count a.command e.0 e.1) c.open_update.ensures.heard
