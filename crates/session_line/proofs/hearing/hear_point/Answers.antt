-- A point is kept, and the next is waited for or the nodes of all parts. Assumes nothing.
use mathlib.Core.Path.{refl, ◌∙◌}
use native.Mathlib.Omega.{arith}
use Rattle.session_line.specs.Lent.{memory_in}
use Rattle.session_line.proofs.Cases.{no_point, more_points, last_point}
use Rattle.session_line.proofs.Heard.{as_well, silent, kept_as, ordered_as}
use Rattle.session_line.proofs.hearing.hear_point.Goals as goal

pub returns-in_default-clause-heard : goal.returns-in_default-clause-heard
returns-in_default-clause-heard c =
    let a = c.args in
    let m = memory_in a.memory.now in
    as_well (no_point a.table.now a.parts.now.nodes.now a.parts.now.owns.now m a.«record» a.count a.taken a.start a.frame a.line c.in_default.not-Point) (c.stop_at.ensures a.table.now a.parts.now.nodes.now a.parts.now.owns.now m)

pub returns-then-taken-count-clause-heard : goal.returns-then-taken-count-clause-heard
returns-then-taken-count-clause-heard c =
    let a = c.args in
    let m = memory_in a.memory.now in
    let g = c.in-Point in
    kept_as refl c.keep_point.ensures (as_well (more_points a.table.now a.parts.now.nodes.now a.parts.now.owns.now m a.«record» a.frame a.line a.count a.taken a.start g.point g.nodes g.is (omega arith)) (silent a.table.now _ _ m a.«record» _ a.printed a.out.now))

pub returns-clause-heard : goal.returns-clause-heard
returns-clause-heard c =
    let a = c.args in
    let m = memory_in a.memory.now in
    let g = c.in-Point in
    as_well (last_point a.table.now a.parts.now.nodes.now a.parts.now.owns.now m a.«record» a.frame a.line a.count a.taken a.start g.point g.nodes g.is (omega (arith, c.if-taken-count.false)) ∙ ordered_as a.table.now a.parts.now.nodes.now m a.«record» a.count a.start _ c.keep_point.ensures c.announced_in-all.ensures) c.hear_order.ensures.heard
