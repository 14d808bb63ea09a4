-- `step_in`: the first due circle makes its round, or there is none. Assumes nothing.
use mathlib.Core.Path.{sym}
use Rattle.update_round.specs.Inner.Wires.{circles_by}
use Rattle.update_round.proofs.Looking.{Place, place, circle_is}
use Rattle.update_step.proofs.Making.{step_over, step_one, place_rows}
use Rattle.update_step.proofs.step.step_in.Goals.{After-circle}
use Rattle.update_step.proofs.step.step_in.Goals as goal

spot : (c : After-circle) → Place c.args.wires.n c.args.wires.a.now c.args.wires.b.now c.circle.result.now
spot c = place c.requires.circles c.first_due-i.result c.if-i-ranked.true c.circle.ensures

pub make_round-requires-clause-rows : goal.make_round-requires-clause-rows
make_round-requires-clause-rows c = place_rows c.requires.wiring (spot (goal.at.make_round-requires-clause-rows c).After-circle)

pub returns-then-i-ranked : goal.returns-then-i-ranked
returns-then-i-ranked c =
    let g = c.args in
    let w = g.wires in
    step_one w.n g.table.now g.owns.now w.a.now w.b.now w.left.now w.rule.now (circles_by w) g.ranked.count g.r g.earlier.now g.sets.now c.first_due-i.result _ _
    c.requires.circles.counted c.first_due-i.ensures c.circle.result.now _ c.if-i-ranked.true (sym (circle_is c.requires.circles c.first_due-i.result c.if-i-ranked.true c.circle.ensures)) c.make_round.ensures

pub returns-else-i-ranked : goal.returns-else-i-ranked
returns-else-i-ranked c =
    let g = c.args in
    let w = g.wires in
    step_over w.n g.table.now g.owns.now w.a.now w.b.now w.left.now w.rule.now (circles_by w) g.ranked.count g.r g.earlier.now g.sets.now c.first_due-i.result _ _
    c.requires.circles.counted c.first_due-i.ensures c.if-i-ranked.false c.finish.ensures
