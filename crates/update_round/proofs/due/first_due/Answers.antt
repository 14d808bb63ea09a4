-- `first_due`: what is left to look at falls circle by circle. Assumes nothing.
use mathlib.Core.Path.{◌≡◌, sym, ◌∙◌}
use native.Mathlib.Numerals.{add-one}
use Rattle.update_round.specs.Inner.Tests.{due_at}
use Rattle.update_round.specs.Inner.Wires.{circles_by, reading_by}
use Rattle.update_round.proofs.Looking.{place, due_same, look_all, look_here, look_on, look_end}
use Rattle.update_round.proofs.due.first_due.Goals.{After-is_due}
use Rattle.update_round.proofs.due.first_due.Goals as goal

same : (c : After-is_due) → due_at (reading_by c.args.wires) (circles_by c.args.wires) c.args.r c.args.earlier.now c.args.sets.now c.loop-i.i ≡ c.is_due.result
same c = let g = c.args in sym (c.is_due.ensures ∙ due_same c.requires.circles c.loop-i.i c.loop-i-test.true c.circle.ensures g.r g.earlier.now g.sets.now)

pub loop-i-init : goal.loop-i-init
loop-i-init c = look_all _ _ _ _ _ _ c.requires.circles.counted

pub is_due-requires-clause-span : goal.is_due-requires-clause-span
is_due-requires-clause-span c = (place c.requires.circles c.loop-i.i c.loop-i-test.true c.circle.ensures).span

pub returns-then-is_due : goal.returns-then-is_due
returns-then-is_due c =
    let e = same (goal.at.returns-then-is_due c).After-is_due in
    look_here _ _ _ _ _ _ _ c.loop-i-test.true (e ∙ c.if-is_due.true) ∙ sym c.loop-i.invariant

pub loop-i-preserved : goal.loop-i-preserved
loop-i-preserved c =
    let e = same (goal.at.loop-i-preserved c).After-is_due in
    rw add-one (c.loop-i.invariant ∙ look_on _ _ _ _ _ _ _ c.loop-i-test.true (e ∙ c.if-is_due.false))

pub returns : goal.returns
returns c = look_end _ _ _ _ _ _ _ _ c.requires.circles.counted c.loop-i-test.false c.loop-i.auto.i-end c.loop-i.invariant c.max.ensures
