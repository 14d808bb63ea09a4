-- What is left of the steps falls line by line. Assumes nothing.
use mathlib.Core.Path.{◌≡◌, sym, subst}
use Prim.Native.Nat.{◌+◌, ◌-◌, ◌≤◌}
use native.Mathlib.Omega.{arith}
use lib.ListN.{length}
use Rattle.climb.specs.Inner.Wires.{wired_by}
use Rattle.update.specs.Within.{WithinLimits}
use Rattle.update.specs.Steps.{Outcome}
use Rattle.update.specs.Calls.{Said, answer_says}
use Rattle.update_round.specs.Inner.Wires.{circles_by}
use Rattle.update_step.proofs.Continuing.{step_within_lem}
use Rattle.session_rounds.specs.Telling.{Printable}
use Rattle.session_rounds.proofs.Stepped.{step_fits}
use Rattle.session_rounds.proofs.Turning.{turn_full, turn_over, turn_on, turn_done}
use borrow.Author.Rules.{rules}
use Rattle.session_rounds.proofs.tell_steps.Goals as goal
use Rattle.session_rounds.proofs.tell_steps.Goals.{After-step_in-d}

pub returns-then-out-at-lt-ROUND_LINE : goal.returns-then-out-at-lt-ROUND_LINE
returns-then-out-at-lt-ROUND_LINE c =
    let l = c.loop-made in
    turn_full _ _ _ _ _ _ _ _ _ _ _ _ _ _ _ _ _ (c.args.turns - l.made) l.at l.work l.sets l.out l.invariant.5 (omega (arith, c.if-out-at-lt-ROUND_LINE.true, l.invariant.4)) (omega arith)

-- ---- the step of a turn

within : (k : After-step_in-d) → WithinLimits k.step_in-d.result.«record»
within k =
    let l = k.loop-made in
    let g = k.args in
    step_within_lem (wired_by g.table.now g.owns.now g.wires) (circles_by g.wires) l.work g.earlier.now l.sets _ _ _ l.invariant.0 (rw (← k.requires.circles.counted) k.requires.circles.few) k.step_in-d.ensures

fits : (k : After-step_in-d) → Printable (answer_says k.step_in-d.result.answer)
fits k =
    let l = k.loop-made in
    let g = k.args in
    subst (λ (q : Said Outcome). Printable q) (sym k.step_in-d.ensures.answer) (step_fits k.requires.circles k.requires.lent.limit g.table.now g.owns.now g.wires.left.now g.wires.rule.now l.work g.earlier.now l.sets l.invariant.0)

room : (k : After-step_in-d) → k.loop-made.at + 19 ≤ length k.args.out.now
room k = let v = k.loop-made.invariant in omega (arith, k.if-out-at-lt-ROUND_LINE.false, v.3, v.4)

pub put_answer-at-requires : goal.put_answer-at-requires
put_answer-at-requires c =
    let k = (goal.at.put_answer-at-requires c).After-step_in-d in
    (omega (arith, room k, c.loop-made.invariant.4), fits k)

pub returns-in-Done : goal.returns-in-Done
returns-in-Done c =
    let k = (goal.at.returns-in-Done c).After-step_in-d in
    let l = c.loop-made in
    let p = c.put_answer-at.ensures in
    turn_done _ _ _ _ _ _ _ _ _ _ _ _ _ _ _ _ _ (c.args.turns - l.made) l.at l.work l.sets l.out l.invariant.5 (omega arith) _ _ _ _ _ _ _ _ c.in-Done.is (omega (arith, room k, p.place)) k.step_in-d.ensures p

pub loop-made-preserved : goal.loop-made-preserved
loop-made-preserved c =
    let k = (goal.at.loop-made-preserved c).After-step_in-d in
    let l = c.loop-made in
    let p = c.put_answer-at.ensures in (
      within k,
      search rules,
      search rules,
      omega (arith, room k, p.place),
      search rules,
      let e : c.args.turns - (l.made + 1) ≡ c.args.turns - l.made - 1 = omega arith in rw e
          (turn_on _ _ _ _ _ _ _ _ _ _ _ _ _ _ _ _ _ (c.args.turns - l.made) l.at l.work l.sets l.out l.invariant.5 (omega arith) _ _ _ _ _ (omega (arith, room k, p.place)) k.step_in-d.ensures p c.in_default.not-Done),
    )

pub returns-after-loop-made : goal.returns-after-loop-made
returns-after-loop-made c =
    let l = c.loop-made in
    turn_over _ _ _ _ _ _ _ _ _ _ _ _ _ _ _ _ _ (c.args.turns - l.made) l.at l.work l.sets l.out l.invariant.5 (omega arith)
