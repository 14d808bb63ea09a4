-- `run_in`: what is left of the run falls round by round. Assumes nothing.
use mathlib.Core.Path.{refl}
use native.Mathlib.Numerals.{add-one}
use native.Mathlib.Omega.{arith}
use Rattle.climb.specs.Inner.Wires.{wired_by}
use Rattle.update_round.specs.Inner.Wires.{circles_by}
use Rattle.update_step.proofs.Continuing.{left_all, left_on, left_done, left_over, step_within_lem}
use Rattle.update_step.proofs.run.run_in.Goals as goal

pub loop-rounds-init : goal.loop-rounds-init
loop-rounds-init c = (c.requires.within_limits, refl, refl, left_all _ _ _ _ _ _)

pub returns-in-Done : goal.returns-in-Done
returns-in-Done c =
    let g = c.args in
    let l = c.loop-rounds in
    left_done (wired_by g.table.now g.owns.now g.wires) (circles_by g.wires) g.earlier.now g.budget g.r g.sets.now l.rounds l.work l.sets _ _ _ _ _ _ c.loop-rounds-test.true l.invariant.3
    c.step_in-d.ensures c.in-Done.is

pub loop-rounds-preserved : goal.loop-rounds-preserved
loop-rounds-preserved c =
    let g = c.args in
    let l = c.loop-rounds in
    let u = c.step_in-d.ensures in (
      step_within_lem (wired_by g.table.now g.owns.now g.wires) (circles_by g.wires) l.work g.earlier.now l.sets _ _ _ l.invariant.0
          (rw (← c.requires.circles.counted) c.requires.circles.few) u,
      omega arith,
      omega arith,
      rw add-one (left_on (wired_by g.table.now g.owns.now g.wires) (circles_by g.wires) g.earlier.now g.budget g.r g.sets.now l.rounds l.work l.sets _ _ _ c.loop-rounds-test.true l.invariant.3 u
          c.in_default.not-Done),
    )

pub returns : goal.returns
returns c =
    let g = c.args in
    let l = c.loop-rounds in
    left_over (wired_by g.table.now g.owns.now g.wires) (circles_by g.wires) g.earlier.now g.budget g.r g.sets.now l.rounds l.work l.sets (omega arith) l.invariant.3
