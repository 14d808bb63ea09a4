-- `run_in`: what is left of the run falls round by round. Assumes nothing.
use mathlib.Core.Path.{◌≡◌}
use lib.ListN.{length}
use Rattle.climb.specs.Inner.Wires.{wired_by}
use Rattle.update.specs.Within.{WithinLimits}
use Rattle.update_round.specs.Inner.Wires.{circles_by}
use Rattle.update_step.proofs.Continuing.{Left}
use Rattle.update_step.proofs.run.run_in.Given as goal

abbrev pub invariant-loop-rounds : goal.invariant-loop-rounds
invariant-loop-rounds l =
    WithinLimits l.work × (length l.sets ≡ length l.initial.sets) × (length l.values ≡ length l.initial.values)
    × Left (wired_by l.table l.owns l.wires) (circles_by l.wires) l.earlier l.budget l.initial.work l.initial.sets l.rounds l.work l.sets
