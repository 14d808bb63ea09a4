-- What is left of the steps falls line by line. Assumes nothing.
use mathlib.Core.Path.{◌≡◌}
use Prim.Native.Nat.{◌-◌, ◌≤◌}
use lib.ListN.{length}
use Rattle.update.specs.Within.{WithinLimits}
use Rattle.session_rounds.proofs.Turning.{TurnsSoFar}
use Rattle.session_rounds.proofs.tell_steps.Given as goal

abbrev pub invariant-loop-made : goal.invariant-loop-made
invariant-loop-made l =
    WithinLimits l.work × (length l.sets ≡ length l.initial.sets) × (length l.values ≡ length l.initial.values) × (l.at ≤ length l.initial.out) × (length l.out ≡ length l.initial.out)
    × TurnsSoFar l.table l.owns l.wires.n l.wires.a.now l.wires.b.now l.wires.left.now l.wires.rule.now l.ranked.label.now l.ranked.members.now l.ranked.ends.now l.ranked.count l.earlier l.initial.sets l.initial.work l.turns l.printed l.initial.out (l.turns - l.made) l.at l.work l.sets l.out
