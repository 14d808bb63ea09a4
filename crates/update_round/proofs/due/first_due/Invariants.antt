-- `first_due`: what is left to look at falls circle by circle. Assumes nothing.
use mathlib.Core.Path.{◌≡◌}
use Rattle.update.specs.Steps.{due_from}
use Rattle.update_round.specs.Inner.Wires.{circles_by, reading_by}
use Rattle.update_round.proofs.Looking.{look_from}
use Rattle.update_round.proofs.due.first_due.Given as goal

abbrev pub invariant-loop-i : goal.invariant-loop-i
invariant-loop-i l =
    due_from (reading_by l.wires) (circles_by l.wires) l.r l.earlier l.sets ≡ look_from (reading_by l.wires) (circles_by l.wires) l.r l.earlier l.sets l.ranked.count l.i
