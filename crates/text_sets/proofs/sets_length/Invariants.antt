-- The invariant: what is counted and what is left are the whole. Assumes nothing.
use Rattle.std.proofs.Common.{◌≡◌, ◌+◌, ◌*◌, ◌-◌, ◌≤◌, length, take}
use Rattle.text_sets.specs.Telling.{told_from}
use Rattle.text_sets.proofs.Slots.{rest}
use Rattle.text_sets.proofs.sets_length.Given as goal

abbrev pub invariant-loop-x : goal.invariant-loop-x
invariant-loop-x l =
    ((l.n ≤ 23 * l.x) × (l.n + length (rest l.table (take l.nodes l.held) l.sets (8 * l.nodes) l.x) ≡ length (told_from l.table (take l.nodes l.held) l.sets 0 (8 * l.nodes))))
