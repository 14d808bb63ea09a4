-- The invariant: seeking from here on finds the same. Assumes nothing.
use Rattle.std.proofs.Common.{◌≡◌, suc, ◌-◌}
use Rattle.table.specs.Words.{child_count}
use Rattle.text_frame.specs.Walk.{seek_from}
use Rattle.text_frame.proofs.walk.seek.Given as goal

abbrev pub invariant-loop-at : goal.invariant-loop-at
invariant-loop-at l = seek_from (suc (child_count l.table l.p) - l.at) l.table l.p l.at ≡ seek_from (suc (child_count l.table l.p) - l.q) l.table l.p l.q
