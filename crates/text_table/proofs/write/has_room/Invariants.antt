-- The invariant: the text from here on has room in what is left exactly when all has room. Assumes nothing.
use mathlib.Core.Path.{◌≡◌}
use lib.Dec.{leb}
use lib.ListN.{length}
use Rattle.text_table.specs.Text.{table_text}
use Rattle.text_table.proofs.Order.{Valid, rest_of}
use Rattle.text_table.proofs.Writing.{rest_text}
use Rattle.text_table.proofs.write.has_room.Given as goal

abbrev pub invariant-loop-x : goal.invariant-loop-x
invariant-loop-x l = Valid l.table l.x × (leb (length (table_text l.table)) l.room ≡ leb (length (rest_text l.table l.x)) l.left)

abbrev pub decreases-loop-x : goal.decreases-loop-x
decreases-loop-x l = length (rest_of l.table l.x)
