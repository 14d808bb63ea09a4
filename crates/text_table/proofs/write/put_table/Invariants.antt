-- The invariant: what is left to store is the text from the expected frame on. Assumes nothing.
use mathlib.Core.Path.{◌≡◌}
use Prim.Native.Nat.{◌+◌}
use lib.ListN.{length}
use lib.Seq.{sets}
use Rattle.text_table.specs.Text.{table_text}
use Rattle.text_table.proofs.Order.{Valid, rest_of}
use Rattle.text_table.proofs.Writing.{rest_text}
use Rattle.text_table.proofs.write.put_table.Given as goal

abbrev pub invariant-loop-x : goal.invariant-loop-x
invariant-loop-x l =
    Valid l.table l.x × ((length l.buffer ≡ length l.initial.buffer) × ((sets l.initial.buffer 0 (table_text l.table) ≡ sets l.buffer l.place (rest_text l.table l.x)) × (l.place + length (rest_text l.table l.x) ≡ length (table_text l.table))))

abbrev pub decreases-loop-x : goal.decreases-loop-x
decreases-loop-x l = length (rest_of l.table l.x)
