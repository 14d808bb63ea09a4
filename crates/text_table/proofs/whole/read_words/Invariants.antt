-- The invariant: reading on from here gives the same. Assumes nothing.
use mathlib.Core.Path.{◌≡◌}
use lib.ListN.{length}
use Rattle.text_table.specs.Read.{Sofar}
use Rattle.text_table.specs.Reading.{read_on}
use Rattle.text_frame.specs.declared.Expected.TheVariants.{AtHeader}
use Rattle.text_table.proofs.whole.read_words.Given as goal

abbrev pub invariant-loop-x : goal.invariant-loop-x
invariant-loop-x l =
    (length l.words ≡ 2657) × (Sofar l.words l.x × (read_on (length l.text) l.initial.words AtHeader l.text l.place l.line ≡ read_on l.left l.words l.x l.text l.at l.l))

abbrev pub decreases-loop-x : goal.decreases-loop-x
decreases-loop-x l = l.left
