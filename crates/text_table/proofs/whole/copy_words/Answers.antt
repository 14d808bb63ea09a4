-- The words stand in front of what lies behind. Assumes nothing.
use Rattle.std.proofs.Common.{sym, ◌∙◌}
use Rattle.std.proofs.lemmas.List.{length-take-le}
use Rattle.std.proofs.lemmas.List.Edits.{paste_all}
use Rattle.text_table.proofs.whole.copy_words.Goals as goal

pub copy_from_slice-requires : goal.copy_from_slice-requires
copy_from_slice-requires c = length-take-le 2657 c.args.table.now c.requires.1 ∙ sym c.requires.0

pub returns : goal.returns
returns c = rw c.copy_from_slice.ensures.after (sym (paste_all c.args.table.now 0 c.args.words.now 2657 (sym c.requires.0)))
