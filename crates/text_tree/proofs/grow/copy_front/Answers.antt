-- The copy stands in front of what lies behind. Assumes nothing.
use Rattle.text_tree.proofs.Copying.{front_stored}
use Rattle.text_tree.proofs.grow.copy_front.Goals as goal

pub returns : goal.returns
returns g c = front_stored c.args.to.now c.args.from.now _ c.args.count c.requires.0 c.requires.1 c.copy_from_slice.ensures.after
