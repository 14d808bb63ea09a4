-- `finish`: the numbers of the record and the count of what changed. Assumes nothing.
use Rattle.update.specs.Records.{shut}
use Rattle.update_step.proofs.Making.{made_done}
use Rattle.update_step.proofs.step.finish.Goals as goal

pub returns : goal.returns
unfolding shut
returns c = let g = c.args in made_done g.wires.n g.wires.a.now g.r g.earlier.now g.sets.now _ c.changed.ensures
