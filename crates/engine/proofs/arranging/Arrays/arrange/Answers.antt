-- What is prepared of a sound tree. Assumes nothing.
use Rattle.std.proofs.Common.{refl, arith}
use Rattle.engine.proofs.arranging.Arrays.arrange.Goals as goal

pub overflow_mul-self : goal.overflow_mul-self
overflow_mul-self c = let l = c.requires.few in omega arith

pub returns : goal.returns
returns c = record { slots = refl; prepared = c.prepare-self.ensures }
