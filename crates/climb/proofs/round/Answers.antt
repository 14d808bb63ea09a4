-- `round`: all values are computed before the first is stored. Assumes nothing.
use Rattle.climb.proofs.Places.{stored_together}
use Rattle.climb.proofs.round.Goals as goal

pub returns-clause-sets : goal.returns-clause-sets
returns-clause-sets c = stored_together _ _ _ _ _ _ c.requires.n_in_bounds.1 c.compute-still.ensures.values c.store.ensures
