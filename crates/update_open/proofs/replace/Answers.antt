-- One point is handed on. Assumes nothing.
use Rattle.update_open.proofs.One.{one_handed}
use Rattle.update_open.proofs.replace.Goals as goal

pub returns : goal.returns
returns c = one_handed _ _ _ _ _ _ _ _ c.one_point-points.ensures c.replace_points.ensures
