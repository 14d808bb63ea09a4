-- `make_round`: the round, its number and the record after it. Assumes nothing.
use mathlib.Core.Path.{refl}
use Rattle.update_step.proofs.Making.{made_round}
use Rattle.update_step.proofs.step.make_round.Goals as goal

pub returns : goal.returns
returns c = rw c.from.ensures (made_round _ _ _ _ _ _ _ _ _ _ c.round_number-k.ensures c.round_at-closed.ensures refl c.next_record.ensures)
