-- The refusal of a refused frame, and 14 of any other. Assumes nothing.
use Rattle.session_line.proofs.Cases.{not_refused}
use Rattle.session_line.proofs.Heard.{as_well}
use Rattle.session_line.proofs.hearing.stop_at.Goals as goal

pub returns-in_default : goal.returns-in_default
returns-in_default c = λ t ps os m. let a = c.args in as_well (not_refused t ps os m a.«record» a.frame a.line c.in_default.not-Refused) (c.stop.ensures t ps os m)

pub returns : goal.returns
returns c = λ t ps os m. rw c.in-Refused.is (c.stop-2.ensures t ps os m)
