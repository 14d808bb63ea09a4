-- What comes first in every call, and then the load over what is judged. Assumes nothing.
use Rattle.std.proofs.Common.{sym}
use Rattle.refusal.proofs.Distinct.{handed}
use Rattle.update_judge.proofs.Orders.{grounded, load_stopped}
use Rattle.update_open.proofs.Answers.{load_refused}
use Rattle.update_open.proofs.load.Goals as goal

pub load_judged-requires : goal.load_judged-requires
load_judged-requires c = grounded _ _ _ (sym c.in_ok-judge_ground.ensures)

pub returns-in_err-judge_ground : goal.returns-in_err-judge_ground
returns-in_err-judge_ground c = rw (handed _ _ c.from_residual.ensures.1) (load_refused _ _ _ _ _ _ (load_stopped _ _ _ _ _ _ c.in_err-judge_ground.ensures))
