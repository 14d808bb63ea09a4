-- What comes before the points are looked at, and then the replacement over what is judged. Assumes nothing.
use Rattle.std.proofs.Common.{sym}
use Rattle.refusal.proofs.Distinct.{handed}
use Rattle.update_judge.proofs.Orders.{aimed_at}
use Rattle.update_open.proofs.Answers.{aim_refused}
use Rattle.update_open.proofs.replace_points.Goals as goal

pub replace_points_judged-requires : goal.replace_points_judged-requires
replace_points_judged-requires c = let k = aimed_at _ _ _ _ (sym c.in_ok-judge_aim.ensures) in record { footing = k.footing; tree = λ h. k.tree }

pub returns-in_err-judge_aim : goal.returns-in_err-judge_aim
returns-in_err-judge_aim c = rw (handed _ _ c.from_residual.ensures.1) (aim_refused _ _ _ _ _ _ _ c.in_err-judge_aim.ensures)
