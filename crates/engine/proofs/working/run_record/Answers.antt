-- What refuses changes nothing; what is made over the arrays is made over the system of the table and the tree. Assumes nothing.
use Rattle.std.proofs.Common.{refl}
use Rattle.refusal.proofs.Distinct.{handed}
use Rattle.engine.proofs.Stepping.{run_refused}
use Rattle.engine.proofs.Views.{tree_long, owns_long, holds_tree, ready_laid, wiring, circles, sets_lent, run_over}
use Rattle.engine.proofs.working.run_record.Goals as goal

pub slice_bounds-arrange-end : goal.slice_bounds-arrange-end
slice_bounds-arrange-end c = tree_long _ _ _ c.in_ok-judge_step.ensures

pub arrange-requires : goal.arrange-requires
arrange-requires c = holds_tree _ _ _ c.in_ok-judge_step.ensures

pub slice_bounds-owns-end : goal.slice_bounds-owns-end
slice_bounds-owns-end c = owns_long _ _ _ c.in_ok-judge_step.ensures

pub run_in-requires-clause-within_limits : goal.run_in-requires-clause-within_limits
run_in-requires-clause-within_limits c = (ready_laid _ _ _ c.in_ok-judge_step.ensures c.arrange.ensures).going.footing.within

pub run_in-requires-clause-wiring : goal.run_in-requires-clause-wiring
run_in-requires-clause-wiring c = wiring (ready_laid _ _ _ c.in_ok-judge_step.ensures c.arrange.ensures) c.views.ensures

pub run_in-requires-clause-circles : goal.run_in-requires-clause-circles
run_in-requires-clause-circles c = circles (ready_laid _ _ _ c.in_ok-judge_step.ensures c.arrange.ensures) c.views.ensures

pub run_in-requires-clause-lent : goal.run_in-requires-clause-lent
run_in-requires-clause-lent c = sets_lent (ready_laid _ _ _ c.in_ok-judge_step.ensures c.arrange.ensures) c.views.ensures _ refl

pub returns : goal.returns
returns c = record { left = run_over (ready_laid _ _ _ c.in_ok-judge_step.ensures c.arrange.ensures) c.views.ensures _ _ _ c.run_in.ensures }

pub returns-in_err-judge_step : goal.returns-in_err-judge_step
returns-in_err-judge_step c = rw (handed _ _ c.from_residual.ensures.1) (record { left = run_refused _ _ _ _ _ c.in_err-judge_step.ensures })
