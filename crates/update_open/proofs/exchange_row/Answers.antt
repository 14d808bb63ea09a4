-- The cuts are counted, points and parts judged, and then all buffers are filled by one call. Assumes nothing.
use Rattle.update_judge.proofs.Rows.{counted}
use Rattle.refusal.proofs.Distinct.{handed}
use Rattle.table.proofs.Limits.{limits}
use Rattle.tree.proofs.Numbered.{judged_numbered}
use Rattle.update_open.proofs.Answers.{few, tree, inside, aimed, row_refused, shiftable, splicing, row_carried}
use Rattle.update_open.proofs.exchange_row.Goals as goal

pub cuts_of-cuts-requires-clause-limits : goal.cuts_of-cuts-requires-clause-limits
cuts_of-cuts-requires-clause-limits c = limits _ c.requires.grounded.table

pub cuts_of-cuts-requires-clause-numbered : goal.cuts_of-cuts-requires-clause-numbered
cuts_of-cuts-requires-clause-numbered c = judged_numbered _ _ _ (tree c.requires)

pub cuts_of-cuts-requires-clause-tree_len_bound : goal.cuts_of-cuts-requires-clause-tree_len_bound
cuts_of-cuts-requires-clause-tree_len_bound c = (few c.requires, (counted c.args.points c.requires.named.counted).few, inside c.requires)

pub judge_replaced-requires : goal.judge_replaced-requires
judge_replaced-requires c = aimed c.requires _ c.cuts_of-cuts.ensures

pub place_row-count-requires-clause-splicing : goal.place_row-count-requires-clause-splicing
place_row-count-requires-clause-splicing c = splicing _ _ _ _ _ _ c.requires _ c.cuts_of-cuts.ensures c.in_ok-judge_replaced.ensures

pub shift_points-requires : goal.shift_points-requires
shift_points-requires c = shiftable _ _ _ _ _ _ c.requires _ c.cuts_of-cuts.ensures c.in_ok-judge_replaced.ensures

pub returns : goal.returns
returns c =
    row_carried _ _ _ _ _ _ c.requires _ c.cuts_of-cuts.ensures c.in_ok-judge_replaced.ensures _ _ _ _
    c.place_row-count.ensures.value c.shift_points.ensures c.just_opened.ensures c.place_row-count.ensures.lent_after

pub returns-in_err-judge_replaced : goal.returns-in_err-judge_replaced
returns-in_err-judge_replaced c = rw (handed _ _ c.from_residual.ensures.1) (row_refused _ _ _ _ _ _ c.requires _ c.in_err-judge_replaced.ensures)
