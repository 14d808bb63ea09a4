-- The cuts end inside a tree of 512 nodes at the most, whose table keeps to its limits. Assumes nothing.
use Rattle.std.proofs.Common.{sym, ◌∙◌}
use Rattle.table.proofs.Limits.{limits}
use Rattle.tree.proofs.Numbered.{judged_numbered}
use Rattle.update_judge.proofs.Outlines.{aimed_small, small_512, small_leaving}
use Rattle.update_judge.proofs.points.judge_row.Goals as goal

pub is_meeting-requires : goal.is_meeting-requires
is_meeting-requires c = small_512 c.requires.few (aimed_small c.requires)

pub is_passing-requires-clause-small : goal.is_passing-requires-clause-small
is_passing-requires-clause-small c = small_512 c.requires.few (aimed_small c.requires)

pub is_passing-requires-clause-cuts_bound : goal.is_passing-requires-clause-cuts_bound
is_passing-requires-clause-cuts_bound c = (small_leaving (aimed_small c.requires) (sym c.is_meeting.ensures ∙ c.if-is_meeting.false), c.requires.few)

pub count_coming-count-requires : goal.count_coming-count-requires
count_coming-count-requires c = small_512 c.requires.few (aimed_small c.requires)

pub judge_parts-requires-clause-limits : goal.judge_parts-requires-clause-limits
judge_parts-requires-clause-limits c = limits _ c.requires.table

pub judge_parts-requires-clause-numbered : goal.judge_parts-requires-clause-numbered
judge_parts-requires-clause-numbered c = judged_numbered _ _ _ c.requires.tree

pub judge_parts-requires-clause-small : goal.judge_parts-requires-clause-small
judge_parts-requires-clause-small c = aimed_small c.requires
