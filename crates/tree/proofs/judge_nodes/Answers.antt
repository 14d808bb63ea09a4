-- The walk over one subtree, and then what is left behind it. Assumes nothing.
use Rattle.std.proofs.Common.{[], arith, sym, ◌∙◌}
use Rattle.refusal.proofs.Distinct.{handed_number}
use Rattle.tree.proofs.Nodes.{judge_done, judge_number, judge_over}
use Rattle.tree.proofs.judge_nodes.Goals as goal

pub returns-then-productions-next : goal.returns-then-productions-next
returns-then-productions-next c = sym (c.in_ok-next.ensures.rest [] ∙ judge_done c.args.table.now c.args.productions.now c.in_ok-next.next (omega arith))

pub returns-then-production_count-over : goal.returns-then-production_count-over
returns-then-production_count-over c = sym (c.in_ok-next.ensures.rest [] ∙ judge_number c.args.table.now c.args.productions.now c.in_ok-next.next (omega arith) [] (omega arith))

pub returns-else-production_count-over : goal.returns-else-production_count-over
returns-else-production_count-over c = sym (c.in_ok-next.ensures.rest [] ∙ judge_over c.args.table.now c.args.productions.now c.in_ok-next.next (omega arith) (omega arith))

pub returns-in_err-next : goal.returns-in_err-next
returns-in_err-next c = handed_number _ _ c.from_residual.ensures.1 _ (sym (c.in_err-next.ensures []))
