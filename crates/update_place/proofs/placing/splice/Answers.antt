-- Turn by turn: what stays up to the next point, then its part; at the end the tail, and zeros behind it. Assumes nothing.
use Rattle.std.proofs.Common.{arith, ◌∙◌}
use Rattle.update_place.proofs.Laying.{splice_start, turn_at, splice_at, tail_at, end_at}
use Rattle.update_place.proofs.placing.splice.Goals as goal

pub loop-c-init : goal.loop-c-init
loop-c-init g c = splice_start _ _ _ c.args.cuts _ (omega arith) c.requires.fitting c.requires.row_in_bounds

pub overflow_sub-stays : goal.overflow_sub-stays
overflow_sub-stays g c = (turn_at _ _ c.requires.nodes_in_bounds c.loop-c.invariant c.loop-c-test.true).after

pub copy-requires-in-loop-c-clause-held_in_bounds : goal.copy-requires-in-loop-c-clause-held_in_bounds
copy-requires-in-loop-c-clause-held_in_bounds g c = (turn_at _ _ c.requires.nodes_in_bounds c.loop-c.invariant c.loop-c-test.true).came

pub overflow_add-to-in-loop-c : goal.overflow_add-to-in-loop-c
overflow_add-to-in-loop-c g c = omega (arith, turn_at _ _ c.requires.nodes_in_bounds c.loop-c.invariant c.loop-c-test.true)

pub loop-c-preserved : goal.loop-c-preserved
loop-c-preserved g c = splice_at _ _ c.requires.nodes_in_bounds c.loop-c.invariant c.loop-c-test.true _ _ _ c.copy.ensures c.copy-in-loop-c.ensures (omega arith)

pub returns-clause-value : goal.returns-clause-value
returns-clause-value g c = (tail_at _ _ c.requires.nodes_in_bounds c.loop-c.invariant c.loop-c-test.false).2

pub returns-clause-out_after : goal.returns-clause-out_after
returns-clause-out_after g c = c.clear.ensures ∙ end_at _ _ c.requires.nodes_in_bounds c.loop-c.invariant c.loop-c-test.false c.args.zero _ c.copy-2.ensures
