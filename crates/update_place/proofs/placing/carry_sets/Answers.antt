-- Turn by turn; at the end the tail, and zeros behind it. Assumes nothing.
use Rattle.std.proofs.Common.{arith, ◌∙◌}
use Rattle.update.specs.Memories.{filled}
use Rattle.update_place.proofs.Laying.{carry_start, carry_turn_at, carry_at, carry_tail_at, carry_end_at}
use Rattle.update_place.proofs.placing.carry_sets.Goals as goal

pub loop-c-init : goal.loop-c-init
loop-c-init c = carry_start _ _ c.args.cuts _ (omega arith) c.requires.apart c.requires.row_in_bounds

pub loop-c-preserved : goal.loop-c-preserved
loop-c-preserved c = carry_at _ _ c.requires.nodes_in_bounds c.loop-c.invariant c.loop-c-test.true _ _ _ c.copy.ensures c.clear.ensures (omega arith)

pub returns : goal.returns
unfolding filled
returns c = c.clear-2.ensures ∙ carry_end_at _ _ c.requires.nodes_in_bounds c.loop-c.invariant c.loop-c-test.false _ c.copy-2.ensures

pub overflow_mul-fresh : goal.overflow_mul-fresh
overflow_mul-fresh c = omega (arith, carry_turn_at _ _ c.requires.nodes_in_bounds c.loop-c.invariant c.loop-c-test.true)

pub copy-requires-clause-out_in_bounds : goal.copy-requires-clause-out_in_bounds
copy-requires-clause-out_in_bounds c = omega (arith, carry_turn_at _ _ c.requires.nodes_in_bounds c.loop-c.invariant c.loop-c-test.true)

pub copy-requires-clause-held_in_bounds : goal.copy-requires-clause-held_in_bounds
copy-requires-clause-held_in_bounds c = omega (arith, carry_turn_at _ _ c.requires.nodes_in_bounds c.loop-c.invariant c.loop-c-test.true)

pub overflow_add-to : goal.overflow_add-to
overflow_add-to c = omega (arith, carry_turn_at _ _ c.requires.nodes_in_bounds c.loop-c.invariant c.loop-c-test.true)

pub clear-requires : goal.clear-requires
clear-requires c = omega (arith, carry_turn_at _ _ c.requires.nodes_in_bounds c.loop-c.invariant c.loop-c-test.true)

pub overflow_add-at : goal.overflow_add-at
overflow_add-at c = omega (arith, carry_turn_at _ _ c.requires.nodes_in_bounds c.loop-c.invariant c.loop-c-test.true)

pub overflow_add-to-in-loop-c : goal.overflow_add-to-in-loop-c
overflow_add-to-in-loop-c c = omega (arith, carry_turn_at _ _ c.requires.nodes_in_bounds c.loop-c.invariant c.loop-c-test.true)

pub overflow_add-to-in-loop-c-2 : goal.overflow_add-to-in-loop-c-2
overflow_add-to-in-loop-c-2 c = omega (arith, carry_turn_at _ _ c.requires.nodes_in_bounds c.loop-c.invariant c.loop-c-test.true)

pub copy-requires-2-clause-out_in_bounds : goal.copy-requires-2-clause-out_in_bounds
copy-requires-2-clause-out_in_bounds c = omega (arith, carry_tail_at _ _ c.requires.nodes_in_bounds c.loop-c.invariant c.loop-c-test.false)
