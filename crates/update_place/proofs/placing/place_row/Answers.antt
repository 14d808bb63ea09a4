-- The new tree is read back from its buffer, for the sets; the sets arranged are read back from the before values. Assumes nothing.
use Rattle.update.specs.Memories.{lent}
use Rattle.update_place.proofs.Rows.{Lending, nodes_fit, owns_fit, cuts_apart, nodes_few, owns_few, sets_few, table_limits, count_is, tree_numbered, row_placed}
use Rattle.update_place.proofs.placing.place_row.Goals.{Start}
use Rattle.update_place.proofs.placing.place_row.Goals as goal

lending : (s : Start) → Lending s.args.table.now (lent s.args.held.now s.args.held_owns.now s.args.sets.now s.args.«earlier».now) s.args.nodes s.args.points s.args.cuts s.args.new.now s.args.new_owns.now
lending s = record {
  splicing = s.requires.splicing;
  few = s.requires.nodes_le_nodes_most.0;
  productions = s.requires.nodes_le_nodes_most.1;
  owns = s.requires.nodes_le_nodes_most.2;
  sets = s.requires.slots_most_in_bounds.0;
  earlier = s.requires.slots_most_in_bounds.1;
}

pub place-count-requires-clause-fitting : goal.place-count-requires-clause-fitting
place-count-requires-clause-fitting c = nodes_fit (lending (goal.at.place-count-requires-clause-fitting c).Start)

pub place-count-requires-clause-row_bound : goal.place-count-requires-clause-row_bound
place-count-requires-clause-row_bound c = nodes_few (lending (goal.at.place-count-requires-clause-row_bound c).Start)

pub place-requires-clause-fitting : goal.place-requires-clause-fitting
place-requires-clause-fitting c = owns_fit (lending (goal.at.place-requires-clause-fitting c).Start)

pub place-requires-clause-row_bound : goal.place-requires-clause-row_bound
place-requires-clause-row_bound c = owns_few (lending (goal.at.place-requires-clause-row_bound c).Start)

pub arrange_sets-requires-clause-limits : goal.arrange_sets-requires-clause-limits
arrange_sets-requires-clause-limits c = table_limits (lending (goal.at.arrange_sets-requires-clause-limits c).Start)

pub arrange_sets-requires-clause-numbered : goal.arrange_sets-requires-clause-numbered
arrange_sets-requires-clause-numbered c = tree_numbered (lending (goal.at.arrange_sets-requires-clause-numbered c).Start) c.place-count.new.held c.place-count.result c.place-count.ensures.held_after c.place-count.ensures.value

pub arrange_sets-requires-clause-apart : goal.arrange_sets-requires-clause-apart
arrange_sets-requires-clause-apart c = cuts_apart (lending (goal.at.arrange_sets-requires-clause-apart c).Start)

pub arrange_sets-requires-clause-row_in_bounds : goal.arrange_sets-requires-clause-row_in_bounds
arrange_sets-requires-clause-row_in_bounds c = sets_few (lending (goal.at.arrange_sets-requires-clause-row_in_bounds c).Start)

pub returns-clause-value : goal.returns-clause-value
returns-clause-value c = count_is (lending (goal.at.returns-clause-value c).Start) c.place-count.new.held c.place-count.result c.place-count.ensures.held_after c.place-count.ensures.value

pub returns-clause-lent_after : goal.returns-clause-lent_after
returns-clause-lent_after c =
    row_placed (lending (goal.at.returns-clause-lent_after c).Start) c.place-count.new.held c.place-count.result c.place-count.ensures.held_after c.place-count.ensures.value
    c.arrange_sets.new.out c.arrange_sets.ensures c.place.new.held c.fill.new.held c.place.ensures.held_after c.fill.ensures
