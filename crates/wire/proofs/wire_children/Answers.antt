-- Child by child: what the node defines at its left symbol and at the earlier children is wired. Assumes nothing.
use mathlib.Core.Path.{ap, ◌∙◌}
use native.Mathlib.Omega.{arith}
use Rattle.table.specs.Words.{inherited, left_of}
use Rattle.wire.proofs.Turning.{ChildTurn, child_turn, skip_rest}
use Rattle.wire.proofs.wire_children.Goals.{After-from-x}
use Rattle.wire.proofs.wire_children.Goals as goal

-- the turn of a child
turn : (c : After-from-x) → ChildTurn c.args.node.table.now c.args.node.productions.now c.args.node.named.now c.args.node.q c.loop-at.at c.from-x.result
turn c = let n = c.args.node in child_turn n.held n.inside n.names c.loop-at.at c.from-x.result (omega arith) (omega (arith, c.loop-at-test.true, c.requires.children_value)) c.from-x.ensures

pub bounds-node-x : goal.bounds-node-x
bounds-node-x c = (turn (goal.at.bounds-node-x c).After-from-x).node

pub left_of-s-requires : goal.left_of-s-requires
left_of-s-requires c = rw c.from.ensures (turn (goal.at.left_of-s-requires c).After-from-x).production

pub inherited_of-count-requires : goal.inherited_of-count-requires
inherited_of-count-requires c = rw (c.left_of-s.ensures, c.from.ensures) (turn (goal.at.inherited_of-count-requires c).After-from-x).symbol

pub wire_sets-requires-clause-sets : goal.wire_sets-requires-clause-sets
wire_sets-requires-clause-sets c =
    let t = c.args.node.table.now in
    let u = turn (goal.at.wire_sets-requires-clause-sets c).After-from-x in
    record {
      within = u.within;
      rules = omega (arith, c.from-p.ensures);
      words = omega arith;
      slots = omega (arith, u.slot, u.first);
      every = c.inherited_of-count.ensures ∙ ap (inherited t) (c.left_of-s.ensures ∙ ap (left_of t) c.from.ensures) ∙ u.every;
    }

pub returns-clause-partly_after : goal.returns-clause-partly_after
returns-clause-partly_after c =
    let n = c.args.node in
    skip_rest n.table.now n.productions.now n.held n.q n.inside c.loop-at.at _ _ _ _ (omega (arith, c.requires.children_value, c.loop-at-test.false)) c.loop-at.invariant.0
