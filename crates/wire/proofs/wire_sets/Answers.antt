-- Set by set of a position: the instances with turns before the next set's are wired, and from the last slot on nothing has changed. Assumes nothing.
use Prim.Native.Nat.{◌+◌, min}
use mathlib.Core.Path.{◌≡◌, refl, ◌∙◌}
use native.Mathlib.Omega.{arith}
use Rattle.wire.proofs.Rooms.{stay_set, stay_room}
use Rattle.wire.proofs.Reading.{op_known, fit_first, fit_second, first_read, second_read}
use Rattle.wire.proofs.Turning.{SetTurn, set_turn, sets_few, sets_end, slot_turn}
use Rattle.wire.proofs.wire_sets.Goals.{Else-count-i}
use Rattle.wire.proofs.wire_sets.Goals as goal

-- the turn of set i
turn : (c : Else-count-i) → SetTurn c.args.node.table.now c.args.node.productions.now c.args.node.q c.args.at c.args.number c.args.heads c.args.from c.loop-i.i
turn c = let n = c.args.node in set_turn n.table.now n.productions.now n.held n.q n.inside c.args.at c.args.number c.args.heads c.args.from c.args.count c.requires.sets c.loop-i.i c.if-count-i.false

pub returns-clause-partly_after : goal.returns-clause-partly_after
returns-clause-partly_after c =
    let n = c.args.node in
    let few = sets_few n.table.now n.productions.now n.held n.q n.inside c.args.at c.args.number c.args.heads c.args.from c.args.count c.requires.sets in
    sets_end n.table.now n.productions.now n.held n.q n.inside c.args.at c.args.number c.args.heads c.args.from c.args.count c.requires.sets (min c.loop-i.i c.args.count) _ _ _ _ (omega arith)
    (omega (arith, few)) c.loop-i.invariant.0

pub offset_bounds-node-heads : goal.offset_bounds-node-heads
offset_bounds-node-heads c = omega (arith, c.requires.sets, (turn (goal.at.offset_bounds-node-heads c).Else-count-i).rule_small)

pub bounds-node-heads : goal.bounds-node-heads
bounds-node-heads c = omega (arith, c.requires.sets, (turn (goal.at.bounds-node-heads c).Else-count-i).rule_small)

pub reads_in-reads-requires-clause-head_bound : goal.reads_in-reads-requires-clause-head_bound
reads_in-reads-requires-clause-head_bound c =
    let n = c.args.node in
    let u = turn (goal.at.reads_in-reads-requires-clause-head_bound c).Else-count-i in
    rw u.head_is (op_known n.table.now n.productions.now n.named.now n.held n.q n.inside n.names c.args.at c.loop-i.i u.has)

pub reads_in-reads-requires-clause-a_fits : goal.reads_in-reads-requires-clause-a_fits
reads_in-reads-requires-clause-a_fits c =
    let n = c.args.node in
    let u = turn (goal.at.reads_in-reads-requires-clause-a_fits c).Else-count-i in
    rw u.head_is (fit_first n.table.now n.productions.now n.named.now n.held n.q n.inside n.names c.args.at c.loop-i.i u.has)

pub reads_in-reads-requires-clause-b_fits : goal.reads_in-reads-requires-clause-b_fits
reads_in-reads-requires-clause-b_fits c =
    let n = c.args.node in
    let u = turn (goal.at.reads_in-reads-requires-clause-b_fits c).Else-count-i in
    rw u.head_is (fit_second n.table.now n.productions.now n.named.now n.held n.q n.inside n.names c.args.at c.loop-i.i u.has)

pub offset_bounds-a-x : goal.offset_bounds-a-x
offset_bounds-a-x c = omega (arith, (turn (goal.at.offset_bounds-a-x c).Else-count-i).small)

pub bounds-a-x : goal.bounds-a-x
bounds-a-x c = omega (arith, (turn (goal.at.bounds-a-x c).Else-count-i).below, (stay_room c.loop-i.invariant.1 c.requires.room).firsts)

pub offset_bounds-b-x : goal.offset_bounds-b-x
offset_bounds-b-x c = omega (arith, (turn (goal.at.offset_bounds-b-x c).Else-count-i).small)

pub bounds-b-x : goal.bounds-b-x
bounds-b-x c = omega (arith, (turn (goal.at.bounds-b-x c).Else-count-i).below, (stay_room c.loop-i.invariant.1 c.requires.room).seconds)

pub offset_bounds-left-x : goal.offset_bounds-left-x
offset_bounds-left-x c = omega (arith, (turn (goal.at.offset_bounds-left-x c).Else-count-i).small)

pub bounds-left-x : goal.bounds-left-x
bounds-left-x c = omega (arith, (turn (goal.at.bounds-left-x c).Else-count-i).below, (stay_room c.loop-i.invariant.1 c.requires.room).lefts)

pub offset_bounds-rule-x : goal.offset_bounds-rule-x
offset_bounds-rule-x c = omega (arith, (turn (goal.at.offset_bounds-rule-x c).Else-count-i).small)

pub bounds-rule-x : goal.bounds-rule-x
bounds-rule-x c = omega (arith, (turn (goal.at.bounds-rule-x c).Else-count-i).below, (stay_room c.loop-i.invariant.1 c.requires.room).rules)

pub overflow_cast-rule : goal.overflow_cast-rule
overflow_cast-rule c = omega (arith, (turn (goal.at.overflow_cast-rule c).Else-count-i).rule_small)

pub loop-i-preserved-then-count-i : goal.loop-i-preserved-then-count-i
loop-i-preserved-then-count-i c =
    let e : min (c.loop-i.i + 1) c.args.count ≡ min c.loop-i.i c.args.count = omega (arith, c.if-count-i.true) in
    (rw e c.loop-i.invariant.0, c.loop-i.invariant.1)

pub loop-i-preserved : goal.loop-i-preserved
loop-i-preserved c =
    let k = c.loop-i in
    let n = c.args.node in
    let u = turn (goal.at.loop-i-preserved c).Else-count-i in
    let r = c.reads_in-reads.ensures in
    let before : min k.i c.args.count ≡ k.i = omega (arith, c.if-count-i.false) in
    let after : min (k.i + 1) c.args.count ≡ k.i + 1 = omega (arith, c.if-count-i.false) in (
      rw after (slot_turn n.table.now n.productions.now n.held n.q n.inside c.args.at k.i c.requires.sets.within u.within _ k.a k.b k.left k.rule _ _ _ _ u.slot_is
          (rw u.head_is at r.first_value ∙ first_read n.table.now n.productions.now n.named.now n.held n.q n.inside n.names c.args.at k.i u.has)
          (rw u.head_is at r.second_value ∙ second_read n.table.now n.productions.now n.named.now n.held n.q n.inside n.names c.args.at k.i u.has)
          refl u.rule_is (stay_room k.invariant.1 c.requires.room) (rw before at k.invariant.0)),
      stay_set _ _ _ _ _ k.a k.b k.left k.rule _ _ _ _ _ u.below k.invariant.1,
    )
