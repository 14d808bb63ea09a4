-- From child to child: the names so far are written, and where the loop stands is the place of the next child. Assumes nothing.
use Prim.Native.Nat.{◌<◌}
use mathlib.Core.Path.{ap, ◌∙◌}
use native.Mathlib.Omega.{arith}
use Rattle.table.specs.Words.{child_count}
use Rattle.wire.proofs.Naming.{naming_none, naming_few, naming_in, naming_after, naming_more, naming_all}
use Rattle.wire.proofs.name_children.Goals as goal

pub loop-k-init : goal.loop-k-init
loop-k-init c =
    naming_none c.args.table.now c.args.productions.now c.args.q c.args.named.now c.child_count-count.result c.requires.own (c.child_count-count.ensures ∙ ap (child_count c.args.table.now) c.from.ensures)

pub name_child-requires-clause-q_le_node : goal.name_child-requires-clause-q_le_node
name_child-requires-clause-q_le_node c =
    let k = c.loop-k in
    let m : k.k < c.child_count-count.result = omega arith in (
      omega (arith, naming_after _ _ c.args.ends.now c.requires.held c.requires.ends c.args.q c.requires.q_in_bounds k.named c.child_count-count.result k.next k.k k.invariant),
      omega (arith, naming_in _ _ c.args.ends.now c.requires.held c.requires.ends c.args.q c.requires.q_in_bounds k.named c.child_count-count.result k.next k.k k.invariant m),
    )

pub offset_bounds-ends-next : goal.offset_bounds-ends-next
offset_bounds-ends-next c =
    let k = c.loop-k in
    let m : k.k < c.child_count-count.result = omega arith in
    omega (arith, naming_in _ _ c.args.ends.now c.requires.held c.requires.ends c.args.q c.requires.q_in_bounds k.named c.child_count-count.result k.next k.k k.invariant m)

pub bounds-ends-next : goal.bounds-ends-next
bounds-ends-next c =
    let k = c.loop-k in
    let m : k.k < c.child_count-count.result = omega arith in
    omega (arith, naming_in _ _ c.args.ends.now c.requires.held c.requires.ends c.args.q c.requires.q_in_bounds k.named c.child_count-count.result k.next k.k k.invariant m)

pub loop-k-preserved : goal.loop-k-preserved
loop-k-preserved c =
    let k = c.loop-k in
    let m : k.k < c.child_count-count.result = omega arith in
    rw c.from-next.ensures (naming_more _ _ c.args.ends.now c.requires.held c.requires.ends c.args.q c.requires.q_in_bounds k.named c.child_count-count.result k.next k.k k.invariant _ m c.name_child.ensures)

pub returns-clause-named : goal.returns-clause-named
returns-clause-named c =
    let k = c.loop-k in
    let all = naming_all _ _ c.args.ends.now c.requires.held c.requires.ends c.args.q c.requires.q_in_bounds k.named c.child_count-count.result k.next k.k k.invariant in
    all (omega (arith, naming_few _ _ c.args.ends.now c.requires.held c.requires.ends c.args.q c.requires.q_in_bounds k.named c.child_count-count.result k.next k.k k.invariant))

pub returns-then-count-k-clause-named : goal.returns-then-count-k-clause-named
returns-then-count-k-clause-named c =
    let k = c.loop-k in
    naming_all _ _ c.args.ends.now c.requires.held c.requires.ends c.args.q c.requires.q_in_bounds k.named c.child_count-count.result k.next k.k k.invariant c.if-count-k.true
