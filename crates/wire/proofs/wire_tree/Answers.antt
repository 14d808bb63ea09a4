-- Node by node: what the earlier nodes define is wired, what is not declared is marked, the next node's own names are written, and nothing behind the slots has changed. Assumes nothing.
use mathlib.Core.Path.{◌≡◌}
use native.Mathlib.Omega.{arith}
use lib.ListN.{length}
use Rattle.wire.proofs.Rooms.{stay_refl, stay_trans, blank_partly}
use Rattle.wire.proofs.Ending.{wired_of}
use Rattle.wire.proofs.wire_tree.Goals as goal

pub loop-q-init : goal.loop-q-init
loop-q-init c = (c.name_root.ensures, blank_partly c.args.table.now c.args.productions.now _ _ _ _ c.blank.ensures.blank, stay_refl _ _ _ _ _)

pub returns : goal.returns
returns c =
    let i = c.loop-q.invariant in
    let e : c.loop-q.q ≡ length c.args.productions.now = omega (arith, c.loop-q.auto.q-end, c.loop-q-test.false) in
    wired_of c.args.table.now c.args.productions.now _ _ _ _ _ _ _ _ c.requires.held c.requires.room (stay_trans c.blank.ensures.stay i.2) (rw e at i.1)
