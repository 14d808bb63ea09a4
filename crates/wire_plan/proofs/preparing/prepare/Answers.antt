-- The ends of the subtrees, the wiring, then the circles of what it holds. Assumes nothing.
use mathlib.Core.List.{[], ◌∷◌}
use native.Mathlib.Omega.{arith}
use Rattle.table.proofs.Limits.{limits}
use Rattle.tree.proofs.Numbered.{judged_numbered}
use Rattle.wire.proofs.Holding.{wired_given}
use Rattle.wire_plan.proofs.preparing.prepare.Goals as goal

pub spans-requires-clause-numbers : goal.spans-requires-clause-numbers
spans-requires-clause-numbers c =
    let h = c.requires.held in
    record { number = λ n l. omega (arith, (judged_numbered c.args.table.now c.args.tree.now (0 ∷ []) h.sound).below n l, (limits c.args.table.now h.judged).productions) }

pub rank_circles-requires : goal.rank_circles-requires
rank_circles-requires c =
    let h = c.requires.held in
    (wired_given c.args.table.now c.args.tree.now _ _ _ _ _ _ _ _ h.judged h.sound h.few c.wire_tree.ensures, omega arith, omega arith, omega arith)
