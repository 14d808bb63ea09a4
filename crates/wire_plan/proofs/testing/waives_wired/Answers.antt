-- The arrays are prepared, and the test over them is the tree's. Assumes nothing.
use mathlib.Core.Path.{refl, ◌∙◌}
use native.Mathlib.Omega.{arith}
use Rattle.wire_plan.proofs.Tests.{prepared_long, prepared_tested, tests}
use Rattle.wire_plan.proofs.testing.waives_wired.Goals as goal

pub waives_in-requires : goal.waives_in-requires
waives_in-requires c =
    let l = prepared_long c.args.table.now c.args.tree.now _ _ _ _ _ _ _ _ _ _ _ _ _ _ _ c.requires.few refl refl c.prepare.ensures in
    let k = prepared_tested c.args.table.now c.args.tree.now _ _ _ _ _ _ _ _ _ _ _ _ _ _ _ c.requires c.prepare.ensures in
    record { seconds = omega (arith, l.0, l.1, c.requires.few); rules = k.rules; labels = k.labels; ruled = k.ruled }

pub returns : goal.returns
returns c = c.waives_in.ensures ∙ tests c.args.table.now c.args.tree.now _ _ _ _ _ _ _ _ _ _ _ _ _ _ _ c.requires c.prepare.ensures
