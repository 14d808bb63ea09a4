-- Slot by slot. Assumes nothing.
use Rattle.std.proofs.Common.{◌∙◌, arith, rules, tests}
use Rattle.std.proofs.lemmas.Iterator.{YieldsList-from_range}
use Rattle.std.proofs.lemmas.Iterator.Search.{any_from_yields_List}
use Rattle.climb.proofs.Lists.{any_up}
use Rattle.wire.specs.Inner.ArrayLaws.{waives_at, waives_in}
use Rattle.wire_plan.proofs.testing.waives_in.Goals as goal

pub returns : goal.returns
unfolding waives_in
returns c =
    let g = c.args in
    let f = waives_at g.n g.table.now g.b.now g.rule.now g.label.now in
    any_from_yields_List f _ _ _ c.any.ensures.ran (YieldsList-from_range 0 g.n g.n (cc) (omega arith)) (λ x b q k. search (rules, tests)) ∙ any_up f g.n
