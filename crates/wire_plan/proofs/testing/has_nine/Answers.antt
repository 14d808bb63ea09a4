-- Rule by rule. Assumes nothing.
use Rattle.std.proofs.Common.{◌*◌, ◌∙◌, arith, rules, tests}
use Rattle.std.proofs.lemmas.Iterator.{YieldsList-from_range}
use Rattle.std.proofs.lemmas.Iterator.Search.{any_from_yields_List}
use Rattle.table.specs.Words.{production_count}
use Rattle.climb.proofs.Lists.{any_up}
use Rattle.wire_plan.specs.Inner.Nines.{is_nine, nine_in}
use Rattle.wire_plan.proofs.testing.has_nine.Goals as goal

pub returns : goal.returns
unfolding nine_in
returns c =
    let t = c.args.table.now in
    let n = 20 * production_count t in
    any_from_yields_List (is_nine t) _ _ _ c.any.ensures.ran (YieldsList-from_range 0 n n (cc) (omega arith)) (λ x b q k. search (rules, tests)) ∙ any_up (is_nine t) n
