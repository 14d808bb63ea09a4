-- A position is foreign where the search over the positions, as a list of numbers, finds one. Assumes nothing.
use Rattle.std.proofs.Common.{◌+◌, arith, rules, tests, add-one, ap, ◌∙◌}
use Rattle.std.proofs.lemmas.Iterator.{YieldsList-from_range}
use Rattle.std.proofs.lemmas.Iterator.Search.{any_from_yields_List}
use Rattle.table.specs.First.{some_below}
use Rattle.table.specs.Words.{child_count}
use Rattle.table.specs.Judge.{foreign_at}
use Rattle.table.proofs.FirstLaws.{any_below}
use Rattle.table_judge.proofs.judge.is_foreign.Goals as goal

pub returns : goal.returns
returns c =
    let f = foreign_at c.args.table.now c.args.p in
    let n = child_count c.args.table.now c.args.p + 1 in
    any_from_yields_List f _ _ _ c.any.ensures.ran (YieldsList-from_range 0 n n (cc) (omega arith)) (λ x b q k. search (rules, tests))
    ∙ any_below f n ∙ ap (some_below f) (add-one _)
