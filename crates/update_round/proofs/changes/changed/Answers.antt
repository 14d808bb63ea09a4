-- `changed`: slot by slot. Assumes nothing.
use Rattle.std.proofs.Common.{sym, ◌∙◌, arith, rules, tests}
use Rattle.std.proofs.lemmas.Iterator.{YieldsList-from_range}
use Rattle.std.proofs.lemmas.Iterator.Consumers.{YieldsList-from_filter, count_from_yields_List}
use Rattle.update_round.specs.Inner.Tests.{counted_in}
use Rattle.update_round.proofs.Counting.{changed_load, changed_is}
use Rattle.update_round.proofs.changes.changed.Goals as goal

pub returns-then-is_load : goal.returns-then-is_load
returns-then-is_load c = changed_load c.args.wires.n c.args.wires.a.now c.args.r c.args.earlier.now c.args.sets.now (sym c.is_load.ensures ∙ c.if-is_load.true)

pub returns : goal.returns
returns c =
    let g = c.args in
    let w = g.wires in
    count_from_yields_List _ _ c.count.ensures.ran
    (YieldsList-from_filter _ (counted_in w.n w.a.now g.r g.earlier.now g.sets.now) (YieldsList-from_range 0 w.n w.n (cc) (omega arith)) c.filter.ensures.closure (λ x b q k. search (rules, tests)))
    ∙ changed_is w.n w.a.now g.r g.earlier.now g.sets.now (sym c.is_load.ensures ∙ c.if-is_load.false)
