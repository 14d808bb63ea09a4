-- One touch, and on to the next place of the chain. Assumes nothing.
use Rattle.std.proofs.Common.{arith}
use Rattle.circles_find.proofs.Chains.{chain_next, arg_of_lem, at_readers}
use Rattle.circles_order.specs.Inner.Turns.{SureAt}
use Rattle.circles_order.proofs.Cursors.{moved_join, passing_more}
use Rattle.circles_order.proofs.ranks.retire.Goals as goal

pub touch-requires-clause-kin : goal.touch-requires-clause-kin
touch-requires-clause-kin c =
    let g = c.args.r.g in
    let p = c.requires.y_lt_n in
    let el = c.loop-e-test.true in
    let w = arg_of_lem g.n g.a.now g.b.now c.loop-e.e c.args.y p.2.few el p.0 (c.loop-e.invariant.1.hit el) in
    (p.2, p.3, p.4, w.0, p.3.marked _ w.0 w.2)

pub loop-e-preserved : goal.loop-e-preserved
loop-e-preserved c =
    let p = c.requires.y_lt_n in
    let el = c.loop-e-test.true in
    let i = c.loop-e.invariant in
    let t = c.touch.ensures in
    (moved_join p.2.few i.0 t.0, passing_more c.from-e-in-loop-e.result p.2 i.1 t.0 t.1 (chain_next p.1 p.0 el (i.1.hit el) c.from-e-in-loop-e.ensures))

pub returns : goal.returns
returns c =
    let r = c.args.r in
    let g = r.g in
    let i = c.loop-e.invariant in
    (i.0, at_readers (SureAt g.n g.a.now g.b.now r.labels.label.now r.taken.now c.loop-e.cur) g.n g.a.now g.b.now c.args.y (λ e h₁ h₂. i.1.past e (omega (arith, h₁, c.loop-e-test.false)) h₁ h₂))
