-- `evaluate`: the equation of the rule at the left node's own set and at the two arguments. Assumes nothing.
use Rattle.climb.specs.Memory.{at}
use Rattle.climb.specs.Inner.Wired.{eval_of}
use Rattle.climb.proofs.Places.{value_is}
use Rattle.climb.proofs.evaluate.Goals as goal

pub returns : goal.returns
unfolding eval_of
returns c =
    let g = c.args in
    let w = g.wires in
    let r = c.requires.row in
    rw (c.value.ensures, c.equation_at-equation.ensures, c.from-3.ensures, c.from-node.ensures)
    (value_is _ _ w.n (at g.sets.now) w.a.now w.b.now g.x _ _ _ _ r.firsts r.seconds c.from.ensures c.from-2.ensures c.read-y.ensures c.read-z.ensures)
