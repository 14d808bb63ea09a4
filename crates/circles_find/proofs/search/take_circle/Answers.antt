-- The circle of a seed by two searches, the second spared where the first finds the seed alone. Assumes nothing.
use Rattle.std.proofs.Common.{arith}
use lib.ListN.{length-set}
use Rattle.circles_find.proofs.Rounds.{found_lone, readers_stated, took}
use Rattle.circles_find.proofs.search.take_circle.Goals as goal

pub returns-then-count-eq1 : goal.returns-then-count-eq1
returns-then-count-eq1 c =
    let g = c.args.g in
    let few = c.requires.n_le_slots_most.0 in
    let r = c.requires.reps in
    let x = c.requires.x_lt_n in
    let m = c.mark_readers-count in
    rw c.from.ensures (took few g.a.now g.b.now r.0 x.0 x.1 r.1 m.ensures.0 (found_lone few g.a.now g.b.now r.0 x.0 x.1 (m.ensures.1.alone c.if-count-eq1.true))
    (omega (arith, length-set c.args.rep.now c.args.x c.args.x, r.0.long)) (omega (arith, m.auto.mark, r.1.long)) x.2)

pub mark_reads-requires-clause-stated : goal.mark_reads-requires-clause-stated
mark_reads-requires-clause-stated c =
    let g = c.args.g in
    let x = c.requires.x_lt_n in
    (x.2, readers_stated c.requires.n_le_slots_most.0 g.a.now g.b.now c.requires.reps.0 x.0 x.1 x.2 c.mark_readers-count.ensures.0)

pub returns : goal.returns
returns c =
    let g = c.args.g in
    let r = c.requires.reps in
    let x = c.requires.x_lt_n in
    let m = c.mark_readers-count in
    let d = c.mark_reads in
    took c.requires.n_le_slots_most.0 g.a.now g.b.now r.0 x.0 x.1 r.1 m.ensures.0 d.ensures (omega (arith, d.auto.mark, r.0.long)) (omega (arith, m.auto.mark, r.1.long)) x.2
