-- `work` is safe and ends: each stage gives the next what it asks. Assumes nothing.
use Rattle.std.proofs.Common.{arith}
use Rattle.table.proofs.Limits.{limits}
use Rattle.wire.proofs.Places.{number_in}
use Rattle.wire.proofs.Holding.{wired_given}
use Rattle.bench_stages.proofs.work.Goals as goal

pub spans-requires-clause-numbers : goal.spans-requires-clause-numbers
spans-requires-clause-numbers c =
    let h = c.requires in
    let t = c.args.table.now in
    let ns = c.args.nodes.now in
    record { number = λ n l. omega (arith, number_in t ns h.judged h.sound n l, (limits t h.judged).productions) }

pub rank_circles-count-requires : goal.rank_circles-count-requires
rank_circles-count-requires c =
    let h = c.requires in
    let few = h.few in
    (wired_given c.args.table.now c.args.nodes.now _ _ _ _ _ _ _ _ h.judged h.sound few c.wire_tree.ensures, omega arith, omega arith, omega arith)
