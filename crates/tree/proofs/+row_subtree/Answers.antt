-- What each of the two walks says follows from what the walks that it calls say. Assumes nothing.
use Rattle.std.proofs.Common.{◌∷◌, arith, ap}
use Rattle.table.specs.Words.{left_of}
use Rattle.tree.proofs.Nodes.{judge_short, judge_number, judge_wrong}
use Rattle.tree.proofs.Walks.{subtree_goes, walk_begins, walk_goes, walk_stops, walk_ends}
use Rattle.tree.proofs.+row_subtree.Goals as goal

pub row-loop-child-init : goal.row-loop-child-init
row-loop-child-init t c = walk_begins _ _ _ _ c.requires.at_in_bounds

pub row-returns-in_err-next : goal.row-returns-in_err-next
row-returns-in_err-next t c = walk_stops _ _ _ _ _ _ c.loop-child.invariant _ _ _ c.from_residual.ensures.1 (omega arith) c.child_of.ensures c.in_err-next.ensures

pub row-loop-child-preserved : goal.row-loop-child-preserved
row-loop-child-preserved t c = walk_goes _ _ _ _ _ _ c.loop-child.invariant _ _ (omega arith) c.child_of.ensures c.in_ok-next.ensures

pub row-returns : goal.row-returns
row-returns t c = walk_ends _ _ _ _ _ _ c.loop-child.invariant (omega arith)

pub subtree-returns-then-productions-at : goal.subtree-returns-then-productions-at
subtree-returns-then-productions-at t c = λ ss. judge_short _ _ c.args.at c.args.symbol ss (omega arith)

pub subtree-returns-then-production_count-p : goal.subtree-returns-then-production_count-p
subtree-returns-then-production_count-p t c = λ ss. judge_number _ _ c.args.at (omega arith) (c.args.symbol ∷ ss) (omega arith)

pub subtree-returns-then-left_of-symbol : goal.subtree-returns-then-left_of-symbol
subtree-returns-then-left_of-symbol t c = λ ss. judge_wrong _ _ c.args.at (omega arith) c.args.symbol ss (omega arith) (λ e. omega (arith, ap (left_of c.args.table.now) c.from-p.ensures))

pub subtree-returns : goal.subtree-returns
subtree-returns t c = subtree_goes _ _ c.args.at c.args.symbol c.from-p.result (omega arith) c.from-p.ensures (omega arith) (omega arith) c.row.result c.row.ensures
