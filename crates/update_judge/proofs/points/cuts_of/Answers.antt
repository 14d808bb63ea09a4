-- Each point's cut is written to its place. Assumes nothing.
use Rattle.std.proofs.Common.{◌<◌, ◌≢◌, ◌∙◌, ap, length, arith, below_more, length-set, get_or-set_other, get_or-set_same, get_or-take}
use Rattle.tree.specs.Handed.{cut_of}
use Rattle.update_judge.proofs.Outlines.{inside_each}
use Rattle.update_judge.proofs.Walks.{cutted}
use Rattle.update_judge.proofs.points.cuts_of.Goals as goal

pub cut_of-requires-clause-node_in_bounds : goal.cut_of-requires-clause-node_in_bounds
cut_of-requires-clause-node_in_bounds c =
    let h : c.loop-i.i < c.args.points.count = omega arith in
    rw get_or-take (inside_each _ c.args.points c.requires.tree_len_bound.2 c.loop-i.i h)

pub loop-i-preserved : goal.loop-i-preserved
loop-i-preserved c = record {
  long = simp length-set c.loop-i.invariant.long;
  each =
      let h : c.loop-i.i < c.args.points.count = omega arith in
      let lt : c.loop-i.i < length c.loop-i.cuts = omega arith in
      below_more _ _
      (λ j k. let ne : j ≢ c.loop-i.i = omega arith in rw (get_or-set_other c.loop-i.cuts c.loop-i.i j _ _ ne) (c.loop-i.invariant.each j k))
      (rw (get_or-set_same c.loop-i.cuts c.loop-i.i _ _ lt) (c.cut_of.ensures ∙ ap (cut_of c.args.table.now c.args.tree.now) (get_or-take c.args.points.count c.args.points.points c.loop-i.i _ h)));
}

pub returns : goal.returns
returns c = cutted _ _ _ _ _ (omega arith) (λ j h. c.loop-i.invariant.each j (omega arith))
