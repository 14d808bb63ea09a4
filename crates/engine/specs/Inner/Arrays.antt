-- The arrays that a step and a run go over, and the views of them that are handed on. Assumes nothing.
use Rattle.std.specs.Prelude.{◌≡◌, List, ℕ, ◌*◌, length}
use Rattle.climb.specs.declared.Wires.{Wires}
use Rattle.update.specs.declared.Record.{Record}
use Rattle.update.specs.Memories.{Memory, nodes_of, owns_of}
use Rattle.update_judge.specs.Order.{Going}
use Rattle.update_round.specs.declared.Ranked.{Ranked}
use Rattle.engine.specs.declared.arranging.Arrays.{Arrays}
use Rattle.engine.specs.Inner.Prepared.{Prepared, ArraysHold}

-- 4.4, 6.1: what arrays come to when those of a tree are laid into them
pub record ArraysLaid (t ns : List ℕ) (x y : Arrays) : Type 0 where
  pub slots : y.n ≡ 8 * length ns
  pub prepared : Prepared t ns x.a x.b x.left x.rule x.label x.members x.ends y.a y.b y.left y.rule y.label y.members y.ends y.count

-- 4.4, 6.1: the arrays of the held tree, where nothing refuses a step or a run
pub record Ready (t : List ℕ) (m : Memory) (r : Record) (x : Arrays) : Type 0 where
  pub going : Going t m r
  pub slots : x.n ≡ 8 * r.nodes
  pub holds : ArraysHold t (nodes_of m r.nodes) (owns_of m r.nodes) x.n x.a x.b x.left x.rule x.label x.members x.ends x.count

-- views of the same arrays
pub record Viewed (x : Arrays) (w : Wires) (k : Ranked) : Type 0 where
  pub n : w.n ≡ x.n
  pub a : w.a.now ≡ x.a
  pub b : w.b.now ≡ x.b
  pub left : w.left.now ≡ x.left
  pub rule : w.rule.now ≡ x.rule
  pub label : k.label.now ≡ x.label
  pub members : k.members.now ≡ x.members
  pub ends : k.ends.now ≡ x.ends
  pub count : k.count ≡ x.count
