-- What placing is told of the points and their parts: the joint between those who judge a call and those who build the tree that it asks for. Assumes nothing.
use Rattle.std.specs.Prelude.{ℕ, ◌≤◌, ◌≡◌, true, List, [], ◌∷◌, length}
use Rattle.table.specs.Judge.{judge_table}
use Rattle.tree.specs.declared.Places.{Places}
use Rattle.tree.specs.declared.Cuts.{Cuts}
use Rattle.tree.specs.Tree.{nodes_most, judge_nodes}
use Rattle.tree.specs.Points.{Row, nodes_row}
use Rattle.tree.specs.Handed.{named_points, cut_row, evenly, Cutting}

pub record Splicing (t ns owns : List ℕ) (points : Places) (cs : Cuts) (new new_owns : List ℕ) : Type 0 where
  pub table : judge_table t ≡ 0
  pub tree : judge_nodes t ns (0 ∷ []) ≡ 0
  pub owned : length owns ≡ length ns
  -- the cuts are the points, each with the count of its subtree
  pub cutting : Cutting t ns (named_points points) cs
  -- as many nodes and own sets came as the points announce
  pub even : evenly (named_points points) new new_owns ≡ true
  pub row : Row t ns 0 (cut_row (named_points points) new new_owns)
  pub few : length (nodes_row t ns (cut_row (named_points points) new new_owns)) ≤ nodes_most
