-- Two corrections of one tree, in either order: the second point's number, the trees on the way and at the end, and what a wrong number would make. Assumes nothing.
use Rattle.std.specs.Prelude.{ℕ, ◌≡◌, refl, List, [], ◌∷◌}
use Rattle.table.specs.Words.{production_count, left_of, child_count, child_of, children_from}
use Rattle.table.specs.Example.{put}
use Rattle.tree.specs.Tree.{judge_nodes, size}
use Rattle.tree.specs.Replace.{exchanged, part}
use Rattle.tree.specs.Points.{Part, nodes_row, owns_row}
use Rattle.tree.specs.PointExample.{table_b, tree_b}
use Rattle.tree.specs.EitherOrder.{moved_by, nodes_then, owns_then}

abbrev pub owns_b : List ℕ
owns_b = 10 ∷ 11 ∷ 12 ∷ 13 ∷ 14 ∷ []

-- node 2 grows by two nodes, and so does node 4, which stands behind it
abbrev pub one : Part
one = record { point = 2; nodes = 0 ∷ 1 ∷ 1 ∷ []; owns = 20 ∷ 21 ∷ 22 ∷ [] }

abbrev pub other : Part
other = record { point = 4; nodes = 0 ∷ 1 ∷ 1 ∷ []; owns = 40 ∷ 41 ∷ 42 ∷ [] }

-- node 1, with the two below it, becomes one node
abbrev pub shrunk : Part
shrunk = record { point = 1; nodes = 1 ∷ []; owns = 15 ∷ [] }

-- node 4 shifts with what was before it, up or down; node 2 stays where it is
b_numbers : (moved_by table_b tree_b one 4 ≡ 6) × (moved_by table_b tree_b other 2 ≡ 2) × (moved_by table_b tree_b shrunk 4 ≡ 2)
unfolding table_b put moved_by part size child_count
b_numbers = (refl, refl, refl)

-- after the first correction the trees differ, and after both they are the same
b_orders :
    (nodes_row table_b tree_b (one ∷ []) ≡ 0 ∷ 0 ∷ 0 ∷ 1 ∷ 1 ∷ 1 ∷ 1 ∷ [])
    × (nodes_row table_b tree_b (other ∷ []) ≡ 0 ∷ 0 ∷ 1 ∷ 1 ∷ 0 ∷ 1 ∷ 1 ∷ [])
    × (nodes_then table_b tree_b one other ≡ 0 ∷ 0 ∷ 0 ∷ 1 ∷ 1 ∷ 1 ∷ 0 ∷ 1 ∷ 1 ∷ [])
    × (nodes_then table_b tree_b other one ≡ 0 ∷ 0 ∷ 0 ∷ 1 ∷ 1 ∷ 1 ∷ 0 ∷ 1 ∷ 1 ∷ [])
    × (owns_then table_b tree_b owns_b one other ≡ 10 ∷ 11 ∷ 20 ∷ 21 ∷ 22 ∷ 13 ∷ 40 ∷ 41 ∷ 42 ∷ [])
    × (owns_then table_b tree_b owns_b other one ≡ 10 ∷ 11 ∷ 20 ∷ 21 ∷ 22 ∷ 13 ∷ 40 ∷ 41 ∷ 42 ∷ [])
unfolding table_b put moved_by nodes_row owns_row exchanged part size child_count
b_orders = (refl, refl, refl, refl, refl, refl)

-- the second correction at another number of the tree that the first one leaves
abbrev pub nodes_at : Part → Part → ℕ → List ℕ
nodes_at p q n = nodes_row table_b (nodes_row table_b tree_b (p ∷ [])) (record { point = n; nodes = q.nodes; owns = q.owns } ∷ [])

abbrev pub owns_at : Part → Part → ℕ → List ℕ
owns_at p q n = owns_row table_b (nodes_row table_b tree_b (p ∷ [])) (owns_row table_b tree_b owns_b (p ∷ [])) (record { point = n; nodes = q.nodes; owns = q.owns } ∷ [])

-- not shifted, node 4 is one that the first correction brought; shifted though it stands before, node 2 is the other's point. Both are sound trees, and not the one above
b_wrong :
    (nodes_at one other 4 ≡ 0 ∷ 0 ∷ 0 ∷ 1 ∷ 0 ∷ 1 ∷ 1 ∷ 1 ∷ 1 ∷ [])
    × (owns_at one other 4 ≡ 10 ∷ 11 ∷ 20 ∷ 21 ∷ 40 ∷ 41 ∷ 42 ∷ 13 ∷ 14 ∷ [])
    × (judge_nodes table_b (nodes_at one other 4) (0 ∷ []) ≡ 0)
    × (nodes_at other one 4 ≡ 0 ∷ 0 ∷ 1 ∷ 1 ∷ 0 ∷ 1 ∷ 1 ∷ [])
    × (owns_at other one 4 ≡ 10 ∷ 11 ∷ 12 ∷ 13 ∷ 20 ∷ 21 ∷ 22 ∷ [])
    × (judge_nodes table_b (nodes_at other one 4) (0 ∷ []) ≡ 0)
unfolding table_b put nodes_row owns_row exchanged part size judge_nodes production_count left_of child_count child_of children_from
b_wrong = (refl, refl, refl, refl, refl, refl)
