-- Session A's tree (26.2), and nodes that are refused. Assumes nothing.
use Rattle.std.specs.Prelude.{ℕ, ◌≡◌, refl, List, [], ◌∷◌}
use Rattle.table.specs.Words.{production_count, left_of, child_count, child_of, children_from}
use Rattle.table.specs.Example.{put, table_a}
use Rattle.tree.specs.Tree.{judge_nodes, judge_tree, size, span_end, child_at}
use Rattle.tree.specs.Owner.{owner, kid}

abbrev pub tree_a : List ℕ
tree_a = 0 ∷ 1 ∷ 1 ∷ []

a_sound : judge_tree table_a tree_a (0 ∷ 2 ∷ 0 ∷ []) 0 ≡ 0
unfolding table_a put judge_tree judge_nodes production_count left_of children_from child_count child_of
a_sound = refl

-- no nodes; a node missing; one left over; a wrong symbol; no production 3, also where the node is left over; an own set missing
a_refused :
    (judge_nodes table_a [] (0 ∷ []) ≡ 7)
    × (judge_nodes table_a (0 ∷ 1 ∷ []) (0 ∷ []) ≡ 7)
    × (judge_nodes table_a (0 ∷ 1 ∷ 1 ∷ 1 ∷ []) (0 ∷ []) ≡ 7)
    × (judge_nodes table_a (0 ∷ 1 ∷ 0 ∷ []) (0 ∷ []) ≡ 7)
    × (judge_nodes table_a (0 ∷ 3 ∷ 0 ∷ []) (0 ∷ []) ≡ 6)
    × (judge_nodes table_a (0 ∷ 1 ∷ 1 ∷ 3 ∷ []) (0 ∷ []) ≡ 6)
    × (judge_tree table_a (0 ∷ 3 ∷ 0 ∷ []) (0 ∷ 2 ∷ []) 0 ≡ 7)
unfolding table_a put judge_tree judge_nodes production_count left_of children_from child_count child_of
a_refused = (refl, refl, refl, refl, refl, refl, refl)

-- the root's subtree ends behind the last node; node 2 is the root's child 1
a_places : (span_end table_a tree_a 0 ≡ 3) × (child_at table_a tree_a 0 1 ≡ 2) × (owner table_a tree_a 2 ≡ kid 0 1)
unfolding table_a put span_end child_at size owner child_count
a_places = (refl, refl, refl)
