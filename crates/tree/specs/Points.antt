-- Several subtrees exchanged in one go, each point by its number in the tree before: a row of single exchanges, made from the last point to the first, so that
-- the points before keep their numbers. Assumes nothing.
use Rattle.std.specs.Prelude.{ℕ, ◌+◌, ◌-◌, ◌≤◌, ◌<◌, ◌≡◌, Bool, true, false, cond, ◌&&◌, ◌||◌, List, [], ◌∷◌, ◌++◌, eqb, ltb, leb, length, get_or, take, drop}
use Rattle.table.specs.Words.{left_of}
use Rattle.tree.specs.declared.Point.{Point}
use Rattle.tree.specs.Tree.{judge_nodes}
use Rattle.tree.specs.Replace.{exchanged, part, formerly}

-- 9.2: a point of the tree as it was, and its new part: the productions and the own sets of its nodes
pub record Part : Type 0 where
  pub point : ℕ
  pub nodes : List ℕ
  pub owns : List ℕ

-- the parts by their place in the row
abbrev pub part_at : List Part → ℕ → Part
part_at ps i = get_or ps i (record { point = 0; nodes = []; owns = [] })

-- ---- the tree afterwards

-- 9.4, 9.5: the nodes, with each part in the place of its point's subtree
unfoldable pub nodes_row : List ℕ → List ℕ → List Part → List ℕ
nodes_row t ns [] = ns
nodes_row t ns (p ∷ ps) = exchanged (nodes_row t ns ps) p.point (part t ns p.point) p.nodes

-- 9.4, 9.5: and the own sets
unfoldable pub owns_row : List ℕ → List ℕ → List ℕ → List Part → List ℕ
owns_row t ns owns [] = owns
owns_row t ns owns (p ∷ ps) = exchanged (owns_row t ns owns ps) p.point (part t ns p.point) p.owns

-- 9.4: the same in one go from the first node to the last: from place `at` of l on, what stays up to the next point, then its part
unfoldable pub spliced_row : List ℕ → List ℕ → (Part → List ℕ) → List ℕ → ℕ → List Part → List ℕ
spliced_row t ns new l at [] = drop at l
spliced_row t ns new l at (p ∷ ps) = take (p.point - at) (drop at l) ++ (new p ++ spliced_row t ns new l (p.point + part t ns p.point) ps)

-- 9.4: how many nodes make way, and how many come
unfoldable pub leaving_row : List ℕ → List ℕ → List Part → ℕ
leaving_row t ns [] = 0
leaving_row t ns (p ∷ ps) = part t ns p.point + leaving_row t ns ps

unfoldable pub coming_row : List Part → ℕ
coming_row [] = 0
coming_row (p ∷ ps) = length p.nodes + coming_row ps

-- ---- the points in the new tree

-- 9.4, 9.9: a point's number is shifted by what the parts before it have grown: before these parts, `came` nodes came and `left` nodes left
unfoldable pub shifted_row : List ℕ → List ℕ → ℕ → ℕ → List Part → List Point
shifted_row t ns came left [] = []
shifted_row t ns came left (p ∷ ps) =
    record { node = p.point + came - left; count = length p.nodes } ∷ shifted_row t ns (came + length p.nodes) (left + part t ns p.point) ps

-- 9.9: all points, as the record has them
abbrev pub points_row : List ℕ → List ℕ → List Part → List Point
points_row t ns ps = shifted_row t ns 0 0 ps

abbrev pub point_at : List Point → ℕ → Point
point_at qs i = get_or qs i (record { node = 0; count = 0 })

-- some of the points, or all
abbrev pub some_point : (Point → Bool) → List Point → Bool
some_point f [] = false
some_point f (q ∷ qs) = f q || some_point f qs

abbrev pub every_point : (Point → Bool) → List Point → Bool
every_point f [] = true
every_point f (q ∷ qs) = f q && every_point f qs

-- 7.10: a node of the new tree is new: it lies in a part, below its point
unfoldable pub new_at : Point → ℕ → Bool
new_at q m = ltb q.node m && ltb m (q.node + q.count)

-- 7.10: new at one of the points
abbrev pub is_new : List Point → ℕ → Bool
is_new qs m = some_point (λ q. new_at q m) qs

-- 7.10: or it survives: it is one of the points, or lies outside the parts
unfoldable pub survives_at : Point → ℕ → Bool
survives_at q m = leb m q.node || leb (q.node + q.count) m

-- 7.10: left alone by all of them
abbrev pub is_old : List Point → ℕ → Bool
is_old qs m = every_point (λ q. survives_at q m) qs

-- 7.10: one of the points
abbrev pub is_point : List Point → ℕ → Bool
is_point qs m = some_point (λ q. eqb q.node m) qs

-- 9.4, 9.6: the old number of node m, point by point from the first: a node before a point keeps its number, one behind its part is shifted
unfoldable pub former_row : List ℕ → List ℕ → List Part → ℕ → ℕ
former_row t ns [] m = m
former_row t ns (p ∷ ps) m = former_row t ns ps (formerly p.point (part t ns p.point) (length p.nodes) m)

-- 9.4: the same in one look over the points of the new tree, from the first that doesn't lie before m
unfoldable pub back_row : List ℕ → List ℕ → ℕ → ℕ → List Part → ℕ → ℕ
back_row t ns came left [] m = m + left - came
back_row t ns came left (p ∷ ps) m =
    cond (leb m (p.point + came - left)) (m + left - came) (back_row t ns (came + length p.nodes) (left + part t ns p.point) ps m)

-- ---- what is asked of the parts

-- some of the parts
abbrev pub some_part : (Part → Bool) → List Part → Bool
some_part f [] = false
some_part f (p ∷ ps) = f p || some_part f ps

-- 14.23: the points meet or don't rise: one lies before `from`, or before the end of the old part of the one before it
unfoldable pub overlaps : List ℕ → List ℕ → ℕ → List Part → Bool
overlaps t ns from [] = false
overlaps t ns from (p ∷ ps) = ltb p.point from || overlaps t ns (p.point + part t ns p.point) ps

-- 9.1: a part fits its point: the point is a node, and the part is a tree of its symbol, each node with its own set
pub record FitsPart (t ns : List ℕ) (p : Part) : Type 0 where
  pub inside : p.point < length ns
  pub sound : judge_nodes t p.nodes (left_of t (get_or ns p.point 0) ∷ []) ≡ 0
  pub owned : length p.owns ≡ length p.nodes

-- 9.3: the points rise, none lies inside another's old part, and all lie at `from` or behind it
pub data Row (t ns : List ℕ) : ℕ → List Part → Type 0 where
  none : {from : ℕ} → Row t ns from []
  more : {from : ℕ} {p : Part} {ps : List Part} → from ≤ p.point → FitsPart t ns p → Row t ns (p.point + part t ns p.point) ps → Row t ns from (p ∷ ps)
