-- What a row of replacements keeps. The proofs are in proofs/. Assumes nothing.
use Rattle.std.specs.Prelude.{ℕ, ◌+◌, ◌-◌, ◌≤◌, ◌<◌, ◌≡◌, true, false, not, ◌⊎◌, ◌↔◌, List, [], ◌∷◌, map, length, get_or, drop}
use Rattle.table.specs.Words.{left_of}
use Rattle.tree.specs.declared.Point.{Point}
use Rattle.tree.specs.Tree.{judge_nodes}
use Rattle.tree.specs.Replace.{part}
use Rattle.tree.specs.Replacement.{after}
use Rattle.tree.specs.Points.{Part, part_at, nodes_row, owns_row, spliced_row, leaving_row, coming_row, points_row, point_at, is_new, is_old, is_point, former_row, back_row, overlaps, Row}

-- 9.5: one step of the row is a single replacement in the tree that the parts behind leave: the point is a node of that tree,
-- with the subtree and the symbol that it had
pub record Step (t ns : List ℕ) (p : Part) (ps : List Part) : Type 0 where
  pub inside : p.point < length (nodes_row t ns ps)
  pub node : get_or (nodes_row t ns ps) p.point 0 ≡ get_or ns p.point 0
  pub part : part t (nodes_row t ns ps) p.point ≡ part t ns p.point
  pub after : nodes_row t ns (p ∷ ps) ≡ after t (nodes_row t ns ps) p.nodes p.point

-- 9.4: a point behind k old nodes that made way for s new ones
abbrev pub shift : ℕ → ℕ → Point → Point
shift k s q = record { node = q.node + s - k; count = q.count }

-- 9.4, 9.5, 9.6: how the tree of a row corresponds to the one before
pub record RowLaw (t ns : List ℕ) (w : ℕ) (ps : List Part) : Type 0 where
  -- the new tree is one, and so is each on the way, where the first i parts are yet to come
  pub sound : judge_nodes t (nodes_row t ns ps) (w ∷ []) ≡ 0
  pub between : (i : ℕ) → judge_nodes t (nodes_row t ns (drop i ps)) (w ∷ []) ≡ 0
  pub size : length (nodes_row t ns ps) + leaving_row t ns ps ≡ length ns + coming_row ps
  pub fits : leaving_row t ns ps ≤ length ns
  pub owned : (owns : List ℕ) → length owns ≡ length ns → length (owns_row t ns owns ps) ≡ length (nodes_row t ns ps)
  -- in one go from the first node to the last
  pub spliced : nodes_row t ns ps ≡ spliced_row t ns (λ p. p.nodes) ns 0 ps
  pub spliced_owns : (owns : List ℕ) → length owns ≡ length ns → owns_row t ns owns ps ≡ spliced_row t ns (λ p. p.owns) owns 0 ps
  -- a node that survives was a node, of the same symbol
  pub was : (m : ℕ) → m < length (nodes_row t ns ps) → is_old (points_row t ns ps) m ≡ true → former_row t ns ps m < length ns
  pub symbol : (m : ℕ) → is_old (points_row t ns ps) m ≡ true → left_of t (get_or (nodes_row t ns ps) m 0) ≡ left_of t (get_or ns (former_row t ns ps m) 0)
  -- and of the same production, with the same own set, unless it is a point
  pub node : (m : ℕ) → is_old (points_row t ns ps) m ≡ true → is_point (points_row t ns ps) m ≡ false → get_or (nodes_row t ns ps) m 0 ≡ get_or ns (former_row t ns ps m) 0
  pub own : (owns : List ℕ) → length owns ≡ length ns → (m : ℕ) → is_old (points_row t ns ps) m ≡ true → is_point (points_row t ns ps) m ≡ false
      → get_or (owns_row t ns owns ps) m 0 ≡ get_or owns (former_row t ns ps m) 0
  -- the new parts stand at their points
  pub new : (i j : ℕ) → i < length ps → j < length (part_at ps i).nodes → get_or (nodes_row t ns ps) ((point_at (points_row t ns ps) i).node + j) 0 ≡ get_or (part_at ps i).nodes j 0
  pub new_own : (owns : List ℕ) → length owns ≡ length ns → (i j : ℕ) → i < length ps → j < length (part_at ps i).owns
      → get_or (owns_row t ns owns ps) ((point_at (points_row t ns ps) i).node + j) 0 ≡ get_or (part_at ps i).owns j 0
  -- its old number, in one look
  pub closed : (m : ℕ) → is_old (points_row t ns ps) m ≡ true → former_row t ns ps m ≡ back_row t ns 0 0 ps m

-- 9.1, 9.3: of a tree of symbol w, and parts that fit points that rise and lie apart
abbrev pub AllRows : Type 0
AllRows = (t ns : List ℕ) (w from : ℕ) (ps : List Part) → judge_nodes t ns (w ∷ []) ≡ 0 → Row t ns from ps → RowLaw t ns w ps

abbrev pub AllSteps : Type 0
AllSteps = (t ns : List ℕ) (w from : ℕ) (p : Part) (ps : List Part) → judge_nodes t ns (w ∷ []) ≡ 0 → Row t ns from (p ∷ ps) → Step t ns p ps

-- 14.23: two of the points meet: the one that is named later lies no further on, or inside the other's old part
pub record Overlap (t ns : List ℕ) (ps : List Part) : Type 0 where
  pub i : ℕ
  pub j : ℕ
  pub order : i < j
  pub below : j < length ps
  pub meets : ((part_at ps j).point ≤ (part_at ps i).point)
      ⊎ (((part_at ps i).point < (part_at ps j).point) × ((part_at ps j).point < (part_at ps i).point + part t ns (part_at ps i).point))

-- 15.2: so the test for 23 holds exactly where two of them meet
abbrev pub OverlapsExactly : Type 0
OverlapsExactly = (t ns : List ℕ) (ps : List Part) → ((i : ℕ) → i < length ps → (part_at ps i).point < length ns) → (overlaps t ns 0 ps ≡ true) ↔ Overlap t ns ps

-- 7.10: a node is new or survives
abbrev pub NewOrOld : Type 0
NewOrOld = (qs : List Point) (m : ℕ) → is_new qs m ≡ not (is_old qs m)

-- 9.4: the points, row by row: the first keeps its number, and those behind it shift by its growth
abbrev pub PointsShift : Type 0
PointsShift = (t ns : List ℕ) (w from : ℕ) (p : Part) (ps : List Part) → judge_nodes t ns (w ∷ []) ≡ 0 → Row t ns from (p ∷ ps)
    → points_row t ns (p ∷ ps) ≡ record { node = p.point; count = length p.nodes } ∷ map (shift (part t ns p.point) (length p.nodes)) (points_row t ns ps)
