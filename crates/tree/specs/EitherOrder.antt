-- Two corrections of one tree, the one after the other: in either order they leave the same tree, if the second goes to where its point then is. The proofs are
-- in proofs/. Assumes nothing.
use Rattle.std.specs.Prelude.{ℕ, ◌+◌, ◌-◌, ◌≤◌, ◌<◌, ◌≡◌, cond, ◌↔◌, List, [], ◌∷◌, ltb, length, get_or}
use Rattle.tree.specs.Tree.{judge_nodes}
use Rattle.tree.specs.Replace.{part}
use Rattle.tree.specs.Points.{Part, nodes_row, owns_row, FitsPart}

-- 9.1: node q lies in the subtree at node p
pub record Inside (t ns : List ℕ) (p q : ℕ) : Type 0 where
  pub from : p ≤ q
  pub before : q < p + part t ns p

-- 23.14: neither point lies inside the other's old part
pub record NeitherInside (t ns : List ℕ) (p q : ℕ) : Type 0 where
  pub second : Inside t ns p q → ⊥
  pub first : Inside t ns q p → ⊥

-- ---- the second point's number

-- 23.15: where node q is once p's part is in: behind p its number is shifted by what that part has grown, before p it stays
unfoldable pub moved_by : List ℕ → List ℕ → Part → ℕ → ℕ
moved_by t ns p q = cond (ltb p.point q) (q + length p.nodes - part t ns p.point) q

-- 23.15: of two corrections one has another number where it comes second: that of the point behind
pub record OneShifts (t ns : List ℕ) (p q : Part) : Type 0 where
  pub before : p.point < q.point
      → (moved_by t ns p q.point ≡ q.point + length p.nodes - part t ns p.point) × (moved_by t ns q p.point ≡ p.point)
  pub behind : q.point < p.point
      → (moved_by t ns p q.point ≡ q.point) × (moved_by t ns q p.point ≡ p.point + length q.nodes - part t ns q.point)

abbrev pub EachOneShifts : Type 0
EachOneShifts = (t ns : List ℕ) (p q : Part) → OneShifts t ns p q

-- 23.15: and there it is the node that it was, with its symbol and its subtree
pub record SameNode (t ns : List ℕ) (p : Part) (q : ℕ) : Type 0 where
  pub inside : (q < length ns) ↔ (moved_by t ns p q < length (nodes_row t ns (p ∷ [])))
  pub node : get_or (nodes_row t ns (p ∷ [])) (moved_by t ns p q) 0 ≡ get_or ns q 0
  pub part : part t (nodes_row t ns (p ∷ [])) (moved_by t ns p q) ≡ part t ns q

-- 23.15: of a tree of symbol w, and a part that fits its point
abbrev pub AllSameNodes : Type 0
AllSameNodes = (t ns : List ℕ) (w : ℕ) (p : Part) (q : ℕ) → judge_nodes t ns (w ∷ []) ≡ 0 → FitsPart t ns p → NeitherInside t ns p.point q → SameNode t ns p q

-- ---- the one and then the other

-- 23.15: q's correction as it is made after p's
abbrev pub made_after : List ℕ → List ℕ → Part → Part → Part
made_after t ns p q = record { point = moved_by t ns p q.point; nodes = q.nodes; owns = q.owns }

-- 23.15: it fits there exactly if it fits the tree as it was
abbrev pub FitsThere : Type 0
FitsThere = (t ns : List ℕ) (w : ℕ) (p q : Part) → judge_nodes t ns (w ∷ []) ≡ 0 → FitsPart t ns p → NeitherInside t ns p.point q.point
    → FitsPart t ns q ↔ FitsPart t (nodes_row t ns (p ∷ [])) (made_after t ns p q)

-- 23.14: the nodes and the own sets once p's correction was made, and then q's
abbrev pub nodes_then : List ℕ → List ℕ → Part → Part → List ℕ
nodes_then t ns p q = nodes_row t (nodes_row t ns (p ∷ [])) (made_after t ns p q ∷ [])

abbrev pub owns_then : List ℕ → List ℕ → List ℕ → Part → Part → List ℕ
owns_then t ns owns p q = owns_row t (nodes_row t ns (p ∷ [])) (owns_row t ns owns (p ∷ [])) (made_after t ns p q ∷ [])

-- 23.14: the other way round they are the same, and so they are where both are made in one go
pub record SameTree (t ns owns : List ℕ) (p q : Part) : Type 0 where
  pub nodes : nodes_then t ns p q ≡ nodes_then t ns q p
  pub owned : owns_then t ns owns p q ≡ owns_then t ns owns q p
  pub together : p.point < q.point → nodes_then t ns p q ≡ nodes_row t ns (p ∷ q ∷ [])
  pub owned_together : p.point < q.point → owns_then t ns owns p q ≡ owns_row t ns owns (p ∷ q ∷ [])

-- 23.14: of a tree of symbol w, each node with its own set, and parts that fit their points, whichever of these stands before the other
abbrev pub EitherOrder : Type 0
EitherOrder = (t ns owns : List ℕ) (w : ℕ) (p q : Part) → judge_nodes t ns (w ∷ []) ≡ 0 → length owns ≡ length ns → FitsPart t ns p → FitsPart t ns q
    → NeitherInside t ns p.point q.point → SameTree t ns owns p q
