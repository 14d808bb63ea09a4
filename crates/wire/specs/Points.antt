-- What a replacement at several points leaves the same: the equations of what is not sown at any of them, and with them the circles that are not due. Assumes nothing.
use Rattle.std.specs.Prelude.{◌≡◌, Bool, true, false, List, [], ◌∷◌, ℕ, ◌+◌, ◌*◌, length}
use Rattle.table.specs.Judge.{judge_table}
use Rattle.tree.specs.declared.Point.{Point}
use Rattle.tree.specs.Tree.{judge_nodes}
use Rattle.tree.specs.Points.{Part, nodes_row, owns_row, points_row, some_point, is_old, former_row, Row}
use Rattle.circles.specs.Ranked.{circle_at, member}
use Rattle.climb.specs.System.{Assignment}
use Rattle.climb.specs.Circuit.{LawfulCircles, Kept}
use Rattle.climb.specs.Restrict.{Solved}
use Rattle.wire.specs.Instances.{node_of, index_of, declared, system}
use Rattle.wire.specs.Replaced.{sown_by, Unchanged}

-- 9.4: the old number of instance x
unfoldable pub slot_row : List ℕ → List ℕ → List Part → ℕ → ℕ
slot_row t ns ps x = 8 * former_row t ns ps (node_of x) + index_of x

-- 10.1: sown at one of the points: its synthesized instances, and all below it
abbrev pub sown_at : List Point → ℕ → Bool
sown_at qs x = some_point (λ q. sown_by q.node q.count x) qs

-- 9.1, 9.3: table, tree and parts are sound, each node has its own set, the points rise and lie apart
pub record ReplacingRow (t ns owns : List ℕ) (ps : List Part) : Type 0 where
  pub table : judge_table t ≡ 0
  pub tree : judge_nodes t ns (0 ∷ []) ≡ 0
  pub owned : length owns ≡ length ns
  pub row : Row t ns 0 ps

-- 10.1: an instance that is sown at no point was declared before, and has the operation, the own set and the arguments that it had
abbrev pub EquationsStayRow : Type 0
EquationsStayRow = (t ns owns : List ℕ) (ps : List Part) → ReplacingRow t ns owns ps
    → (x : ℕ) → declared t (nodes_row t ns ps) x ≡ true → sown_at (points_row t ns ps) x ≡ false
    → Unchanged t ns owns (nodes_row t ns ps) (owns_row t ns owns ps) (slot_row t ns ps) x

-- 9.6, 9.7: what is asked of the before values: what survives has the value of its old number
pub record ArrangedRow (t ns : List ℕ) (ps : List Part) (v before : Assignment) : Type 0 where
  pub kept : (x : ℕ) → declared t (nodes_row t ns ps) x ≡ true → is_old (points_row t ns ps) (node_of x) ≡ true → before x ≡ v (slot_row t ns ps x)

-- 10.2: where the old values were least by rank, the circles without a sown instance close at their before values, once what they read outside has its own
abbrev pub KeptRow : Type 0
KeptRow = (t ns owns : List ℕ) (ps : List Part) → ReplacingRow t ns owns ps
    → (R₀ : List (List ℕ)) (v before : Assignment) → Solved (system t ns owns) R₀ v → ArrangedRow t ns ps v before
    → (R : List (List ℕ)) → LawfulCircles (system t (nodes_row t ns ps) (owns_row t ns owns ps)) R
    → ((i x : ℕ) → member (circle_at R i) x ≡ true → declared t (nodes_row t ns ps) x ≡ true)
    → (sown : ℕ → Bool) → ((x : ℕ) → sown x ≡ false → sown_at (points_row t ns ps) x ≡ false)
    → Kept (system t (nodes_row t ns ps) (owns_row t ns owns ps)) R sown before
