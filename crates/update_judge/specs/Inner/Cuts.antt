-- What code reads off the cuts that it holds of a call's points, cut by cut: how many nodes make way and come, whether two points meet, and the parts' numbers.
-- Assumes nothing.
use Rattle.std.specs.Prelude.{ℕ, ◌+◌, ◌-◌, ◌≤◌, ◌<◌, ◌≡◌, Bool, false, ◌||◌, List, [], ◌∷◌, ltb, length, get_or, take, drop}
use Rattle.refusal.specs.Orders.{or_else}
use Rattle.table.specs.Words.{left_of}
use Rattle.table.specs.Judge.{judge_table}
use Rattle.tree.specs.declared.Point.{Point}
use Rattle.tree.specs.declared.Places.{Places}
use Rattle.tree.specs.declared.Cut.{Cut}
use Rattle.tree.specs.declared.Cuts.{Cuts}
use Rattle.tree.specs.Tree.{nodes_most, judge_nodes}
use Rattle.tree.specs.Points.{Part}
use Rattle.tree.specs.Handed.{named_points, bare_row, cut_at, Cutting}
unfoldable pub use Rattle.update_place.specs.Inner.Pieces.{cuts_from}
pub use Rattle.update_place.specs.Inner.Pieces.{named_cuts}
use Rattle.update.specs.Refusals.{missing}

-- 14.23: a cut before `from`, or before the end of the old part of the one before it
unfoldable pub meeting : ℕ → List Cut → Bool
meeting from [] = false
meeting from (c ∷ cs) = ltb c.node from || meeting (c.node + c.old) cs

-- 9.4: how many nodes make way, and how many come
unfoldable pub leaving : List Cut → ℕ
leaving [] = 0
leaving (c ∷ cs) = c.old + leaving cs

unfoldable pub coming : List Cut → ℕ
coming [] = 0
coming (c ∷ cs) = c.count + coming cs

-- 15.7: the number of the first part that has one, of parts that lie in `new` one behind the other
unfoldable pub judge_cuts : List ℕ → List ℕ → List Cut → List ℕ → ℕ
judge_cuts t ns [] new = 0
judge_cuts t ns (c ∷ cs) new = or_else (judge_nodes t (take c.count new) (left_of t (get_or ns c.node 0) ∷ [])) (judge_cuts t ns cs (drop c.count new))

-- 9.4, 9.9: each cut with its number in the new tree, where `came` nodes came and `left` nodes left before it
unfoldable pub shifted : ℕ → ℕ → List Cut → List Point
shifted came left [] = []
shifted came left (c ∷ cs) = record { node = c.node + came - left; count = c.count } ∷ shifted (came + c.count) (left + c.old) cs

-- no more than eight cuts, each with its old part inside a tree of n nodes
pub record Small (n : ℕ) (cs : Cuts) : Type 0 where
  pub few : cs.count ≤ 8
  pub each : (i : ℕ) → i < cs.count → ((cut_at cs.cuts i).node < n) × ((cut_at cs.cuts i).node + (cut_at cs.cuts i).old ≤ n)

-- 9.10: parts of which points and counts are those
pub data Outlined : List Point → List Part → Type 0 where
  none : Outlined [] []
  more : {q : Point} {qs : List Point} {p : Part} {ps : List Part} → p.point ≡ q.node → length p.nodes ≡ q.count → Outlined qs ps → Outlined (q ∷ qs) (p ∷ ps)

-- the points of a call are nodes of a sound tree, and the cuts are theirs
pub record Aimed (t ns : List ℕ) (points : Places) (cs : Cuts) : Type 0 where
  pub table : judge_table t ≡ 0
  pub tree : judge_nodes t ns (0 ∷ []) ≡ 0
  pub few : length ns ≤ nodes_most
  pub cutting : Cutting t ns (named_points points) cs
  pub some : 0 < points.count
  pub inside : missing (length ns) (bare_row (named_points points)) ≡ false
