-- What is promised of a replacement at several points, beside what every call promises. The proofs are in proofs/. Assumes nothing.
use Rattle.std.specs.Prelude.{◌≡◌, cond, ℕ, ◌+◌, ◌*◌, ◌≤◌, ◌<◌, length}
use mathlib.Core.List.{List, [], ◌∷◌, Memᴰ}
use Rattle.table.specs.Judge.{judge_table}
use Rattle.tree.specs.Tree.{nodes_most, judge_nodes, judge_tree}
use Rattle.tree.specs.Points.{Part, nodes_row, points_row, is_new, back_row, Row}
use Rattle.climb.specs.Memory.{at}
use Rattle.wire.specs.Instances.{node_of, index_of, declared}
use Rattle.wire.specs.Laws.{Words}
use Rattle.wire.specs.Waivers.{Free}
use Rattle.update.specs.declared.Record.{Record}
use Rattle.update.specs.Memories.{Memory, nodes_of, owns_of, replaced, replaced_row}
use Rattle.update.specs.Refusals.{nodes_left, parts_order, parts_refusal, points_refusal}
use Rattle.refusal.specs.Orders.{Gives}
use Rattle.update.specs.Within.{Apart}
use Rattle.update.specs.Calls.{points_call, replace_call}

-- 9.12: at one point a row is the single replacement: answer, record and memory
abbrev pub OnePoint : Type 0
OnePoint = (t : List ℕ) (m : Memory) (r : Record) (p : Part) → points_call t m r (p ∷ []) ≡ replace_call t m r p.point p.nodes p.owns

-- 1.2: the own sets of each part
abbrev pub WordsIn : List Part → Type 0
WordsIn ps = (p : Part) → Memᴰ p ps → Words p.owns

-- 15.7: the parts' number is that of one of them, and those before it have none
abbrev pub PartsMean : Type 0
PartsMean = (t ns : List ℕ) (ps : List Part) → Gives (parts_order t ns ps) (parts_refusal t ns ps)

-- ---- the memory

-- 9.6, 9.7, 9.8: slot by slot: a point keeps its sets and the rest of its new part has none, what survives moves with its node, a slot that isn't declared is
-- zero, and the before values are the same
pub record Arrangement (t : List ℕ) (m : Memory) (n : ℕ) (ps : List Part) (x : ℕ) : Type 0 where
  pub set : at (replaced_row t m n ps).sets x
      ≡ cond (declared t (nodes_row t (nodes_of m n) ps) x) (cond (is_new (points_row t (nodes_of m n) ps) (node_of x)) 0 (at m.sets (8 * back_row t (nodes_of m n) 0 0 ps (node_of x) + index_of x))) 0
  pub earlier : at (replaced_row t m n ps).earlier x ≡ at (replaced_row t m n ps).sets x

abbrev pub AllArranged : Type 0
AllArranged = (t : List ℕ) (m : Memory) (n : ℕ) (ps : List Part) → judge_nodes t (nodes_of m n) (0 ∷ []) ≡ 0 → Row t (nodes_of m n) 0 ps → (x : ℕ) → Arrangement t m n ps x

-- 9.5: as a row of single arrangements, from the last point to the first, where each tree on the way has its room in the buffers. (It need not have: 8 judges
-- the final tree alone)
pub record Room (m : Memory) (count : ℕ) : Type 0 where
  pub productions : count ≤ length m.productions
  pub owns : count ≤ length m.owns
  pub sets : 8 * count ≤ length m.sets
  pub earlier : 8 * count ≤ length m.earlier

abbrev pub ReplacedInTurn : Type 0
ReplacedInTurn = (t : List ℕ) (m : Memory) (n from : ℕ) (p : Part) (ps : List Part) → judge_table t ≡ 0 → judge_tree t (nodes_of m n) (owns_of m n) 0 ≡ 0
    → Row t (nodes_of m n) from (p ∷ ps) → Room m (length (nodes_row t (nodes_of m n) ps))
    → replaced_row t m n (p ∷ ps) ≡ replaced t (replaced_row t m n ps) (length (nodes_row t (nodes_of m n) ps)) p.point p.nodes p.owns

-- 9.1, 9.3: what an accepted call was asked: parts that fit points that rise and lie apart, and the count of the tree that they leave
pub record Accepted (t : List ℕ) (m : Memory) (r : Record) (ps : List Part) : Type 0 where
  pub tree : judge_nodes t (nodes_of m r.nodes) (0 ∷ []) ≡ 0
  pub owned : length (owns_of m r.nodes) ≡ length (nodes_of m r.nodes)
  pub row : Row t (nodes_of m r.nodes) 0 ps
  pub some : 0 < length ps
  pub few : length ps ≤ 8
  pub count : nodes_left t m r ps ≡ length (nodes_row t (nodes_of m r.nodes) ps)
  pub nodes : nodes_left t m r ps ≤ nodes_most
  -- no waiver is inside a circle of that tree
  pub free : Free t (nodes_row t (nodes_of m r.nodes) ps)
  -- by their numbers in it the points rise, and their parts lie apart
  pub apart : Apart (nodes_left t m r ps) 0 (points_row t (nodes_of m r.nodes) ps)

-- 15.2: so it is wherever nothing refuses the call
abbrev pub AllAccepted : Type 0
AllAccepted = (t : List ℕ) (m : Memory) (r : Record) (ps : List Part) → points_refusal t m r ps ≡ 0 → Accepted t m r ps
