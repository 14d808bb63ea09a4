-- What each call refuses: one order of checks a call, put together from parts that the calls share. Assumes nothing.
use Rattle.std.specs.Prelude.{◌≡◌, Bool, ◌||◌, ◌⊎◌, List, [], ◌∷◌, ◌++◌, map, ℕ, ◌+◌, ◌-◌, ◌≤◌, ◌<◌, eqb, ltb, leb, length, get_or, take}
use Rattle.refusal.specs.Orders.{Check, meant, test, unless, above, outside, judged, Order, refusal_by}
use Rattle.table.specs.Words.{left_of}
use Rattle.table.specs.Judge.{table_check}
use Rattle.tree.specs.Tree.{judge_tree}
use Rattle.tree.specs.Refusals.{tree_check}
use Rattle.tree.specs.Replace.{part}
use Rattle.tree.specs.Points.{Part, part_at, nodes_row, leaving_row, coming_row, some_part, overlaps}
use Rattle.tree.specs.PointLaws.{Overlap}
use Rattle.wire.specs.Instances.{declared}
use Rattle.wire.specs.Replaced.{nodes_after}
use Rattle.wire.specs.Waivers.{waives, Waiver, Free}
use Rattle.update.specs.declared.Record.{Record}
use Rattle.update.specs.Records.{nodes_most, points_most, is_open_kind, beyond}
use Rattle.update.specs.Memories.{Memory, nodes_of, owns_of}

-- ---- parts of several orders

-- 14.15: one of the four buffers for the held tree is too short
unfoldable pub short : Memory → Bool
short m = ltb (length m.productions) 512 || ltb (length m.owns) 512 || ltb (length m.sets) 4096 || ltb (length m.earlier) 4096

-- what comes first in every call: 15, the table's 1 to 5, 11
abbrev pub ground_order : List ℕ → Memory → Record → Order
ground_order t m r = test 15 (short m) ∷ table_check t ∷ test 11 (beyond r) ∷ []

-- 14.10: an update is open
abbrev pub busy_check : Record → Check
busy_check r = test 10 (is_open_kind r.«open»)

-- 16, and the held tree's 6/7; `held` and `owns` are the buffers that have its nodes and their own sets
abbrev pub held_order : List ℕ → List ℕ → List ℕ → Record → Order
held_order t held owns r = unless 16 r.held ∷ tree_check t (take r.nodes held) (take r.nodes owns) 0 ∷ []

-- the held tree's number, 6 or 7
abbrev pub held_refusal : List ℕ → Memory → Record → ℕ
held_refusal t m r = judge_tree t (nodes_of m r.nodes) (owns_of m r.nodes) 0

-- 14.21: the tree, as a load or a replacement would leave it, has a waiver inside a circle
abbrev pub waiver_order : List ℕ → List ℕ → Order
waiver_order t ns = meant 21 (waives t ns) (Waiver t ns) (Free t ns) ∷ []

-- ---- 15.5: load

-- 10, 8, the new tree's 6/7
abbrev pub new_order : List ℕ → Record → List ℕ → List ℕ → Order
new_order t r ns owns = busy_check r ∷ above 8 nodes_most (length ns) ∷ tree_check t ns owns 0 ∷ []

-- 15, 1 to 5, 11; 10, 8, 6/7; 21
abbrev pub load_order : List ℕ → Memory → Record → List ℕ → List ℕ → Order
load_order t m r ns owns = ground_order t m r ++ (new_order t r ns owns ++ waiver_order t ns)

unfoldable pub load_refusal : List ℕ → Memory → Record → List ℕ → List ℕ → ℕ
load_refusal t m r ns owns = refusal_by (load_order t m r ns owns)

-- ---- 15.6: replacement at one point

-- what comes first in it, in a reading and in a dump: 15, 1 to 5, 11; 10; 16, held tree 6/7
abbrev pub look_order : List ℕ → Memory → Record → Order
look_order t m r = ground_order t m r ++ (busy_check r ∷ held_order t m.productions m.owns r)

-- the nodes that it would leave, by the counts
abbrev pub replaced_nodes : List ℕ → Memory → Record → ℕ → List ℕ → ℕ
replaced_nodes t m r point new = r.nodes - part t (nodes_of m r.nodes) point + length new

-- and the tree
abbrev pub nodes_then : List ℕ → Memory → Record → ℕ → List ℕ → List ℕ
nodes_then t m r point new = nodes_after t (nodes_of m r.nodes) new point

-- 9, 8, the new part's 6/7: its root is to have the symbol of the node that it replaces
abbrev pub part_order : List ℕ → Memory → Record → ℕ → List ℕ → List ℕ → Order
part_order t m r point new new_owns =
    outside 9 r.nodes point ∷ above 8 nodes_most (replaced_nodes t m r point new) ∷ tree_check t new new_owns (left_of t (get_or (nodes_of m r.nodes) point 0)) ∷ []

-- 15, 1 to 5, 11; 10; 16, held tree 6/7; 9, 8, new part 6/7; 21
abbrev pub replace_order : List ℕ → Memory → Record → ℕ → List ℕ → List ℕ → Order
replace_order t m r point new new_owns = look_order t m r ++ (part_order t m r point new new_owns ++ waiver_order t (nodes_then t m r point new))

unfoldable pub replace_refusal : List ℕ → Memory → Record → ℕ → List ℕ → List ℕ → ℕ
replace_refusal t m r point new new_owns = refusal_by (replace_order t m r point new new_owns)

-- ---- 15.6 and 15.7: replacement at several points

-- 14.22: there is no point, or there are more than eight; or else one to eight
unfoldable pub miscounted : List Part → Bool
miscounted ps = eqb (length ps) 0 || ltb points_most (length ps)

abbrev pub Miscounted : List Part → Type 0
Miscounted ps = (length ps ≡ 0) ⊎ (8 < length ps)

abbrev pub Counted : List Part → Type 0
Counted ps = (0 < length ps) × (length ps ≤ 8)

-- 14.9: one of them is no node of a tree of so many; or else all are
unfoldable pub missing : ℕ → List Part → Bool
missing nodes ps = some_part (λ p. leb nodes p.point) ps

abbrev pub Missing : ℕ → List Part → Type 0
Missing nodes ps = (i : ℕ) × (i < length ps) × (nodes ≤ (part_at ps i).point)

abbrev pub Present : ℕ → List Part → Type 0
Present nodes ps = (i : ℕ) → i < length ps → (part_at ps i).point < nodes

-- 14.23: two of them meet (`Overlap`); or else no two do
abbrev pub Separate : List ℕ → List ℕ → List Part → Type 0
Separate t ns ps = Overlap t ns ps → ⊥

-- the nodes of the tree that the row would leave, by the counts: 8 looks at these alone
unfoldable pub nodes_left : List ℕ → Memory → Record → List Part → ℕ
nodes_left t m r ps = r.nodes - leaving_row t (nodes_of m r.nodes) ps + coming_row ps

-- the parts in their order, each 6 or 7: its root is to have the symbol of the node that it replaces
abbrev pub part_refusal : List ℕ → List ℕ → Part → ℕ
part_refusal t ns p = judge_tree t p.nodes p.owns (left_of t (get_or ns p.point 0))

abbrev pub parts_order : List ℕ → List ℕ → List Part → Order
parts_order t ns ps = map (λ p. judged 6 7 (part_refusal t ns p)) ps

unfoldable pub parts_refusal : List ℕ → List ℕ → List Part → ℕ
parts_refusal t ns ps = refusal_by (parts_order t ns ps)

-- 10, 22
abbrev pub asked_order : Record → List Part → Order
asked_order r ps = busy_check r ∷ meant 22 (miscounted ps) (Miscounted ps) (Counted ps) ∷ []

-- all that comes before the points are looked at: 15, 1 to 5, 11; 10, 22; 16, held tree 6/7
abbrev pub aim_order : List ℕ → Memory → Record → List Part → Order
aim_order t m r ps = ground_order t m r ++ (asked_order r ps ++ held_order t m.productions m.owns r)

-- 9
abbrev pub point_check : ℕ → List Part → Check
point_check nodes ps = meant 9 (missing nodes ps) (Missing nodes ps) (Present nodes ps)

-- 23, 8, the parts' 6/7, of a tree with the nodes ns that would have so many
abbrev pub row_order : List ℕ → List ℕ → ℕ → List Part → Order
row_order t ns left ps = meant 23 (overlaps t ns 0 ps) (Overlap t ns ps) (Separate t ns ps) ∷ above 8 nodes_most left ∷ judged 6 7 (parts_refusal t ns ps) ∷ []

-- 15, 1 to 5, 11; 10, 22; 16, held tree 6/7; 9; 23, 8, new parts 6/7; 21
abbrev pub points_order : List ℕ → Memory → Record → List Part → Order
points_order t m r ps =
    aim_order t m r ps ++ (point_check r.nodes ps ∷ (row_order t (nodes_of m r.nodes) (nodes_left t m r ps) ps ++ waiver_order t (nodes_row t (nodes_of m r.nodes) ps)))

unfoldable pub points_refusal : List ℕ → Memory → Record → List Part → ℕ
points_refusal t m r ps = refusal_by (points_order t m r ps)

-- ---- 15.8: step and run

-- 16, held tree 6/7; 17
abbrev pub going_order : List ℕ → List ℕ → List ℕ → Record → Order
going_order t held owns r = held_order t held owns r ++ (unless 17 (is_open_kind r.«open») ∷ [])

-- 15, 1 to 5, 11; 16, held tree 6/7; 17
abbrev pub step_order : List ℕ → Memory → Record → Order
step_order t m r = ground_order t m r ++ going_order t m.productions m.owns r

unfoldable pub step_refusal : List ℕ → Memory → Record → ℕ
step_refusal t m r = refusal_by (step_order t m r)

-- ---- 15.9: reading

-- 15, 1 to 5, 11; 10; 16, held tree 6/7; 12
abbrev pub read_order : List ℕ → Memory → Record → ℕ → Order
read_order t m r x = look_order t m r ++ (unless 12 (declared t (nodes_of m r.nodes) x) ∷ [])

unfoldable pub read_refusal : List ℕ → Memory → Record → ℕ → ℕ
read_refusal t m r x = refusal_by (read_order t m r x)

-- ---- 15.10: dump

-- 15, 1 to 5, 11; 10; 16, held tree 6/7; 15 again: `room` is the length of the text's buffer, `wanted` that of the text
abbrev pub dump_order : List ℕ → Memory → Record → ℕ → ℕ → Order
dump_order t m r room wanted = look_order t m r ++ (above 15 room wanted ∷ [])

unfoldable pub dump_refusal : List ℕ → Memory → Record → ℕ → ℕ → ℕ
dump_refusal t m r room wanted = refusal_by (dump_order t m r room wanted)
