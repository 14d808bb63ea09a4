-- Every call gives each of its numbers exactly when its check holds and none before it: its order is right. Assumes nothing.
use mathlib.Core.Path.{◌≡◌, refl}
use mathlib.Core.List.{List, [], ◌∷◌, ◌++◌}
use Prim.Native.Nat.{ℕ, zero, suc, ◌≤◌, ◌<◌}
use native.Mathlib.Omega.{arith}
use mathlib.Core.Bool.{false}
use mathlib.Core.Logic.{◌⊎◌, inl}
use lib.ListN.{length, get_or}
use lib.Seq.{length-take-le}
use Rattle.refusal.specs.Orders.{or_else, unless as unless_check, above, refusal_by, Right}
use Rattle.refusal.proofs.Orders.{agree_meant, agree_test, agree_unless, agree_above, agree_outside, agree_judged, order_gives, right_joined}
use Rattle.table.specs.Words.{left_of}
use Rattle.table.proofs.Refused.{agree_table}
use Rattle.tree.specs.Points.{Part, nodes_row, overlaps}
use Rattle.tree.specs.Tree.{judge_nodes, judge_tree}
use Rattle.tree.proofs.Points.{all_rows}
use Rattle.tree.proofs.Refused.{six_or_seven, agree_tree}
use Rattle.tree.proofs.Replace.{replacement}
use Rattle.climb.specs.Memory.{at}
use Rattle.wire.specs.Instances.{declared}
use Rattle.wire.specs.Replaced.{nodes_after}
use Rattle.wire.specs.Waivers.{waives, WaivesExactly}
use Rattle.wire.proofs.Waivers.{every_tree_waives}
use Rattle.update.specs.declared.Record.{Record}
use Rattle.update.specs.Records.{nodes_most, is_open_kind, beyond}
use Rattle.update.specs.Memories.{Memory, nodes_of, owns_of}
use Rattle.update.specs.Refusals.{short, held_refusal, ground_order, busy_check, held_order, waiver_order, new_order, load_order, load_refusal, look_order, replaced_nodes, nodes_then, part_order, replace_order, replace_refusal, miscounted, missing, Present, Separate, nodes_left, part_refusal, parts_order, parts_refusal, asked_order, aim_order, point_check, row_order, points_order, points_refusal, going_order, step_order, step_refusal, read_order, read_refusal, dump_order, dump_refusal}
use Rattle.update.specs.Refused.{AllGivenExactly, Leaves, ReadLeaves, AllLeave}
use Rattle.update.specs.Calls.{said, unless, is_open, load_call, replace_call, points_call, step_call, run_call, unless_read, read_call}
use Rattle.update.proofs.Within.{short_means, beyond_means}
use Rattle.update.proofs.Ready.{tree_sound}
use Rattle.update.proofs.Asking.{counted_means, miscounted_means, missing_means, present_means, overlap_means, apart_means, tests_row}

-- ---- the parts that orders share

-- 21 means what it says where the tree is sound
waiver_right : (t ns : List ℕ) → WaivesExactly t ns → Right (waiver_order t ns)
waiver_right t ns w = (agree_meant 21 (waives t ns) (omega arith) w.some w.none, λ s. tt)

pub held_right : (t held owns : List ℕ) (r : Record) → Right (held_order t held owns r)
held_right t held owns r = (agree_unless 16 r.held (omega arith), λ h. (agree_tree t _ _ 0, λ s. tt))

pub going_right : (t held owns : List ℕ) (r : Record) → Right (going_order t held owns r)
going_right t held owns r = right_joined (held_order t held owns r) (unless_check 17 (is_open_kind r.«open») ∷ []) (held_right t held owns r) (λ h. (agree_unless 17 (is_open_kind r.«open») (omega arith), λ s. tt))

pub new_right : (t : List ℕ) (r : Record) (ns owns : List ℕ) → Right (new_order t r ns owns)
new_right t r ns owns = (agree_test 10 (is_open_kind r.«open») (omega arith), λ o. (agree_above 8 nodes_most (length ns) (omega arith), λ f. (agree_tree t ns owns 0, λ s. tt)))

pub asked_right : (r : Record) (ps : List Part) → Right (asked_order r ps)
asked_right r ps = (agree_test 10 (is_open_kind r.«open») (omega arith), λ o. (agree_meant 22 (miscounted ps) (omega arith) (miscounted_means ps) (counted_means ps), λ s. tt))

-- the parts' number, 6 or 7
pub parts_right : (t ns : List ℕ) (ps : List Part) → Right (parts_order t ns ps)
parts_right t ns [] = tt
parts_right t ns (p ∷ ps) = (agree_tree t p.nodes p.owns (left_of t (get_or ns p.point 0)), λ s. parts_right t ns ps)

abbrev OfTree : ℕ → Type 0
OfTree n = (n ≡ 0) ⊎ ((6 ≤ n) × (n ≤ 7))

parts_number : (t ns : List ℕ) (ps : List Part) → OfTree (parts_refusal t ns ps)
unfolding parts_refusal refusal_by
parts_number t ns [] = inl refl
parts_number t ns (p ∷ ps) = go (part_refusal t ns p) (refusal_by (parts_order t ns ps)) (six_or_seven t p.nodes p.owns (left_of t (get_or ns p.point 0))) (parts_number t ns ps)
  where
    go : (n k : ℕ) → OfTree n → OfTree k → OfTree (or_else n k)
    go zero k h i = i
    go (suc n) k h i = h

-- 23 means what it says where the points are nodes of the tree
pub row_right : (t ns : List ℕ) (left : ℕ) (ps : List Part) → Present (length ns) ps → Right (row_order t ns left ps)
row_right t ns left ps i = (
  agree_meant 23 (overlaps t ns 0 ps) (omega arith) (overlap_means t ns ps i) (apart_means t ns ps i),
  λ a.
      (agree_above 8 nodes_most left (omega arith), λ f. (agree_judged 6 7 (parts_refusal t ns ps) (parts_number t ns ps), λ s. tt)),
)

-- ---- call by call

module _ (t : List ℕ) (m : Memory) (r : Record) where
  abbrev ns : List ℕ
  ns = nodes_of m r.nodes

  pub ground_right : Right (ground_order t m r)
  ground_right = (agree_test 15 (short m) (omega arith), λ s. (agree_table t, λ g. (agree_test 11 (beyond r) (omega arith), λ b. tt)))

  pub look_right : Right (look_order t m r)
  look_right = right_joined (ground_order t m r) (busy_check r ∷ held_order t m.productions m.owns r) ground_right (λ g. (agree_test 10 (is_open_kind r.«open») (omega arith), λ o. held_right t m.productions m.owns r))

  pub aim_right : (ps : List Part) → Right (aim_order t m r ps)
  aim_right ps =
      right_joined (ground_order t m r) (asked_order r ps ++ held_order t m.productions m.owns r) ground_right (λ g.
      right_joined (asked_order r ps) (held_order t m.productions m.owns r) (asked_right r ps) (λ a. held_right t m.productions m.owns r))

  -- the held tree has the nodes that the record says
  held_long : short m ≡ false → beyond r ≡ false → length ns ≡ r.nodes
  held_long s b = length-take-le r.nodes m.productions (omega (arith, ((short_means m).0 s).productions, ((beyond_means r).0 b).nodes))

  -- the tree that a replacement would leave is sound
  then_sound : (point : ℕ) (new new_owns : List ℕ) → short m ≡ false → beyond r ≡ false → held_refusal t m r ≡ 0 → point < r.nodes
      → judge_tree t new new_owns (left_of t (get_or ns point 0)) ≡ 0 → judge_nodes t (nodes_after t ns new point) (0 ∷ []) ≡ 0
  then_sound point new new_owns s b h i f =
      (replacement t ns new 0 point (tree_sound t ns (owns_of m r.nodes) 0 h) (omega (arith, i, held_long s b))
      (tree_sound t new new_owns (left_of t (get_or ns point 0)) f)).sound

  -- and so is the tree that a row of parts would leave
  row_sound : (ps : List Part) → held_refusal t m r ≡ 0 → Present (length ns) ps → Separate t ns ps → parts_refusal t ns ps ≡ 0 → judge_nodes t (nodes_row t ns ps) (0 ∷ []) ≡ 0
  row_sound ps h i o f =
      (all_rows t ns 0 0 ps (tree_sound t ns (owns_of m r.nodes) 0 h)
      (tests_row t ns 0 ps ((present_means (length ns) ps).1 i) ((apart_means t ns ps i).1 o) f)).sound

  load_right : (new owns : List ℕ) → Right (load_order t m r new owns)
  load_right new owns =
      right_joined (ground_order t m r) (new_order t r new owns ++ waiver_order t new) ground_right (λ g.
      right_joined (new_order t r new owns) (waiver_order t new) (new_right t r new owns) (λ n.
      waiver_right t new (every_tree_waives t new g.1.0 (tree_sound t new owns 0 n.1.1))))

  replace_right : (point : ℕ) (new new_owns : List ℕ) → Right (replace_order t m r point new new_owns)
  replace_right point new new_owns =
      right_joined (look_order t m r) (part_order t m r point new new_owns ++ waiver_order t (nodes_then t m r point new)) look_right (λ k. (
        agree_outside 9 r.nodes point (omega arith),
        λ i. (
          agree_above 8 nodes_most (replaced_nodes t m r point new) (omega arith),
          λ f. (
            agree_tree t new new_owns (left_of t (get_or ns point 0)),
            λ n.
                waiver_right t (nodes_then t m r point new)
                (every_tree_waives t (nodes_then t m r point new) k.1.0 (then_sound point new new_owns k.0 k.1.1.0 k.1.1.1.1.1 i n)),
          ),
        ),
      ))

  points_right : (ps : List Part) → Right (points_order t m r ps)
  points_right ps =
      right_joined (aim_order t m r ps) (point_check r.nodes ps ∷ (row_order t ns (nodes_left t m r ps) ps ++ waiver_order t (nodes_row t ns ps))) (aim_right ps) (λ k. (
        agree_meant 9 (missing r.nodes ps) (omega arith) (missing_means r.nodes ps) (present_means r.nodes ps),
        λ i.
            let there : Present (length ns) ps = rw (held_long k.0 k.1.1.0) i in
            right_joined (row_order t ns (nodes_left t m r ps) ps) (waiver_order t (nodes_row t ns ps)) (row_right t ns (nodes_left t m r ps) ps there) (λ w.
            waiver_right t (nodes_row t ns ps) (every_tree_waives t (nodes_row t ns ps) k.1.0 (row_sound ps k.1.1.1.1.1.1 there w.0 w.1.1))),
      ))

  pub step_right : Right (step_order t m r)
  step_right = right_joined (ground_order t m r) (going_order t m.productions m.owns r) ground_right (λ g. going_right t m.productions m.owns r)

  read_right : (x : ℕ) → Right (read_order t m r x)
  read_right x = right_joined (look_order t m r) (unless_check 12 (declared t ns x) ∷ []) look_right (λ k. (agree_unless 12 (declared t ns x) (omega arith), λ s. tt))

  dump_right : (room wanted : ℕ) → Right (dump_order t m r room wanted)
  dump_right room wanted = right_joined (look_order t m r) (above 15 room wanted ∷ []) look_right (λ k. (agree_above 15 room wanted (omega arith), λ s. tt))

pub all_exactly : AllGivenExactly
unfolding load_refusal replace_refusal points_refusal step_refusal read_refusal dump_refusal
all_exactly t m r = record {
  load = λ ns owns. order_gives (load_order t m r ns owns) (load_right t m r ns owns);
  replace = λ point new new_owns. order_gives (replace_order t m r point new new_owns) (replace_right t m r point new new_owns);
  points = λ ps. order_gives (points_order t m r ps) (points_right t m r ps);
  step = order_gives (step_order t m r) (step_right t m r);
  read = λ x. order_gives (read_order t m r x) (read_right t m r x);
  dump = λ room wanted. order_gives (dump_order t m r room wanted) (dump_right t m r room wanted);
}

-- ---- a refused call changes nothing

unless_leaves : {A : Type 0} (n : ℕ) (r : Record) (m : Memory) (a : A) (next : Record) (memory : Memory)
    → Leaves n r m (unless n r m (record { answer = said a; next = next; memory = memory }))
unless_leaves zero r m a next memory = record { refused = λ l. absurd (omega arith); carried = λ e. (a, refl) }
unless_leaves (suc n) r m a next memory = record { refused = λ l. refl; carried = λ e. absurd (omega arith) }

pub all_leave : AllLeave
unfolding load_call replace_call points_call step_call run_call read_call
all_leave t m r = record {
  load = λ ns owns. unless_leaves (load_refusal t m r ns owns) r m is_open _ _;
  replace = λ point new new_owns. unless_leaves (replace_refusal t m r point new new_owns) r m is_open _ _;
  points = λ ps. unless_leaves (points_refusal t m r ps) r m is_open _ _;
  step = unless_leaves (step_refusal t m r) r m _ _ _;
  run = λ budget. unless_leaves (step_refusal t m r) r m _ _ _;
  read = λ x. reads (read_refusal t m r x) (at m.sets x);
}
  where
    reads : (n v : ℕ) → ReadLeaves n (unless_read n v)
    reads zero v = record { refused = λ l. absurd (omega arith); carried = λ e. (v, refl) }
    reads (suc n) v = record { refused = λ l. refl; carried = λ e. absurd (omega arith) }
