-- The parts of an order of refusals, one behind the other. Assumes nothing.
use mathlib.Core.Path.{◌≡◌, refl, sym, ◌∙◌}
use mathlib.Core.Bool.{Bool, true, false, not}
use mathlib.Core.Logic.{⊎_elim}
use mathlib.Core.List.{List, [], ◌∷◌, ◌++◌}
use Prim.Native.Nat.{ℕ, suc, ◌+◌, ◌-◌, ◌≤◌, ◌<◌}
use native.Mathlib.Omega.{arith}
use borrow.Author.Tests.{ltb-false, lt-ltb, le-ltb, eq-eqb, ne_eqb}
use lib.Dec.{ltb}
use lib.ListN.{length, take}
use lib.Seq.{length-take-le}
use Rattle.refusal.specs.Numbers.{number_of}
use Rattle.refusal.specs.declared.Refusal.{Refusal}
use Rattle.refusal.specs.Orders.{or_else, when, unless, Order, refusal_by, Right}
use Rattle.refusal.proofs.Orders.{or_none, or_zero, agree_meant, agree_unless, order_gives, right_joined, past, stopped, front, alone}
use Rattle.table.specs.Judge.{judge_table}
use Rattle.tree.specs.Tree.{judge_nodes, judge_tree}
use Rattle.tree.specs.Points.{Part, nodes_row, leaving_row, coming_row, overlaps}
use Rattle.climb.proofs.Lists.{either}
use Rattle.update.specs.declared.Record.{Record}
use Rattle.update.specs.Records.{is_open_kind}
use Rattle.update.specs.Memories.{Memory, lent, nodes_of}
use Rattle.update.specs.Refusals.{held_refusal, load_refusal, miscounted, missing, nodes_left, parts_refusal, points_refusal, step_refusal, read_refusal, ground_order, busy_check, new_order, held_order, look_order, asked_order, aim_order, point_check, waiver_order, going_order, step_order}
use Rattle.update.proofs.Within.{short_means, beyond_means}
use Rattle.update.proofs.Asking.{counted_means, missing_means, present_means}
use Rattle.update.proofs.Refusing.{new_right, asked_right, ground_right, look_right, aim_right, step_right}
pub use Rattle.update.proofs.Ready.{tree_equal, tree_sound}
use Rattle.wire.specs.Instances.{declared}
use Rattle.update_judge.specs.Order.{named_order, fit_order, Grounded, Holding, Named, Going}
use Rattle.refusal.proofs.Distinct.{handed_number}

-- a number that is given where a test holds, and is not given
unmet : (b : Bool) (n : ℕ) → when b (suc n) ≡ 0 → b ≡ false
unmet true n h = absurd (omega arith)
unmet false n h = refl

pub named_right : (r : Record) (ps : List Part) → Right (named_order r ps)
named_right r ps =
    right_joined (asked_order r ps) (unless 16 r.held ∷ point_check r.nodes ps ∷ []) (asked_right r ps)
    (λ a. (agree_unless 16 r.held (omega arith), λ h. (agree_meant 9 (missing r.nodes ps) (omega arith) (missing_means r.nodes ps) (present_means r.nodes ps), λ s. tt)))

module _ (t : List ℕ) (m : Memory) (r : Record) where
  pub grounded : refusal_by (ground_order t m r) ≡ 0 → Grounded t m r
  grounded h =
      let w = (order_gives (ground_order t m r) (ground_right t m r)).none.0 h in
      record { table = w.1.0; room = (short_means m).0 w.0; within = (beyond_means r).0 w.1.1 }

  pub ground_none : Grounded t m r → refusal_by (ground_order t m r) ≡ 0
  ground_none g = (order_gives (ground_order t m r) (ground_right t m r)).none.1 ((short_means m).1 g.room, (g.table, (beyond_means r).1 g.within))

  -- ---- a load

  module _ (ns owns : List ℕ) where
    pub load_past : Grounded t m r → load_refusal t m r ns owns ≡ refusal_by (new_order t r ns owns ++ waiver_order t ns)
    unfolding load_refusal
    load_past g = past (ground_order t m r) (new_order t r ns owns ++ waiver_order t ns) (ground_none g)

    pub load_stopped : (q : Refusal) → number_of q ≡ refusal_by (ground_order t m r) → number_of q ≡ load_refusal t m r ns owns
    unfolding load_refusal
    load_stopped q e = stopped (ground_order t m r) (new_order t r ns owns ++ waiver_order t ns) q e

  -- ---- a look at the held tree

  pub record Looked : Type 0 where
    pub footing : Grounded t m r
    pub closed : is_open_kind r.«open» ≡ false
    pub held : r.held ≡ true
    pub tree : held_refusal t m r ≡ 0

  pub looked : refusal_by (look_order t m r) ≡ 0 → Looked
  looked h =
      let w = (order_gives (look_order t m r) (look_right t m r)).none.0 h in
      record { footing = grounded (front (ground_order t m r) (busy_check r ∷ held_order t m.productions m.owns r) h); closed = w.1.1.1.0; held = w.1.1.1.1.0; tree = w.1.1.1.1.1 }

  pub look_none : Looked → refusal_by (look_order t m r) ≡ 0
  look_none k = (order_gives (look_order t m r) (look_right t m r)).none.1
      ((short_means m).1 k.footing.room, (k.footing.table, ((beyond_means r).1 k.footing.within, (k.closed, (k.held, k.tree)))))

  module _ (x : ℕ) where
    pub read_past : Looked → read_refusal t m r x ≡ when (not (declared t (nodes_of m r.nodes) x)) 12
    unfolding read_refusal
    read_past k =
        let last = unless 12 (declared t (nodes_of m r.nodes) x) in
        past (look_order t m r) (last ∷ []) (look_none k) ∙ alone last

    pub read_stopped : (q : Refusal) → number_of q ≡ refusal_by (look_order t m r) → number_of q ≡ read_refusal t m r x
    unfolding read_refusal
    read_stopped q e = stopped (look_order t m r) (unless 12 (declared t (nodes_of m r.nodes) x) ∷ []) q e

  -- ---- a step and a run

  pub step_past : Grounded t m r → step_refusal t m r ≡ refusal_by (going_order t m.productions m.owns r)
  unfolding step_refusal
  step_past g = past (ground_order t m r) (going_order t m.productions m.owns r) (ground_none g)

  pub step_stopped : (q : Refusal) → number_of q ≡ refusal_by (ground_order t m r) → number_of q ≡ step_refusal t m r
  unfolding step_refusal
  step_stopped q e = stopped (ground_order t m r) (going_order t m.productions m.owns r) q e

  pub going : step_refusal t m r ≡ 0 → Going t m r
  unfolding step_refusal
  going h =
      let w = (order_gives (step_order t m r) (step_right t m r)).none.0 h in
      record { footing = grounded (front (ground_order t m r) (going_order t m.productions m.owns r) h); held = w.1.1.1.0; tree = w.1.1.1.1.0; busy = w.1.1.1.1.1 }

  pub step_none : Going t m r → step_refusal t m r ≡ 0
  unfolding step_refusal
  step_none k = (order_gives (step_order t m r) (step_right t m r)).none.1
      ((short_means m).1 k.footing.room, (k.footing.table, ((beyond_means r).1 k.footing.within, (k.held, (k.tree, k.busy)))))

  -- ---- a replacement at several points, of parts ps in any shape that has the points and counts of others

  module _ (ps : List Part) where
    -- what the tests on the tree say, and 21
    abbrev pub behind_order : Order
    behind_order = fit_order t (nodes_of m r.nodes) r.nodes ps ++ waiver_order t (nodes_row t (nodes_of m r.nodes) ps)

    pub aim_stopped : (q : Refusal) → number_of q ≡ refusal_by (aim_order t m r ps) → number_of q ≡ points_refusal t m r ps
    unfolding points_refusal nodes_left
    aim_stopped q e = stopped (aim_order t m r ps) (point_check r.nodes ps ∷ behind_order) q e

    points_past : Holding t m r → points_refusal t m r ps ≡ refusal_by (named_order r ps ++ behind_order)
    unfolding points_refusal nodes_left refusal_by
    points_past k =
        past (ground_order t m r) (asked_order r ps ++ (held_order t m.productions m.owns r ++ (point_check r.nodes ps ∷ behind_order))) (ground_none k.footing)
        ∙ ⊎_elim (λ (h : r.held ≡ true). rw (k.tree h)) (λ (h : r.held ≡ false). rw h) (either r.held)

    pub named_stopped : Holding t m r → (q : Refusal) → number_of q ≡ refusal_by (named_order r ps) → number_of q ≡ points_refusal t m r ps
    named_stopped k q e = stopped (named_order r ps) behind_order q e ∙ sym (points_past k)

    pub named_past : Holding t m r → refusal_by (named_order r ps) ≡ 0 → points_refusal t m r ps ≡ refusal_by behind_order
    named_past k h = points_past k ∙ past (named_order r ps) behind_order h

    -- what is known behind those
    pub record AimedAt : Type 0 where
      pub footing : Grounded t m r
      pub closed : is_open_kind r.«open» ≡ false
      pub counted : miscounted ps ≡ false
      pub held : r.held ≡ true
      pub tree : held_refusal t m r ≡ 0

    pub aimed_at : refusal_by (aim_order t m r ps) ≡ 0 → AimedAt
    aimed_at h =
        let w = (order_gives (aim_order t m r ps) (aim_right t m r ps)).none.0 h in
        let v = w.1.1.1 in
        record {
          footing = grounded (front (ground_order t m r) (asked_order r ps ++ held_order t m.productions m.owns r) h);
          closed = v.0;
          counted = (counted_means ps).1 v.1.0;
          held = v.1.1.0;
          tree = v.1.1.1;
        }

    pub named : refusal_by (named_order r ps) ≡ 0 → Named r ps
    named h =
        let w = (order_gives (named_order r ps) (named_right r ps)).none.0 h in
        record { closed = w.0; counted = (counted_means ps).1 w.1.0; held = w.1.1.0; inside = (present_means r.nodes ps).1 w.1.1.1 }

    pub named_none : Named r ps → refusal_by (named_order r ps) ≡ 0
    unfolding refusal_by
    named_none k = rw (k.closed, k.counted, k.held, k.inside)

-- ---- what the code finds, number by number

pub tree_judged : (t ns owns : List ℕ) (s : ℕ) → length ns ≡ length owns → judge_nodes t ns (s ∷ []) ≡ judge_tree t ns owns s
unfolding judge_tree
tree_judged t ns owns s e = rw (eq-eqb (length ns) (length owns) e)

pub tree_unequal : (t ns owns : List ℕ) (s : ℕ) → (length ns ≡ length owns → ⊥) → 7 ≡ judge_tree t ns owns s
unfolding judge_tree
tree_unequal t ns owns s f = rw (ne_eqb (length ns) (length owns) f)

module _ (t : List ℕ) (r : Record) (ns owns : List ℕ) (o : is_open_kind r.«open» ≡ false) where
  pub load_size : 512 < length ns → 8 ≡ refusal_by (new_order t r ns owns)
  unfolding refusal_by
  load_size h = rw (o, lt-ltb 512 (length ns) h)

  load_last : length ns ≤ 512 → judge_tree t ns owns 0 ≡ refusal_by (new_order t r ns owns)
  unfolding refusal_by
  load_last h = rw (o, le-ltb 512 (length ns) h) (sym (or_zero (judge_tree t ns owns 0)))

  pub load_unequal : length ns ≤ 512 → (length ns ≡ length owns → ⊥) → 7 ≡ refusal_by (new_order t r ns owns)
  load_unequal h f = tree_unequal t ns owns 0 f ∙ load_last h

  pub load_judged : length ns ≤ 512 → length ns ≡ length owns → judge_nodes t ns (0 ∷ []) ≡ refusal_by (new_order t r ns owns)
  load_judged h e = tree_judged t ns owns 0 e ∙ load_last h

-- 16, then the tree that is held
module _ (t held owns : List ℕ) (r : Record) where
  pub held_absent : r.held ≡ false → 16 ≡ refusal_by (held_order t held owns r)
  unfolding refusal_by
  held_absent h = rw h

  pub held_last : r.held ≡ true → r.nodes ≤ length held → r.nodes ≤ length owns → judge_nodes t (take r.nodes held) (0 ∷ []) ≡ refusal_by (held_order t held owns r)
  unfolding refusal_by
  held_last h a b =
      rw h (tree_judged t (take r.nodes held) (take r.nodes owns) 0 (length-take-le r.nodes held a ∙ sym (length-take-le r.nodes owns b)) ∙ sym (or_zero (judge_tree t (take r.nodes held) (take r.nodes owns) 0)))

-- ---- behind what comes first in every call, of four buffers that are lent

module _ (t held owns sets earlier : List ℕ) (r : Record) where
  abbrev ground : Order
  ground = ground_order t (lent held owns sets earlier) r

  abbrev behind : Order
  behind = busy_check r ∷ held_order t held owns r

  pub ground_table : refusal_by ground ≡ 0 → judge_table t ≡ 0
  ground_table h = (grounded t (lent held owns sets earlier) r h).table

  pub ground_nodes : refusal_by ground ≡ 0 → (r.nodes ≤ length held) × (r.nodes ≤ length owns)
  ground_nodes h =
      let g = grounded t (lent held owns sets earlier) r h in
      (omega (arith, g.room.productions, g.within.nodes), omega (arith, g.room.owns, g.within.nodes))

  pub step_going : refusal_by ground ≡ 0 → refusal_by (going_order t held owns r) ≡ step_refusal t (lent held owns sets earlier) r
  step_going h = sym (step_past t (lent held owns sets earlier) r (grounded t (lent held owns sets earlier) r h))

  pub step_ground : (q : Refusal) → number_of q ≡ refusal_by ground → number_of q ≡ step_refusal t (lent held owns sets earlier) r
  step_ground q e = step_stopped t (lent held owns sets earlier) r q e

  pub look_busy : refusal_by ground ≡ 0 → is_open_kind r.«open» ≡ true → 10 ≡ refusal_by (look_order t (lent held owns sets earlier) r)
  unfolding refusal_by
  look_busy g o = sym (past ground behind g ∙ rw o)

  pub look_held : refusal_by ground ≡ 0 → is_open_kind r.«open» ≡ false → refusal_by (held_order t held owns r) ≡ refusal_by (look_order t (lent held owns sets earlier) r)
  unfolding refusal_by
  look_held g o = sym (past ground behind g ∙ rw o)

  pub look_stopped : (q : Refusal) → number_of q ≡ refusal_by ground → number_of q ≡ refusal_by (look_order t (lent held owns sets earlier) r)
  look_stopped q e = stopped ground behind q e

-- a load that refuses nothing has a sound tree of equal lengths within 512 nodes
pub record Loads (t ns owns : List ℕ) : Type 0 where
  pub few : length ns ≤ 512
  pub equal : length owns ≡ length ns
  pub sound : judge_nodes t ns (0 ∷ []) ≡ 0

pub loads : (t : List ℕ) (r : Record) (ns owns : List ℕ) → refusal_by (new_order t r ns owns) ≡ 0 → Loads t ns owns
loads t r ns owns h =
    let w = (order_gives (new_order t r ns owns) (new_right t r ns owns)).none.0 h in
    record { few = w.1.0; equal = tree_equal t ns owns 0 w.1.1; sound = tree_sound t ns owns 0 w.1.1 }

-- ---- 23, 8 and the parts', of a tree of so many nodes

module _ (t ns : List ℕ) (nodes : ℕ) (ps : List Part) where
  abbrev left : ℕ
  left = nodes - leaving_row t ns ps + coming_row ps

  pub row_meets : overlaps t ns 0 ps ≡ true → 23 ≡ refusal_by (fit_order t ns nodes ps)
  unfolding refusal_by
  row_meets h = rw h

  pub row_passes : overlaps t ns 0 ps ≡ false → ltb 512 left ≡ true → 8 ≡ refusal_by (fit_order t ns nodes ps)
  unfolding refusal_by
  row_passes h k = rw (h, k)

  pub row_parts : overlaps t ns 0 ps ≡ false → ltb 512 left ≡ false → parts_refusal t ns ps ≡ refusal_by (fit_order t ns nodes ps)
  unfolding refusal_by
  row_parts h k = rw (h, k) (sym (or_zero (parts_refusal t ns ps)))

  -- where none refuses
  pub record Fits : Type 0 where
    pub apart : overlaps t ns 0 ps ≡ false
    pub few : left ≤ 512
    pub sound : parts_refusal t ns ps ≡ 0

  pub fits : refusal_by (fit_order t ns nodes ps) ≡ 0 → Fits
  unfolding refusal_by
  fits h =
      let p = parts_refusal t ns ps in
      let a = or_none (when (overlaps t ns 0 ps) 23) (or_else (when (ltb 512 left) 8) (or_else p 0)) h in
      let b = or_none (when (ltb 512 left) 8) (or_else p 0) a.1 in
      record { apart = unmet (overlaps t ns 0 ps) 22 a.0; few = ltb-false 512 left (unmet (ltb 512 left) 7 b.0); sound = (or_none p 0 b.1).0 }

-- ---- 16 and the held tree's, then 17
module _ (t held owns : List ℕ) (r : Record) where
  pub going_on : refusal_by (held_order t held owns r) ≡ 0 → is_open_kind r.«open» ≡ true → 0 ≡ refusal_by (going_order t held owns r)
  unfolding refusal_by
  going_on z o = sym (past (held_order t held owns r) (unless 17 (is_open_kind r.«open») ∷ []) z ∙ rw o)

  pub going_idle : refusal_by (held_order t held owns r) ≡ 0 → is_open_kind r.«open» ≡ false → 17 ≡ refusal_by (going_order t held owns r)
  unfolding refusal_by
  going_idle z o = sym (past (held_order t held owns r) (unless 17 (is_open_kind r.«open») ∷ []) z ∙ rw o)

  pub going_stopped : (q : Refusal) → number_of q ≡ refusal_by (held_order t held owns r) → number_of q ≡ refusal_by (going_order t held owns r)
  going_stopped q e = stopped (held_order t held owns r) (unless 17 (is_open_kind r.«open») ∷ []) q e

-- ---- what each function is proved by

pub ruleset holding = (held_absent, held_last)

pub ruleset loading = (load_size, load_unequal, load_judged)

pub ruleset looking = (handed_number, ground_table, ground_nodes, look_busy, look_held, look_stopped)

pub ruleset idling = (handed_number, going_on, going_idle, going_stopped)

pub ruleset stepping = (handed_number, ground_table, ground_nodes, step_going, step_ground)
