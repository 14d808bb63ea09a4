-- Orders spelled out: what a number's condition computes to, at least one in each call. Assumes nothing.
use mathlib.Core.Path.{◌≡◌, refl}
use mathlib.Core.Bool.{true, false}
use mathlib.Core.Logic.{◌⊎◌}
use mathlib.Core.List.{List}
use Prim.Native.Nat.{ℕ, ◌-◌, ◌+◌, ◌≤◌, ◌<◌}
use lib.ListN.{length, get_or}
use Rattle.refusal.specs.Orders.{Given, AllSilent}
use Rattle.table.specs.Words.{left_of}
use Rattle.table.specs.Judge.{judge_table}
use Rattle.tree.specs.Tree.{judge_tree}
use Rattle.tree.specs.Replace.{part}
use Rattle.tree.specs.Points.{Part, nodes_row}
use Rattle.tree.specs.PointLaws.{Overlap}
use Rattle.wire.specs.Instances.{declared}
use Rattle.wire.specs.Replaced.{nodes_after}
use Rattle.wire.specs.Waivers.{Waiver, Free}
use Rattle.update.specs.declared.Record.{Record}
use Rattle.update.specs.Records.{is_open_kind, beyond}
use Rattle.update.specs.Memories.{Memory, nodes_of}
use Rattle.update.specs.Refusals.{short, held_refusal, load_order, replace_order, Miscounted, Counted, Missing, Present, Separate, nodes_left, parts_refusal, points_order, step_order, read_order, dump_order}

infixr 3 ◌and◌
abbrev pub ◌and◌ : Type 0 → Type 0 → Type 0
A and B = A × B

-- one condition is the other, word for word
abbrev Is : Type 0 → Type 0 → Type 1
Is A B = A ≡ B

module _ (t : List ℕ) (m : Memory) (r : Record) where
  -- where buffers, table and record pass, Rest too
  abbrev pub sound : Type 0 → Type 0
  sound Rest = short m ≡ false and judge_table t ≡ 0 and beyond r ≡ false and Rest

  -- where besides no update is open, and a tree is held and passes
  abbrev pub at_rest : Type 0 → Type 0
  at_rest Rest = sound (is_open_kind r.«open» ≡ false and r.held ≡ true and held_refusal t m r ≡ 0 and Rest)

  module _ (ns owns : List ℕ) where
    load_3 : Is (Given (load_order t m r ns owns) 3) (short m ≡ false and judge_table t ≡ 3)
    load_3 = refl

    load_21 : Is (Given (load_order t m r ns owns) 21) (sound (is_open_kind r.«open» ≡ false and length ns ≤ 512 and judge_tree t ns owns 0 ≡ 0 and Waiver t ns))
    load_21 = refl

    load_none : Is (AllSilent (load_order t m r ns owns)) (sound (is_open_kind r.«open» ≡ false and length ns ≤ 512 and judge_tree t ns owns 0 ≡ 0 and Free t ns))
    load_none = refl

  module _ (point : ℕ) (new owns : List ℕ) where
    abbrev left : ℕ
    left = r.nodes - part t (nodes_of m r.nodes) point + length new

    replace_8 : Is (Given (replace_order t m r point new owns) 8) (at_rest (point < r.nodes and 512 < left))
    replace_8 = refl

    replace_21 : Is (Given (replace_order t m r point new owns) 21)
        (at_rest (point < r.nodes and left ≤ 512 and judge_tree t new owns (left_of t (get_or (nodes_of m r.nodes) point 0)) ≡ 0
        and Waiver t (nodes_after t (nodes_of m r.nodes) new point)))
    replace_21 = refl

  module _ (ps : List Part) where
    -- where the number of points is right, and a tree is held and passes
    abbrev pub counted : Type 0 → Type 0
    counted Rest = sound (is_open_kind r.«open» ≡ false and Counted ps and r.held ≡ true and held_refusal t m r ≡ 0 and Rest)

    -- and where besides all of them are nodes, rise and lie apart
    abbrev pub placed : Type 0 → Type 0
    placed Rest = counted (Present r.nodes ps and Separate t (nodes_of m r.nodes) ps and Rest)

    points_22 : Is (Given (points_order t m r ps) 22) (sound (is_open_kind r.«open» ≡ false and Miscounted ps))
    points_22 = refl

    points_9 : Is (Given (points_order t m r ps) 9) (counted (Missing r.nodes ps))
    points_9 = refl

    points_23 : Is (Given (points_order t m r ps) 23) (counted (Present r.nodes ps and Overlap t (nodes_of m r.nodes) ps))
    points_23 = refl

    points_8 : Is (Given (points_order t m r ps) 8) (placed (512 < nodes_left t m r ps))
    points_8 = refl

    points_7 : Is (Given (points_order t m r ps) 7)
        (sound (is_open_kind r.«open» ≡ false and Counted ps and r.held ≡ true and ((held_refusal t m r ≡ 7)
        ⊎ (held_refusal t m r ≡ 0 and Present r.nodes ps and Separate t (nodes_of m r.nodes) ps and nodes_left t m r ps ≤ 512
        and parts_refusal t (nodes_of m r.nodes) ps ≡ 7))))
    points_7 = refl

    points_21 : Is (Given (points_order t m r ps) 21)
        (placed (nodes_left t m r ps ≤ 512 and parts_refusal t (nodes_of m r.nodes) ps ≡ 0 and Waiver t (nodes_row t (nodes_of m r.nodes) ps)))
    points_21 = refl

  step_17 : Is (Given (step_order t m r) 17) (sound (r.held ≡ true and held_refusal t m r ≡ 0 and is_open_kind r.«open» ≡ false))
  step_17 = refl

  read_12 : (x : ℕ) → Is (Given (read_order t m r x) 12) (at_rest (declared t (nodes_of m r.nodes) x ≡ false))
  read_12 x = refl

  dump_15 : (room wanted : ℕ) → Is (Given (dump_order t m r room wanted) 15) ((short m ≡ true) ⊎ (short m ≡ false and judge_table t ≡ 0 and beyond r ≡ false
      and is_open_kind r.«open» ≡ false and r.held ≡ true and held_refusal t m r ≡ 0 and room < wanted))
  dump_15 room wanted = refl
