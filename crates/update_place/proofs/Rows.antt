-- What placing at several points comes to: four buffers that are filled as the code fills them are the memory that `replaced_row` names. Assumes nothing.
use mathlib.Core.Path.{◌≡◌, ap, sym, ◌∙◌}
use mathlib.Core.List.{List, [], ◌∷◌}
use Prim.Native.Nat.{ℕ, ◌*◌, ◌≤◌}
use native.Mathlib.Omega.{arith}
use lib.ListN.{length, take}
use lib.Seq.{length-take-le}
use Rattle.circles.proofs.Lists.{map_long}
use Rattle.table.specs.Limits.{Limits}
use Rattle.table.proofs.Limits.{limits}
use Rattle.tree.specs.declared.Places.{Places}
use Rattle.tree.specs.declared.Cuts.{Cuts}
use Rattle.tree.specs.Points.{Part, nodes_row}
use Rattle.tree.specs.Handed.{named_points, cut_row}
use Rattle.update.specs.Memories.{lent, Memory, nodes_of, owns_of, filled_with, filled, arranged_row, replaced_row}
use Rattle.update.proofs.Openings.{values}
use Rattle.tree.specs.Numbered.{Numbered}
use Rattle.update_place.specs.Inner.Cleared.{cleared}
use Rattle.update_place.specs.Inner.Pieces.{spliced_by, carried_by, Fitting, Apart}
use Rattle.update_place.specs.Inner.Splicing.{Splicing}
use Rattle.update_place.proofs.Placed.{take_filled, take_filled_with}
use Rattle.tree.proofs.Numbered.{judged_numbered}
use Rattle.update_place.proofs.Spliced.{splicing_fits, splicing_owns_fit, splicing_apart, splicing_nodes, splicing_owns, splicing_law}
use Rattle.update_place.proofs.Arranged.{carried_count, arrange}

-- the joint, and buffers that are long enough
pub record Lending (t : List ℕ) (m : Memory) (n : ℕ) (points : Places) (cs : Cuts) (new new_owns : List ℕ) : Type 0 where
  pub splicing : Splicing t (nodes_of m n) (owns_of m n) points cs new new_owns
  pub few : n ≤ 512
  pub productions : 512 ≤ length m.productions
  pub owns : 512 ≤ length m.owns
  pub sets : 4096 ≤ length m.sets
  pub earlier : 4096 ≤ length m.earlier

module _ {t : List ℕ} {m : Memory} {n : ℕ} {points : Places} {cs : Cuts} {new new_owns : List ℕ} (l : Lending t m n points cs new new_owns) where
  abbrev ps : List Part
  ps = cut_row (named_points points) new new_owns

  abbrev after : List ℕ
  after = nodes_row t (nodes_of m n) ps

  held_many : length (nodes_of m n) ≡ n
  held_many = length-take-le n m.productions (omega (arith, l.few, l.productions))

  pub nodes_fit : Fitting cs n (length new)
  nodes_fit = rw held_many at (splicing_fits l.splicing)

  pub owns_fit : Fitting cs n (length new_owns)
  owns_fit = rw held_many at (splicing_owns_fit l.splicing)

  pub cuts_apart : Apart cs n
  cuts_apart = rw held_many at (splicing_apart l.splicing)

  pub nodes_few : length (spliced_by cs new (nodes_of m n)) ≤ 512
  nodes_few = rw (splicing_nodes l.splicing) l.splicing.few

  pub owns_few : length (spliced_by cs new_owns (owns_of m n)) ≤ 512
  owns_few =
      let e = (splicing_law l.splicing).owned (owns_of m n) l.splicing.owned in
      let f = ap length (splicing_owns l.splicing) in
      omega (arith, l.splicing.few)

  pub sets_few : length (carried_by cs (take (8 * n) m.sets)) ≤ length m.earlier
  sets_few =
      omega (arith, carried_count t m n points cs new new_owns l.splicing (omega (arith, l.few, l.productions)) (omega (arith, l.few, l.sets)), l.splicing.few, l.earlier)

  pub table_limits : Limits t
  table_limits = limits t l.splicing.table

  -- the new tree, read back from its buffer
  module _ (b : List ℕ) (k : ℕ) (eb : b ≡ filled_with 0 (spliced_by cs new (nodes_of m n)) m.productions) (ek : k ≡ length (spliced_by cs new (nodes_of m n))) where
    pub count_is : k ≡ length after
    count_is = ek ∙ ap length (splicing_nodes l.splicing)

    pub tree_back : take k b ≡ after
    tree_back = ap (take k) eb ∙ take_filled_with 0 (spliced_by cs new (nodes_of m n)) m.productions k (sym ek) ∙ splicing_nodes l.splicing

    pub tree_numbered : Numbered t (take k b)
    tree_numbered = rw tree_back (judged_numbered t after (0 ∷ []) (splicing_law l.splicing).sound)

    -- the values arranged, and read back
    module _ (w : List ℕ) (ew : w ≡ cleared t (take k b) 0 (length (take k b)) (filled (carried_by cs (take (8 * n) m.sets)) m.earlier)) where
      arranged_is : w ≡ filled (values t (nodes_of m n) ps m.sets) m.earlier
      arranged_is =
          ew ∙ ap (λ (ns : List ℕ). cleared t ns 0 (length ns) (filled (carried_by cs (take (8 * n) m.sets)) m.earlier)) tree_back
          ∙ arrange t m n points cs new new_owns l.splicing (omega (arith, l.few, l.productions)) (omega (arith, l.few, l.sets)) m.earlier (omega (arith, l.splicing.few, l.earlier))

      values_back : take (8 * k) w ≡ values t (nodes_of m n) ps m.sets
      values_back =
          ap (take (8 * k)) arranged_is
          ∙ take_filled (values t (nodes_of m n) ps m.sets) m.earlier (8 * k) (map_long (arranged_row t (nodes_of m n) ps m.sets) 0 (8 * length after) ∙ ap (λ j. 8 * j) (sym count_is))

      pub row_placed : (o v : List ℕ) → o ≡ filled_with 0 (spliced_by cs new_owns (owns_of m n)) m.owns → v ≡ filled_with 0 (take (8 * k) w) m.sets → lent b o v w ≡ replaced_row t m n ps
      unfolding replaced_row filled
      row_placed o v eo ev =
          let p = eb ∙ ap (λ (x : List ℕ). filled x m.productions) (splicing_nodes l.splicing) in
          let q = eo ∙ ap (λ (x : List ℕ). filled x m.owns) (splicing_owns l.splicing) in
          let r = ev ∙ ap (λ (x : List ℕ). filled x m.sets) values_back in
          rw (p, q, r, arranged_is)
