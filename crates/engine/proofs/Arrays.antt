-- The arrays that `prepare` makes of a tree that is held, where nothing refuses a step or a run. Assumes nothing.
use Rattle.std.proofs.Common.{◌≡◌, List, ℕ, ◌*◌, ◌≤◌, length, ap, sym, arith}
use lib.Seq.{length-take-le}
use Rattle.wire.specs.Inner.Turns.{Held}
use Rattle.update.specs.declared.Record.{Record}
use Rattle.update.specs.Memories.{Memory, nodes_of, owns_of}
use Rattle.update_judge.specs.Order.{Going}
use Rattle.update_judge.proofs.Orders.{tree_sound}
use Rattle.engine.specs.Inner.Prepared.{Prepared, ArraysHold}
use Rattle.engine.proofs.Preparing.{prepared_holds}

module _ (t : List ℕ) (m : Memory) (r : Record) (k : Going t m r) where
  tree_long : length (nodes_of m r.nodes) ≡ r.nodes
  tree_long = length-take-le r.nodes m.productions (omega (arith, k.footing.room.productions, k.footing.within.nodes))

  pub owns_long : length (owns_of m r.nodes) ≡ r.nodes
  owns_long = length-take-le r.nodes m.owns (omega (arith, k.footing.room.owns, k.footing.within.nodes))

  pub sound : Held t (nodes_of m r.nodes)
  sound = record {
    judged = k.footing.table;
    sound = tree_sound t (nodes_of m r.nodes) (owns_of m r.nodes) 0 k.tree;
    few = omega (arith, tree_long, k.footing.within.nodes);
  }

  owned : length (nodes_of m r.nodes) ≤ length (owns_of m r.nodes)
  owned = omega (arith, tree_long, owns_long)

  pub arrays : (a₀ b₀ left₀ rule₀ label₀ members₀ ends₀ a b left rule label members ends : List ℕ) (count : ℕ)
      → Prepared t (nodes_of m r.nodes) a₀ b₀ left₀ rule₀ label₀ members₀ ends₀ a b left rule label members ends count
      → ArraysHold t (nodes_of m r.nodes) (owns_of m r.nodes) (8 * r.nodes) a b left rule label members ends count
  arrays a₀ b₀ left₀ rule₀ label₀ members₀ ends₀ a b left rule label members ends count p =
      prepared_holds t (nodes_of m r.nodes) (owns_of m r.nodes) a₀ b₀ left₀ rule₀ label₀ members₀ ends₀ a b left rule label members ends count (8 * r.nodes) sound owned
      (ap (λ (n : ℕ). 8 * n) (sym tree_long)) p
