-- What a reading answers: the refusal that its code found, or the set of a declared instance, which lies inside the sets. Assumes nothing.
use Rattle.std.specs.Prelude.{Ok, Err}
use mathlib.Core.Path.{◌≡◌, refl, sym, ◌∙◌}
use mathlib.Core.Bool.{true, false}
use mathlib.Core.List.{List, [], ◌∷◌}
use Prim.Native.Nat.{ℕ, zero, suc, ◌<◌, ◌≤◌}
use native.Mathlib.Omega.{arith}
use lib.ListN.{length}
use lib.Seq.{length-take-le}
use Rattle.refusal.specs.Numbers.{number_of}
use Rattle.refusal.specs.Orders.{refusal_by}
use Rattle.refusal.specs.declared.Refusal.{Refusal}
use Rattle.refusal.specs.declared.Refusal.TheVariants.{Undeclared}
use Rattle.refusal.proofs.Distinct.{number_low}
use Rattle.table.specs.Limits.{Limits}
use Rattle.table.proofs.Limits.{limits}
use Rattle.tree.specs.Numbered.{Numbered}
use Rattle.tree.proofs.Numbered.{judged_numbered}
use Rattle.climb.specs.Memory.{at}
use Rattle.wire.specs.Instances.{declared}
use Rattle.update.specs.declared.Record.{Record}
use Rattle.update.specs.Memories.{Memory, nodes_of, owns_of}
use Rattle.update.specs.Refusals.{look_order, read_refusal}
use Rattle.update.specs.Calls.{refused, unless_read, reading_says, read_call}
use Rattle.update_judge.proofs.Orders.{Looked, looked, read_past, read_stopped, tree_sound}
use Rattle.update_judge.proofs.Parts.{declared_below}

read_some : (n v : ℕ) → 0 < n → refused n ≡ unless_read n v
read_some zero v h = absurd (omega arith)
read_some (suc n) v h = refl

module _ (t : List ℕ) (m : Memory) (r : Record) where
  read_refused : (x : ℕ) (q : Refusal) → number_of q ≡ read_refusal t m r x → reading_says (Err q) ≡ read_call t m r x
  unfolding read_call
  read_refused x q e = rw (← e) (read_some (number_of q) (at m.sets x) (number_low q))

  -- what refuses a look refuses the reading
  pub look_refused : (x : ℕ) (q : Refusal) → number_of q ≡ refusal_by (look_order t m r) → reading_says (Err q) ≡ read_call t m r x
  look_refused x q e = read_refused x q (read_stopped t m r x q e)

  -- behind that
  module _ (e : 0 ≡ refusal_by (look_order t m r)) where
    look : Looked t m r
    look = looked t m r (sym e)

    pub shaped : Limits t
    shaped = limits t look.footing.table

    pub fits : r.nodes ≤ length m.productions
    fits = omega (arith, look.footing.room.productions, look.footing.within.nodes)

    pub numbered : Numbered t (nodes_of m r.nodes)
    numbered = judged_numbered t (nodes_of m r.nodes) (0 ∷ []) (tree_sound t (nodes_of m r.nodes) (owns_of m r.nodes) 0 look.tree)

    module _ (x : ℕ) where
      pub inside : declared t (nodes_of m r.nodes) x ≡ true → x < length m.sets
      inside d = omega (arith, declared_below t (nodes_of m r.nodes) x d, length-take-le r.nodes m.productions fits, look.footing.room.sets, look.footing.within.nodes)

      pub undeclared : declared t (nodes_of m r.nodes) x ≡ false → reading_says (Err Undeclared) ≡ read_call t m r x
      undeclared d = read_refused x Undeclared (sym (read_past t m r x look ∙ rw d))

      pub read_said : declared t (nodes_of m r.nodes) x ≡ true → reading_says (Ok (at m.sets x)) ≡ read_call t m r x
      unfolding read_call
      read_said d = let z : read_refusal t m r x ≡ 0 = read_past t m r x look ∙ rw d in rw z
