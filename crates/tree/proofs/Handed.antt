-- The order of refusals of a tree that is handed in: what the tests so far leave. Assumes nothing.
use Prim.Native.Nat.{ℕ, ◌≤◌, ◌<◌}
use mathlib.Core.Path.{◌≡◌, sym}
use mathlib.Core.List.{List, [], ◌∷◌}
use lib.ListN.{length}
use borrow.Author.Tests.{lt-ltb, le-ltb, eq-eqb, ne_eqb}
use Rattle.refusal.specs.Orders.{refusal_by}
use Rattle.refusal.proofs.Orders.{or_zero}
use Rattle.refusal.proofs.Distinct.{handed_number}
use Rattle.refusal.specs.Numbers.{number_of}
use Rattle.refusal.specs.declared.Refusal.{Refusal}
use Rattle.table.specs.Judge.{judge_table}
use Rattle.table.proofs.Steps.{or_stops}
use Rattle.tree.specs.Tree.{judge_nodes, judge_tree}
use Rattle.tree.specs.Refusals.{tree_refusal}

-- a refusal of the table comes before all others
pub table_first : (t ns owns : List ℕ) (r : Refusal) → number_of r ≡ judge_table t → number_of r ≡ tree_refusal t ns owns
unfolding tree_refusal refusal_by
table_first t ns owns r h = or_stops _ _ r h

module _ (t ns owns : List ℕ) (e : judge_table t ≡ 0) where
  pub too_large : 512 < length ns → 8 ≡ tree_refusal t ns owns
  unfolding tree_refusal refusal_by
  too_large h = rw (e, lt-ltb 512 (length ns) h)

  pub unequal : length ns ≤ 512 → (length ns ≡ length owns → ⊥) → 7 ≡ tree_refusal t ns owns
  unfolding tree_refusal refusal_by judge_tree
  unequal h f = rw (e, le-ltb 512 (length ns) h, ne_eqb (length ns) (length owns) f)

  pub judged : length ns ≤ 512 → length ns ≡ length owns → judge_nodes t ns (0 ∷ []) ≡ tree_refusal t ns owns
  unfolding tree_refusal refusal_by judge_tree
  judged h f = rw (e, le-ltb 512 (length ns) h, eq-eqb (length ns) (length owns) f) (sym (or_zero (judge_nodes t ns (0 ∷ []))))

-- what the judgement of a tree that is handed in goes by
pub ruleset handing = (handed_number, table_first, too_large, unequal, judged)
