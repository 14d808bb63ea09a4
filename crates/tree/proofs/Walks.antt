-- How a walk over a subtree goes on from its node, and one over a row from child to child. Assumes nothing.
use Rattle.std.proofs.Common.{Result, Ok, Err}
use Rattle.std.specs.Prelude.{IsErrAnd}
use Prim.Native.Nat.{ℕ, suc, ◌+◌, ◌-◌, ◌≤◌, ◌<◌}
use mathlib.Core.Path.{◌≡◌, refl, subst, sym, ◌∙◌}
use mathlib.Core.List.{List, [], ◌∷◌, ◌++◌}
use lib.ListN.{length, get_or, drop}
use native.Mathlib.Nat.{le_refl, sub-zero}
use native.Mathlib.Omega.{arith}
use Rattle.refusal.specs.declared.Refusal.{Refusal}
use Rattle.refusal.specs.Numbers.{number_of}
use Rattle.refusal.proofs.Distinct.{handed}
use Rattle.table.specs.Words.{production_count, left_of, child_count, child_of, children_from, children}
use Rattle.tree.specs.Tree.{judge_nodes}
use Rattle.tree.proofs.Nodes.{judge_step, row_none, row_more}
use Rattle.tree.specs.Inner.Says.{Passed, Says}

module _ (t ns : List ℕ) (at : ℕ) where
  -- what a node's row says, its subtree says
  pub subtree_goes : (s p : ℕ) → at < length ns → p ≡ get_or ns at 0 → p < production_count t → left_of t p ≡ s
      → (w : Result ℕ Refusal) → Says t ns (at + 1) (at + 1) (children t p) w → Says t ns at (suc at) (s ∷ []) w
  subtree_goes s p h e b l w r = go w (rw e at r)
    where
      step : (ss : List ℕ) → judge_nodes t (drop at ns) (s ∷ ss) ≡ judge_nodes t (drop (at + 1) ns) (children t (get_or ns at 0) ++ ss)
      step ss = judge_step t ns at h s ss (rw e at b) (rw e at l)

      go : (w : Result ℕ Refusal) → Says t ns (at + 1) (at + 1) (children t (get_or ns at 0)) w → Says t ns at (suc at) (s ∷ []) w
      go (Ok e) r = record { low = omega (arith, r.low); high = r.high; rest = λ ss. step ss ∙ r.rest ss }
      go (Err x) r = λ ss. step ss ∙ r ss

  -- the walk over the row of p from `at` has passed the children before k, and stands at `next`
  pub record Walking (p k next : ℕ) : Type 0 where
    pub low : at ≤ next
    pub high : next ≤ length ns
    pub rest : (ss : List ℕ) → judge_nodes t (drop at ns) (children t p ++ ss) ≡ judge_nodes t (drop next ns) (children_from t p (child_count t p - k) k ++ ss)

  module _ (p : ℕ) where
    pub walk_begins : at ≤ length ns → Walking p 0 at
    walk_begins h = record { low = le_refl at; high = h; rest = λ ss. rw sub-zero refl }

    module _ (k next : ℕ) (w : Walking p k next) where
      pub walk_goes : (s z : ℕ) → k < child_count t p → s ≡ child_of t p k → Passed t ns next (suc next) (s ∷ []) z → Walking p (k + 1) z
      walk_goes s z d e h = record { low = omega (arith, w.low, h.low); high = h.high; rest = λ ss. rw (row_more t p (child_count t p) k d, ← e) at (w.rest ss) ∙ h.rest _ }

      -- what a child's subtree is refused for, the row is
      pub walk_stops : (s : ℕ) (v : Result ℕ Refusal) (r : Refusal) → IsErrAnd v (λ (x : Refusal). x ≡ r) → k < child_count t p → s ≡ child_of t p k
          → ((ss : List ℕ) → judge_nodes t (drop next ns) (s ∷ ss) ≡ number_of r) → Says t ns at at (children t p) v
      walk_stops s v r i d e h =
          subst (Says t ns at at (children t p)) (sym (handed v r i)) (λ (ss : List ℕ). rw (row_more t p (child_count t p) k d, ← e) at (w.rest ss) ∙ h _)

      pub walk_ends : child_count t p ≤ k → Passed t ns at at (children t p) next
      walk_ends d = record { low = w.low; high = w.high; rest = λ ss. rw (row_none t p (child_count t p) k d) at (w.rest ss) }
