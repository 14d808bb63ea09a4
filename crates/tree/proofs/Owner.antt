-- Each node of a sound tree but the first is one child of one node: the parent, computed. Assumes nothing.
use Prim.Native.Nat.{ℕ, zero, suc, ◌+◌, ◌<◌}
use mathlib.Core.Path.{◌≡◌, refl, ap, sym, ◌∙◌}
use mathlib.Core.List.{List, [], ◌∷◌, ◌++◌}
use lib.ListN.{length, get_or, length-append}
use borrow.Author.Tests.{lt-ltb, le-ltb}
use native.Mathlib.Nat.{suc-add, add-sub_cancel_left}
use native.Mathlib.Decide.{dec_lt}
use native.Mathlib.Omega.{arith}
use Rattle.table.specs.Words.{child_count, children}
use Rattle.tree.specs.Owner.{Owner, root, kid, under, owner}
use Rattle.tree.specs.Tree.{judge_nodes, size, child_at, Child}
use Rattle.tree.proofs.Size.{size_zero}
use Rattle.tree.proofs.Exchange.{no_end, no_over, first, row_length}

module _ (t : List ℕ) where
  row_count : (n : ℕ) (ws : List ℕ) → length (children t n ++ ws) ≡ child_count t n + length ws
  row_count n ws = length-append (children t n) ws ∙ ap (λ j. j + length ws) (row_length t n (child_count t n) 0)

  pub owner_root : (ns ws : List ℕ) → judge_nodes t ns ws ≡ 0 → (j : ℕ) → j < length ws → owner t ns (size t ns j) ≡ root j
  unfolding owner size
  owner_root [] [] e j h = absurd (omega arith)
  owner_root [] (s ∷ ws) e j h = absurd (no_end t s ws e)
  owner_root (n ∷ ns) [] e j h = absurd (no_over t n ns e)
  owner_root (n ∷ ns) (s ∷ ws) e zero h = refl
  owner_root (n ∷ ns) (s ∷ ws) e (suc j) h =
      let a = child_count t n in
      let i = owner_root ns (children t n ++ ws) (first t n ns s ws e).rest (a + j) (omega (arith, row_count n ws)) in
      rw (i, le-ltb (a + j) a (omega arith), add-sub_cancel_left a j)

  pub owner_child : (ns ws : List ℕ) → judge_nodes t ns ws ≡ 0 → (q k : ℕ) → q < length ns → k < child_count t (get_or ns q 0) → owner t ns (child_at t ns q k) ≡ kid q k
  unfolding owner child_at
  owner_child [] ws e q k h b = absurd (omega arith)
  owner_child (n ∷ ns) [] e q k h b = absurd (no_over t n ns e)
  owner_child (n ∷ ns) (s ∷ ws) e zero k h b =
      let x : suc zero + size t ns k ≡ suc (size t ns k) = omega arith in
      rw (x, owner_root ns (children t n ++ ws) (first t n ns s ws e).rest k (omega (arith, row_count n ws)), lt-ltb k (child_count t n) b)
  owner_child (n ∷ ns) (s ∷ ws) e (suc q) k h b =
      rw (suc-add (suc q), owner_child ns (children t n ++ ws) (first t n ns s ws e).rest q k (omega arith) b)

  -- a node has one parent, and is one child of it
  pub one_parent : (ns ws : List ℕ) → judge_nodes t ns ws ≡ 0 → {q k q' k' m : ℕ} → Child t ns q k m → Child t ns q' k' m → kid q k ≡ kid q' k'
  one_parent ns ws e {q} {k} {q'} {k'} c d =
      sym (owner_child ns ws e q k c.below c.within) ∙ ap (owner t ns) (sym c.place ∙ d.place) ∙ owner_child ns ws e q' k' d.below d.within

  -- what `owner` answers of place m, where the symbols ws are wanted
  abbrev pub Owned : List ℕ → List ℕ → ℕ → Owner → Type 0
  Owned ns ws m (root j) = (j < length ws) × (m ≡ size t ns j)
  Owned ns ws m (kid q k) = Child t ns q k m

  up : (n : ℕ) (ns : List ℕ) (s : ℕ) (ws : List ℕ) (m : ℕ) (o : Owner) → Owned ns (children t n ++ ws) m o → Owned (n ∷ ns) (s ∷ ws) (suc m) (under (child_count t n) o)
  unfolding size child_at
  up n ns s ws m (root j) h = elim (dec_lt j (child_count t n)) [
    | yes b ↦ rw (lt-ltb j (child_count t n) b) (record { below = omega arith; within = b; place = omega (arith, h.1) })
    | no b ↦ rw (le-ltb j (child_count t n) (omega arith)) (omega (arith, row_count n ws, h.0), ap suc (h.1 ∙ ap (size t ns) (omega arith)))
  ]
  up n ns s ws m (kid q k) c = record { below = omega (arith, c.below); within = c.within; place = ap suc c.place ∙ omega arith }

  pub owned : (ns ws : List ℕ) → judge_nodes t ns ws ≡ 0 → (m : ℕ) → m < length ns → Owned ns ws m (owner t ns m)
  unfolding owner size
  owned [] ws e m h = absurd (omega arith)
  owned (n ∷ ns) [] e m h = absurd (no_over t n ns e)
  owned (n ∷ ns) (s ∷ ws) e zero h = (omega arith, refl)
  owned (n ∷ ns) (s ∷ ws) e (suc m) h = up n ns s ws m (owner t ns m) (owned ns (children t n ++ ws) (first t n ns s ws e).rest m (omega arith))

  -- so each node of a tree but the first has a parent
  pub parent_of : (ns : List ℕ) (s : ℕ) → judge_nodes t ns (s ∷ []) ≡ 0 → (m : ℕ) → 0 < m → m < length ns → (q : ℕ) × (k : ℕ) × Child t ns q k m
  parent_of ns s e m p h = go (owner t ns m) (owned ns (s ∷ []) e m h)
    where
      only : (j : ℕ) → j < 1 → j ≡ 0
      only j h = omega arith

      go : (o : Owner) → Owned ns (s ∷ []) m o → (q : ℕ) × (k : ℕ) × Child t ns q k m
      go (root j) f = absurd (omega (arith, size_zero t ns, f.1 ∙ ap (size t ns) (only j f.0)))
      go (kid q k) c = (q, k, c)
