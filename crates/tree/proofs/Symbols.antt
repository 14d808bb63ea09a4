-- The symbols of a sound tree's nodes: the root has the symbol that is wanted, each child the one that its parent's production names. Assumes nothing.
use Prim.Native.Nat.{ℕ, zero, suc, ◌+◌, ◌<◌}
use mathlib.Core.Path.{◌≡◌, ap, sym, ◌∙◌}
use mathlib.Core.List.{List, [], ◌∷◌, ◌++◌, append-nil}
use lib.ListN.{length, get_or, drop, length-append, get_or-append}
use lib.Seq.{get_or-drop, get_or-append-add}
use native.Mathlib.Nat.{add-zero, zero-add}
use native.Mathlib.Omega.{arith}
use Rattle.table.specs.Words.{left_of, child_count, child_of, children_from, children}
use Rattle.tree.specs.Tree.{judge_nodes, size, child_at, Child}
use Rattle.tree.proofs.Size.{size_zero}
use Rattle.tree.proofs.Exchange.{no_end, no_over, first, kids, row_length, child_inside}

row_at : (t : List ℕ) (p n k j : ℕ) → j < n → get_or (children_from t p n k) j 0 ≡ child_of t p (k + j)
unfolding children_from
row_at t p zero k j h = absurd (omega arith)
row_at t p (suc n) k zero h = rw add-zero
row_at t p (suc n) k (suc j) h = row_at t p n (suc k) j (omega arith) ∙ ap (child_of t p) (omega arith)

-- the first node of each subtree of a row is of the symbol that is wanted there
row_symbol : (t ns ws : List ℕ) → judge_nodes t ns ws ≡ 0 → (j : ℕ) → j < length ws → left_of t (get_or ns (size t ns j) 0) ≡ get_or ws j 0
unfolding size
row_symbol t [] [] e j h = absurd (omega arith)
row_symbol t [] (s ∷ ws) e j h = absurd (no_end t s ws e)
row_symbol t (n ∷ ns) [] e j h = absurd (no_over t n ns e)
row_symbol t (n ∷ ns) (s ∷ ws) e zero h = (first t n ns s ws e).left
row_symbol t (n ∷ ns) (s ∷ ws) e (suc j) h =
    let l : length (children t n) ≡ child_count t n = row_length t n (child_count t n) 0 in
    row_symbol t ns (children t n ++ ws) (first t n ns s ws e).rest (child_count t n + j) (omega (arith, length-append (children t n) ws))
    ∙ behind (children t n) ws (child_count t n) j l
  where
    behind : (xs ys : List ℕ) (c j : ℕ) → length xs ≡ c → get_or (xs ++ ys) (c + j) 0 ≡ get_or ys j 0
    behind xs ys c j e = rw (← e) (get_or-append-add xs ys j 0)

module _ (t ns : List ℕ) (s : ℕ) (e : judge_nodes t ns (s ∷ []) ≡ 0) where
  pub child_below : {q k m : ℕ} → Child t ns q k m → m < length ns
  unfolding child_at
  child_below {q} {k} c = rw c.place (rw append-nil at (child_inside t ns (s ∷ []) [] e q c.below k c.within))

  -- a child is of the symbol that its parent's production names
  pub child_symbol : {q k m : ℕ} → Child t ns q k m → left_of t (get_or ns m 0) ≡ child_of t (get_or ns q 0) k
  unfolding child_at
  child_symbol {q} {k} c =
      let p = get_or ns q 0 in
      let f = kids t ns (s ∷ []) e q c.below in
      let l : length (children t p) ≡ child_count t p = row_length t p (child_count t p) 0 in
      let b : k < length (children t p) = omega (arith, c.within) in
      let a = row_symbol t (drop (suc q) ns) (children t p ++ f.wanted) f.sound k (omega (arith, length-append (children t p) f.wanted)) in
      let d : get_or (drop (suc q) ns) (size t (drop (suc q) ns) k) 0 ≡ get_or ns (suc q + size t (drop (suc q) ns) k) 0 = get_or-drop (suc q) ns (size t (drop (suc q) ns) k) 0 in
      rw c.place (ap (left_of t) (sym d) ∙ a ∙ get_or-append (children t p) f.wanted 0 k b ∙ row_at t p (child_count t p) 0 k c.within ∙ ap (child_of t p) (zero-add k))

  pub root_symbol : left_of t (get_or ns 0 0) ≡ s
  root_symbol = rw (size_zero t ns) at (row_symbol t ns (s ∷ []) e 0 (omega arith))
