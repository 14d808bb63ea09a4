-- Trees in preorder: a tree is the list of its nodes' production numbers, and beside it the list of their own sets. Assumes nothing.
use Rattle.std.specs.Prelude.{ℕ, zero, suc, ◌+◌, ◌<◌, ◌≡◌, cond, List, [], ◌∷◌, ◌++◌, ltb, eqb, length, get_or, drop}
use Rattle.table.specs.Words.{production_count, left_of, child_count, children}

-- 4.1: so many nodes a tree has at the most
abbrev pub nodes_most : ℕ
nodes_most = 512

-- 4.2, 15.4: the refusal number of the nodes where a subtree of each of the symbols `wanted` is still to come, 0 where they are just that:
-- at a node 6 (14.6) goes ahead of 7 (14.7), and where some are missing 7 comes behind the last
unfoldable pub judge_nodes : List ℕ → List ℕ → List ℕ → ℕ
judge_nodes t [] [] = 0
judge_nodes t [] (s ∷ wanted) = 7
judge_nodes t (p ∷ ns) [] = cond (ltb p (production_count t)) 7 6
judge_nodes t (p ∷ ns) (s ∷ wanted) =
    let rest = judge_nodes t ns (children t p ++ wanted) in
    cond (ltb p (production_count t)) (cond (eqb (left_of t p) s) rest 7) 6

-- 4.3, 15.4: a tree handed in, whose root is to be of symbol s: 7 unless it has as many own sets as nodes
unfoldable pub judge_tree : List ℕ → List ℕ → List ℕ → ℕ → ℕ
judge_tree t ns owns s = cond (eqb (length ns) (length owns)) (judge_nodes t ns (s ∷ [])) 7

-- 4.2: how many nodes the first k subtrees have together
unfoldable pub size : List ℕ → List ℕ → ℕ → ℕ
size t [] k = 0
size t (p ∷ ns) zero = 0
size t (p ∷ ns) (suc k) = suc (size t ns (child_count t p + k))

-- 4.2: the place behind node n's subtree
unfoldable pub span_end : List ℕ → List ℕ → ℕ → ℕ
span_end t ns n = n + size t (drop n ns) 1

-- 4.2: the place of node n's child k, counted from 0
unfoldable pub child_at : List ℕ → List ℕ → ℕ → ℕ → ℕ
child_at t ns n k = suc n + size t (drop (suc n) ns) k

-- 4.2: m is child k of node n
pub record Child (t ns : List ℕ) (n k m : ℕ) : Type 0 where
  pub below : n < length ns
  pub within : k < child_count t (get_or ns n 0)
  pub place : m ≡ child_at t ns n k
