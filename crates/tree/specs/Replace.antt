-- One subtree exchanged for another. Assumes nothing.
use Rattle.std.specs.Prelude.{ℕ, ◌+◌, ◌-◌, cond, List, ◌++◌, leb, take, drop}
use Rattle.tree.specs.Tree.{size}

-- 9.4: l with `new` in the place of the k elements from r on
unfoldable pub exchanged : {A : Type 0} → List A → ℕ → ℕ → List A → List A
exchanged l r k new = take r l ++ (new ++ drop (r + k) l)

-- 9.1: how many nodes the old part at r has
unfoldable pub part : List ℕ → List ℕ → ℕ → ℕ
part t ns r = size t (drop r ns) 1

-- 9.4: the old number of node m, where k nodes from r on made way for s
unfoldable pub formerly : ℕ → ℕ → ℕ → ℕ → ℕ
formerly r k s m = cond (leb m r) m (m - s + k)
