-- The parent of a node, computed from the front. Assumes nothing.
use Rattle.std.specs.Prelude.{ℕ, zero, suc, ◌-◌, Bool, true, false, List, [], ◌∷◌, ltb}
use Rattle.table.specs.Words.{child_count}

-- 4.2: a node is the first node of subtree j of a row, or child k of node q
pub data Owner : Type 0 where
  root : ℕ → Owner
  kid : ℕ → ℕ → Owner

abbrev pub pick_owner : Bool → Owner → Owner → Owner
pick_owner true a b = a
pick_owner false a b = b

-- what a place is once a node with `count` children stands in front
abbrev pub under : ℕ → Owner → Owner
under count (root j) = pick_owner (ltb j count) (kid 0 j) (root (suc (j - count)))
under count (kid q k) = kid (suc q) k

-- 4.2: which of these node m is
unfoldable pub owner : List ℕ → List ℕ → ℕ → Owner
owner t [] m = root 0
owner t (p ∷ ns) zero = root 0
owner t (p ∷ ns) (suc m) = under (child_count t p) (owner t ns m)
