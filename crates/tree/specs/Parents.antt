-- Each node of a tree but the first is one child of one node. Assumes nothing.
use Rattle.std.specs.Prelude.{ℕ, ◌<◌, ◌≡◌, List, [], ◌∷◌, length, get_or}
use Rattle.table.specs.Words.{left_of, child_of}
use Rattle.tree.specs.Tree.{judge_nodes, Child}
use Rattle.tree.specs.Owner.{kid, owner}

-- 4.2: the root's symbol, and of every other node its one parent
pub record Parents (t ns : List ℕ) (s : ℕ) : Type 0 where
  pub root : left_of t (get_or ns 0 0) ≡ s
  pub each : (m : ℕ) → 0 < m → m < length ns → (q : ℕ) × (k : ℕ) × Child t ns q k m
  pub one : {q k q' k' m : ℕ} → Child t ns q k m → Child t ns q' k' m → kid q k ≡ kid q' k'
  pub computed : {q k m : ℕ} → Child t ns q k m → owner t ns m ≡ kid q k
  -- it is a node, and of the symbol that its parent's production names there
  pub below : {q k m : ℕ} → Child t ns q k m → m < length ns
  pub symbol : {q k m : ℕ} → Child t ns q k m → left_of t (get_or ns m 0) ≡ child_of t (get_or ns q 0) k

-- 4.2: so it is in every sound tree
abbrev pub ParentsLaw : Type 0
ParentsLaw = (t ns : List ℕ) (s : ℕ) → judge_nodes t ns (s ∷ []) ≡ 0 → Parents t ns s
