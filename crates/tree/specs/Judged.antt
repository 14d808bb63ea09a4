-- What a tree is, and when nodes are refused by 6 or by 7. Assumes nothing.
use Rattle.std.specs.Prelude.{ℕ, ◌≤◌, ◌<◌, ◌≡◌, ◌↔◌, ◌⊎◌, List, [], ◌∷◌, ◌++◌}
use Rattle.table.specs.Words.{production_count, left_of, children}
use Rattle.tree.specs.Tree.{judge_nodes}

-- 4.2: the nodes of a subtree of a symbol, and those of a row of subtrees, one for each symbol
mutual
  pub data Subtree (t : List ℕ) : ℕ → List ℕ → Type 0 where
    node : {p s : ℕ} {ns : List ℕ} → p < production_count t → left_of t p ≡ s → Row t (children t p) ns → Subtree t s (p ∷ ns)

  pub data Row (t : List ℕ) : List ℕ → List ℕ → Type 0 where
    none : Row t [] []
    more : {s : ℕ} {wanted ms ns all : List ℕ} → Subtree t s ms → Row t wanted ns → all ≡ ms ++ ns → Row t (s ∷ wanted) all

-- 15.4: nodes are read in preorder while each is of the symbol wanted there: of the symbols `wanted` at first, `left` are still wanted behind the nodes
pub data Good (t : List ℕ) : List ℕ → List ℕ → List ℕ → Type 0 where
  begin : {wanted : List ℕ} → Good t wanted [] wanted
  next : {p s : ℕ} {wanted ns left : List ℕ} → p < production_count t → left_of t p ≡ s → Good t (children t p ++ wanted) ns left → Good t (s ∷ wanted) (p ∷ ns) left

-- 14.6, 15.4: the first bad node has a production number that is too high
pub record Number (t wanted ns : List ℕ) : Type 0 where
  pub before : List ℕ
  pub node : ℕ
  pub behind : List ℕ
  pub left : List ℕ
  pub order : ns ≡ before ++ (node ∷ behind)
  pub good : Good t wanted before left
  pub wrong : production_count t ≤ node

-- 14.7, 15.4: nodes are missing; or the first bad node is one too many, or of another symbol, while its production number is below the count
pub data Shape (t wanted ns : List ℕ) : Type 0 where
  missing : (s : ℕ) (left : List ℕ) → Good t wanted ns (s ∷ left) → Shape t wanted ns
  over : (before : List ℕ) (p : ℕ) (behind : List ℕ) → ns ≡ before ++ (p ∷ behind) → Good t wanted before [] → p < production_count t → Shape t wanted ns
  wrong : (before : List ℕ) (p : ℕ) (behind : List ℕ) (s : ℕ) (left : List ℕ) → ns ≡ before ++ (p ∷ behind) → Good t wanted before (s ∷ left)
      → p < production_count t → (left_of t p ≡ s → ⊥) → Shape t wanted ns

-- 15.2: nodes are judged sound exactly when they are a subtree of the symbol
abbrev pub TreeExactly : Type 0
TreeExactly = (t ns : List ℕ) (s : ℕ) → (judge_nodes t ns (s ∷ []) ≡ 0) ↔ Subtree t s ns

-- 15.2: that is, exactly when all are good and nothing is missing or left over
abbrev pub GoodExactly : Type 0
GoodExactly = (t ns wanted : List ℕ) → (judge_nodes t ns wanted ≡ 0) ↔ Good t wanted ns []

-- 15.2: they are refused by 6 and by 7 exactly then
abbrev pub NumberExactly : Type 0
NumberExactly = (t ns wanted : List ℕ) → (judge_nodes t ns wanted ≡ 6) ↔ Number t wanted ns

abbrev pub ShapeExactly : Type 0
ShapeExactly = (t ns wanted : List ℕ) → (judge_nodes t ns wanted ≡ 7) ↔ Shape t wanted ns

-- 15.11: and by no other number
abbrev pub ThreeVerdicts : Type 0
ThreeVerdicts = (t ns wanted : List ℕ) → (judge_nodes t ns wanted ≡ 0) ⊎ ((judge_nodes t ns wanted ≡ 6) ⊎ (judge_nodes t ns wanted ≡ 7))
