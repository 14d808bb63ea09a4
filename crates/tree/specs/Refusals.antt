-- The order in which a tree that is handed in is refused. Assumes nothing.
use Rattle.std.specs.Prelude.{ℕ, ◌≡◌, List, [], ◌∷◌, length, Result}
use Rattle.refusal.specs.Numbers.{verdict_of}
use Rattle.refusal.specs.declared.Refusal.{Refusal}
use Rattle.refusal.specs.Orders.{Check, above, judged, Order, refusal_by}
use Rattle.table.specs.Judge.{table_check}
use Rattle.tree.specs.Tree.{nodes_most, judge_tree}

-- 15.4: a tree whose root is to be of symbol s, as an entry of an order: 6 or 7
abbrev pub tree_check : List ℕ → List ℕ → List ℕ → ℕ → Check
tree_check t ns owns s = judged 6 7 (judge_tree t ns owns s)

-- 15.11: the table's 1 to 5, 8, 6/7
abbrev pub tree_order : List ℕ → List ℕ → List ℕ → Order
tree_order t ns owns = table_check t ∷ above 8 nodes_most (length ns) ∷ tree_check t ns owns 0 ∷ []

-- 15.11: of table t, nodes ns and own sets owns, where the root is to be of symbol 0
unfoldable pub tree_refusal : List ℕ → List ℕ → List ℕ → ℕ
tree_refusal t ns owns = refusal_by (tree_order t ns owns)

-- 15.11: what `judge_tree` says: sound, or the refusal of that number
abbrev pub JudgeTreeSays : List ℕ → List ℕ → List ℕ → Result (Unit {0}) Refusal → Type 0
JudgeTreeSays t ns owns a = verdict_of a ≡ tree_refusal t ns owns
