-- When nodes that are handed in with own sets are refused, number by number, said without the definitions that judge them. Assumes nothing.
use Rattle.std.specs.Prelude.{ℕ, ◌≤◌, ◌<◌, ◌≡◌, ◌↔◌, List, [], ◌∷◌, length, Ok, Err}
use Rattle.refusal.specs.Numbers.{number_of}
use Rattle.refusal.specs.declared.Refusal.{Refusal}
use Rattle.refusal.specs.declared.Refusal.TheVariants as why
use Rattle.table.specs.Sound.{Sound}
use Rattle.table.specs.Refused.{Refused}
use Rattle.tree.specs.Tree.{nodes_most, judge_tree}
use Rattle.tree.specs.Judged.{Subtree, Number, Shape}
use Rattle.tree.specs.Refusals.{JudgeTreeSays}

-- ---- nodes and own sets over a table, where the root is to be of symbol s

-- 14.6, 14.7, 15.4: the number that they give: 7 where there are fewer or more own sets than nodes, whatever the nodes are;
-- else 6 or 7 of the nodes, and 0 where they are a subtree
pub data Judges (t ns owns : List ℕ) (s : ℕ) : ℕ → Type 0 where
  unequal : (length ns ≡ length owns → ⊥) → Judges t ns owns s 7
  number : length ns ≡ length owns → Number t (s ∷ []) ns → Judges t ns owns s 6
  shape : length ns ≡ length owns → Shape t (s ∷ []) ns → Judges t ns owns s 7
  subtree : length ns ≡ length owns → Subtree t s ns → Judges t ns owns s 0

-- 15.2: they give it exactly then
abbrev pub HandedExactly : Type 0
HandedExactly = (t ns owns : List ℕ) (s n : ℕ) → (judge_tree t ns owns s ≡ n) ↔ Judges t ns owns s n

-- ---- a tree that is handed in with its table

-- 15.11: what it is refused by: the table's numbers first, then 8, then 6 and 7
pub data TreeRefused (t ns owns : List ℕ) : Refusal → Type 0 where
  by1to5 : {r : Refusal} → Refused t (number_of r) → TreeRefused t ns owns r
  by8 : Sound t → nodes_most < length ns → TreeRefused t ns owns why.Size
  by6 : Sound t → length ns ≤ nodes_most → Judges t ns owns 0 6 → TreeRefused t ns owns why.Production
  by7 : Sound t → length ns ≤ nodes_most → Judges t ns owns 0 7 → TreeRefused t ns owns why.Shape

-- 4.1, 4.2: and what it is where nothing refuses it
pub record SoundTree (t ns owns : List ℕ) : Type 0 where
  pub table : Sound t
  pub few : length ns ≤ nodes_most
  pub equal : length ns ≡ length owns
  pub tree : Subtree t 0 ns

-- 15.2: `judge_tree` refuses it and judges it sound exactly then
pub record JudgeTreeExactly (t ns owns : List ℕ) : Type 0 where
  pub refused : (r : Refusal) → JudgeTreeSays t ns owns (Err r) ↔ TreeRefused t ns owns r
  pub sound : JudgeTreeSays t ns owns (Ok tt) ↔ SoundTree t ns owns

-- 15.2: whatever the table and the nodes are
abbrev pub AllTreesExactly : Type 0
AllTreesExactly = (t ns owns : List ℕ) → JudgeTreeExactly t ns owns
