-- A waiver inside a circle, which refusal 21 tells: what it is, the test for it, and that without one each circle is a climb. Assumes nothing.
use Rattle.std.specs.Prelude.{◌≡◌, Bool, true, false, cond, ◌↔◌, List, [], ◌∷◌, ℕ, ◌≤◌, eqb, length}
use Rattle.table.specs.Words.{rule_of, head_at}
use Rattle.table.specs.Equations.{op_number}
use Rattle.table.specs.Same.{Has}
use Rattle.table.specs.Judge.{judge_table}
use Rattle.tree.specs.Tree.{nodes_most, judge_nodes}
use Rattle.circles.specs.Graph.{◌∈◌, Graph, Together}
use Rattle.circles.specs.Ranked.{any_of, slots, labels_of, label_at, ranked}
use Rattle.climb.specs.System.{graph_of, Lawful}
use Rattle.climb.specs.Circuit.{LawfulCircles}
use Rattle.wire.specs.Instances.{declared, waived_at, system, waived}
use Rattle.wire.specs.Arrays.{second_at, rule_in}
use Rattle.wire.specs.Laws.{Words}

-- 5.1: who reads whom: own sets have no part in it
abbrev pub graph : List ℕ → List ℕ → Graph
graph t ns = graph_of (system t ns [])

-- 5.7: a waiver inside a circle: the operation of the instance x is 9 and y is its b, perhaps x itself, and the two reach each other
pub record Waiver (t ns : List ℕ) : Type 0 where
  pub x : ℕ
  pub y : ℕ
  pub instance : declared t ns x ≡ true
  pub argument : y ∈ waived_at t ns x
  pub together : Together (graph t ns) x y

-- 5.7: the tree has none
abbrev pub Free : List ℕ → List ℕ → Type 0
Free t ns = Waiver t ns → ⊥

-- 5.7: the test, by the labels of the circles
unfoldable pub waives : List ℕ → List ℕ → Bool
waives t ns =
    let labels = labels_of (graph t ns) in
    any_of (λ x. any_of (λ y. eqb (label_at labels y) (label_at labels x)) (waived t ns x)) (slots (graph t ns))

-- 5.7: it tells in any sound tree whether there is one
pub record WaivesExactly (t ns : List ℕ) : Type 0 where
  pub some : (waives t ns ≡ true) ↔ Waiver t ns
  pub none : (waives t ns ≡ false) ↔ Free t ns

abbrev pub EveryTreeWaives : Type 0
EveryTreeWaives = (t ns : List ℕ) → judge_table t ≡ 0 → judge_nodes t ns (0 ∷ []) ≡ 0 → WaivesExactly t ns

-- 3.8: where there is none, each circle of the tree is a climb
abbrev pub CirclesLawful : Type 0
CirclesLawful = (t ns owns : List ℕ) → judge_table t ≡ 0 → judge_nodes t ns (0 ∷ []) ≡ 0 → length ns ≤ nodes_most → Words t → Words owns
    → Free t ns → LawfulCircles (system t ns owns) (ranked (graph_of (system t ns owns)))

-- 3.7: what is waived, as the arrays of the wiring tell it: the second argument where the rule's operation is 9
abbrev pub WaivedWired : Type 0
WaivedWired = (t ns : List ℕ) (x : ℕ) → declared t ns x ≡ true
    → waived_at t ns x ≡ cond (eqb (op_number (head_at t (rule_in t ns x))) 9) (second_at t ns x ∷ []) []

-- 6.4: a table without operation 9
abbrev pub Plain : List ℕ → Type 0
Plain t = (p q k : ℕ) → Has t p q k → op_number (head_at t (rule_of p q k)) ≡ 9 → ⊥

-- 5.7: over it the test finds nothing in any tree
abbrev pub PlainFree : Type 0
PlainFree = (t ns : List ℕ) → judge_table t ≡ 0 → judge_nodes t ns (0 ∷ []) ≡ 0 → Plain t → waives t ns ≡ false

-- 3.8, 14.21: so that no tree is refused by 21, and every system gains everywhere
pub record PlainTree (t ns owns : List ℕ) : Type 0 where
  pub free : Free t ns
  pub lawful : Lawful (system t ns owns)

abbrev pub PlainLawful : Type 0
PlainLawful = (t ns owns : List ℕ) → judge_table t ≡ 0 → judge_nodes t ns (0 ∷ []) ≡ 0 → Words t → Words owns → Plain t → PlainTree t ns owns
