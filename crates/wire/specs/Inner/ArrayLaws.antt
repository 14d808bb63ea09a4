-- The arrays that the wiring writes hold the system of the table and the tree. Assumes nothing.
use Rattle.std.specs.Prelude.{◌≡◌, Bool, true, ◌&&◌, List, [], ◌∷◌, ℕ, ◌*◌, ◌≤◌, ◌<◌, eqb, ltb, length, get_or}
use Rattle.table.specs.Words.{head_at}
use Rattle.table.specs.Equations.{op_number}
use Rattle.table.specs.Judge.{judge_table}
use Rattle.tree.specs.Tree.{nodes_most, judge_nodes}
use Rattle.circles.specs.Ranked.{member, any_of, up_from, labels_of, label_at}
use Rattle.circles.specs.Arrays.{Given, over, graph_of}
use Rattle.climb.specs.System.{Assignment, System}
use Rattle.climb.specs.Memory.{round_on, still_on}
use Rattle.climb.specs.Inner.Wired.{wired, Wiring}
use Rattle.wire.specs.Instances.{system}
use Rattle.wire.specs.Arrays.{Wired}
use Rattle.wire.specs.Waivers.{waives}
use Rattle.circles.specs.Marks.{not_declared}

-- two systems have the same slots, instances, arguments and values
pub record SameSystem (S S' : System) : Type 0 where
  pub size : S.size ≡ S'.size
  pub declared : (x : ℕ) → S.declared x ≡ S'.declared x
  pub args : (x : ℕ) → x < S.size → S.args x ≡ S'.args x
  pub value : (v : Assignment) (x : ℕ) → S.declared x ≡ true → S.eval v x ≡ S'.eval v x

-- the arrays' system is the tree's
abbrev pub WiredAlike : Type 0
WiredAlike = (t ns owns a₀ b₀ left₀ rule₀ a b left rule : List ℕ) → judge_table t ≡ 0 → judge_nodes t ns (0 ∷ []) ≡ 0 → length ns ≤ nodes_most
    → Wired t ns a₀ b₀ left₀ rule₀ a b left rule → SameSystem (wired (8 * length ns) t owns a b left rule) (system t ns owns)

-- every declared slot has a rule within the table and a node with an own set
abbrev pub WiredWhole : Type 0
WiredWhole = (t ns owns a₀ b₀ left₀ rule₀ a b left rule : List ℕ) → judge_table t ≡ 0 → judge_nodes t ns (0 ∷ []) ≡ 0 → length ns ≤ nodes_most → length ns ≤ length owns
    → Wired t ns a₀ b₀ left₀ rule₀ a b left rule → Wiring owns a b left rule (8 * length ns)

-- and the two argument arrays are what the circles are computed from
abbrev pub WiredGiven : Type 0
WiredGiven = (t ns a₀ b₀ left₀ rule₀ a b left rule : List ℕ) → judge_table t ≡ 0 → judge_nodes t ns (0 ∷ []) ≡ 0 → length ns ≤ nodes_most
    → Wired t ns a₀ b₀ left₀ rule₀ a b left rule → Given (8 * length ns) a b

-- so a round of instances over the one is a round over the other
pub record SameRound (S S' : System) (C s : List ℕ) : Type 0 where
  pub stored : round_on S C s ≡ round_on S' C s
  pub still : still_on S C s ≡ still_on S' C s

abbrev pub RoundAlike : Type 0
RoundAlike = (S S' : System) → SameSystem S S' → (C s : List ℕ) → ((x : ℕ) → member C x ≡ true → S.declared x ≡ true) → SameRound S S' C s

-- ---- 5.7: the test for 21, slot by slot: of n slots the second arguments, the rules and the labels of the circles

abbrev pub waives_at : ℕ → List ℕ → List ℕ → List ℕ → List ℕ → ℕ → Bool
waives_at n t b rule label x = ltb (get_or b x not_declared) n && eqb (op_number (head_at t (get_or rule x 0))) 9 && eqb (label_at label (get_or b x not_declared)) (label_at label x)

unfoldable pub waives_in : ℕ → List ℕ → List ℕ → List ℕ → List ℕ → Bool
waives_in n t b rule label = any_of (waives_at n t b rule label) (up_from 0 n)

abbrev pub WaivesWired : Type 0
WaivesWired = (t ns a₀ b₀ left₀ rule₀ label₀ a b left rule label : List ℕ) → judge_table t ≡ 0 → judge_nodes t ns (0 ∷ []) ≡ 0 → length ns ≤ nodes_most
    → Wired t ns a₀ b₀ left₀ rule₀ a b left rule → label ≡ over (labels_of (graph_of (8 * length ns) a b)) label₀
    → waives_in (8 * length ns) t b rule label ≡ waives t ns
