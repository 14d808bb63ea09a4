-- The system that the wiring holds: for each slot its two arguments, the node whose own set its equation may read, and its rule in the table.
-- Assumes nothing.
use Rattle.std.specs.Prelude.{◌≡◌, true, cond, List, [], map, ℕ, ◌≤◌, ◌<◌, ltb, length, get_or}
use Rattle.sets.specs.Operations.{value_of}
use Rattle.sets.specs.Arguments.{waived_of}
use Rattle.table.specs.Equations.{equation_at}
use Rattle.circles.specs.Graph.{◌∈◌}
use Rattle.circles.specs.Arrays as arrays
use Rattle.climb.specs.System.{Assignment, System, graph_of}
use Rattle.climb.specs.Inside.{Small}
use Rattle.climb.specs.Memory.{at}
use Rattle.climb.specs.Waived.{LawfulBut}
use Rattle.circles.specs.Marks.{not_declared}

-- 4.8: the set of an argument; a number past the slots is none, and gives the empty set
abbrev pub read_of : ℕ → Assignment → ℕ → ℕ
read_of n v y = cond (ltb y n) (v y) 0

-- 3.1, 4.7: the value of the equation of x; t are the table's words, owns the nodes' own sets, left[x] is the left node of the equation
unfoldable pub eval_of : ℕ → List ℕ → List ℕ → List ℕ → List ℕ → List ℕ → List ℕ → Assignment → ℕ → ℕ
eval_of n t owns a b left rule v x =
    value_of (equation_at t (get_or rule x 0)).op (get_or owns (get_or left x 0) 0) (read_of n v (get_or a x not_declared)) (read_of n v (get_or b x not_declared))

-- 4.4, 5.1: the instances and arguments are those of the graph that a and b hold
abbrev pub wired : ℕ → List ℕ → List ℕ → List ℕ → List ℕ → List ℕ → List ℕ → System
wired n t owns a b left rule = record {
  size = n;
  declared = (arrays.graph_of n a b).declared;
  args = (arrays.graph_of n a b).args;
  eval = eval_of n t owns a b left rule;
}

-- ---- what the code asks of the arrays

-- what is read for the equation of x lies within the arrays, and its rule within the table
pub record Row (owns a b left rule : List ℕ) (n x : ℕ) : Type 0 where
  pub below : x < n
  pub firsts : x < length a
  pub seconds : x < length b
  pub lefts : x < length left
  pub rules : x < length rule
  pub ruled : get_or rule x 0 < 1280
  pub owned : get_or left x 0 < length owns

-- the members from start up to end are slots
pub record Span (members : List ℕ) (n start end : ℕ) : Type 0 where
  pub rise : start ≤ end
  pub room : end ≤ length members
  pub inside : (p : ℕ) → start ≤ p → p < end → get_or members p 0 < n

-- and each has its row
pub record Rows (owns a b left rule members : List ℕ) (n start end : ℕ) : Type 0 where
  pub rise : start ≤ end
  pub room : end ≤ length members
  pub row : (p : ℕ) → start ≤ p → p < end → Row owns a b left rule n (get_or members p 0)

-- a whole wiring: every declared slot has its row
pub record Wiring (owns a b left rule : List ℕ) (n : ℕ) : Type 0 where
  pub firsts : n ≤ length a
  pub seconds : n ≤ length b
  pub lefts : n ≤ length left
  pub rules : n ≤ length rule
  pub ruled : (x : ℕ) → (arrays.graph_of n a b).declared x ≡ true → get_or rule x 0 < 1280
  pub owned : (x : ℕ) → (arrays.graph_of n a b).declared x ≡ true → get_or left x 0 < length owns

-- ---- what is promised of the wired system

-- 3.7: what its equations waive: of an operation that waives an argument the second
unfoldable pub waived_by : ℕ → List ℕ → List ℕ → List ℕ → ℕ → List ℕ
waived_by n t b rule x = cond (ltb (get_or b x not_declared) n) (map (λ o. get_or b x not_declared) (waived_of (equation_at t (get_or rule x 0)).op)) []

-- 5.1: its graph is the one that the arrays hold
abbrev pub WiredGraph : Type 0
WiredGraph = (n : ℕ) (t owns a b left rule : List ℕ) → graph_of (wired n t owns a b left rule) ≡ arrays.graph_of n a b

-- 3.8, 3.9: it is lawful but for what is waived: words and own sets have 64 bits, and what a declared slot reads is declared
abbrev pub WiredLawful : Type 0
WiredLawful = (n : ℕ) (t owns a b left rule : List ℕ) → Small (at t) → Small (at owns)
    → ((x : ℕ) → (arrays.graph_of n a b).declared x ≡ true → (y : ℕ) → y ∈ (arrays.graph_of n a b).args x → (arrays.graph_of n a b).declared y ≡ true)
    → LawfulBut (wired n t owns a b left rule) (waived_by n t b rule)
