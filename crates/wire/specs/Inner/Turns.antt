-- What is asked of the memory that the wiring works on, and what holds while it is made, node by node and position by position. Assumes nothing.
use Rattle.std.specs.Prelude.{ℕ, zero, suc, ◌+◌, ◌*◌, ◌%◌, ◌≤◌, ◌<◌, ◌≡◌, Bool, true, false, cond, List, [], ◌∷◌, length, get_or}
use Rattle.table.specs.Words.{child_count, defined}
use Rattle.table.specs.Equations.{uses_a, uses_b}
use Rattle.table.specs.Judge.{judge_table}
use Rattle.tree.specs.Tree.{nodes_most, judge_nodes}
use Rattle.tree.specs.Inner.Spans.{Ended}
use Rattle.wire.specs.Instances.{index_of, declared, place_of, spot}
use Rattle.wire.specs.Arrays.{first_at, second_at, left_at, rule_in}
use Rattle.circles.specs.Marks.{not_declared, no_slot}

-- ---- what is asked

-- 4.1, 4.2: a sound table, and a sound tree of at most 512 nodes
pub record Held (t ns : List ℕ) : Type 0 where
  pub judged : judge_table t ≡ 0
  pub sound : judge_nodes t ns (0 ∷ []) ≡ 0
  pub few : length ns ≤ nodes_most

-- the end of every node's subtree
pub record Ends (t ns ends : List ℕ) : Type 0 where
  pub long : length ns ≤ length ends
  pub ended : Ended t ns 0 ends

-- the lent arrays have room for n slots
pub record Room (n : ℕ) (a b left rule : List ℕ) : Type 0 where
  pub firsts : n ≤ length a
  pub seconds : n ≤ length b
  pub lefts : n ≤ length left
  pub rules : n ≤ length rule

-- ---- one node

-- the names of node q's instances come first, and behind them, at 8, is the mark of what is not read
pub record Own (q : ℕ) (named : List ℕ) : Type 0 where
  pub long : length named ≡ 1032
  pub none : get_or named 8 0 ≡ no_slot
  pub names : (i : ℕ) → i < 8 → get_or named i 0 ≡ 8 * q + i

-- the first n names of a node stand at a position, and what is before the position is as it was
pub record Row (at node n : ℕ) (before after : List ℕ) : Type 0 where
  pub long : length after ≡ length before
  pub names : (i : ℕ) → i < n → get_or after (256 * at + i) 0 ≡ 8 * node + i
  pub others : (x : ℕ) → x < 256 * at → get_or after x 0 ≡ get_or before x 0

-- the instances of node q and its children, each where an argument, 256 · position + index, names it
pub record Named (t ns : List ℕ) (q : ℕ) (named : List ℕ) : Type 0 where
  pub own : Own q named
  pub names : (at i : ℕ) → at ≤ child_count t (get_or ns q 0) → i < 8 → get_or named (256 * at + i) 0 ≡ 8 * spot t ns q at + i

-- an argument that is read has a name, and one that is not is 0
pub record Fit (used : Bool) (o : ℕ) : Type 0 where
  pub within : used ≡ true → o < 1032
  pub unused : used ≡ false → o ≡ 0

-- what is added to the head of an operation, so that the arguments that it doesn't read lead to the mark
pub record Beyond (l : List ℕ) : Type 0 where
  pub added : (op : ℕ) → op ≤ 9 → get_or l op 0 ≡ cond (uses_a op) 0 524288 + cond (uses_b op) 0 8

-- the index of the first set that a position defines: the left symbol's synthesized ones, a child's inherited ones
abbrev pub first_index : ℕ → ℕ
first_index zero = 0
first_index (suc k) = 4

-- the sets that node q's production defines at a position: their first rule and its head's place, their first slot, and how many they are
pub record Sets (t ns : List ℕ) (q at number heads from count : ℕ) : Type 0 where
  pub within : at ≤ child_count t (get_or ns q 0)
  pub rules : number ≡ 20 * get_or ns q 0 + 4 * at
  pub words : heads ≡ 97 + 2 * number
  pub slots : from ≡ 8 * spot t ns q at + first_index at
  pub every : count ≡ defined t (get_or ns q 0) at

-- ---- in the midst

-- what the arrays hold for slot x
pub record Wires (t ns : List ℕ) (x first second node rule : ℕ) : Type 0 where
  pub firsts : first ≡ first_at t ns x
  pub seconds : second ≡ second_at t ns x
  pub lefts : node ≡ left_at t ns x
  pub rules : rule ≡ rule_in t ns x

-- when an instance has its turn
abbrev pub turn : List ℕ → List ℕ → ℕ → ℕ
turn t ns x = 20 * (place_of t ns x).node + 4 * (place_of t ns x).position + index_of x % 4

-- the instances with turns before n are wired, and the slots that are not declared are marked
pub record Partly (t ns : List ℕ) (n : ℕ) (a b left rule : List ℕ) : Type 0 where
  pub done : (x : ℕ) → declared t ns x ≡ true → turn t ns x < n → Wires t ns x (get_or a x 0) (get_or b x 0) (get_or left x 0) (get_or rule x 0)
  pub marked : (x : ℕ) → x < 8 * length ns → declared t ns x ≡ false → Wires t ns x (get_or a x 0) (get_or b x 0) (get_or left x 0) (get_or rule x 0)

-- the first n slots are marked as not declared
pub record Blank (n : ℕ) (a b left rule : List ℕ) : Type 0 where
  pub firsts : (x : ℕ) → x < n → get_or a x 0 ≡ not_declared
  pub seconds : (x : ℕ) → x < n → get_or b x 0 ≡ not_declared
  pub lefts : (x : ℕ) → x < n → get_or left x 0 ≡ 0
  pub rules : (x : ℕ) → x < n → get_or rule x 0 ≡ 0

-- from n on, l' is l
pub record Behind (n : ℕ) (l l' : List ℕ) : Type 0 where
  pub long : length l' ≡ length l
  pub others : (x : ℕ) → n ≤ x → get_or l' x 0 ≡ get_or l x 0

pub record Stay (n : ℕ) (a b left rule a' b' left' rule' : List ℕ) : Type 0 where
  pub firsts : Behind n a a'
  pub seconds : Behind n b b'
  pub lefts : Behind n left left'
  pub rules : Behind n rule rule'
