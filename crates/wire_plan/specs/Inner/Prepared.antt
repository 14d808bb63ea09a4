-- The arrays of a tree's wiring and of its ranked circles, made once for all the steps of an update. Assumes nothing.
use Rattle.std.specs.Prelude.{◌≡◌, List, ℕ, ◌*◌, ◌≤◌, ◌<◌, length, get_or}
use Rattle.circles.specs.Arrays.{graph_of, Laid}
use Rattle.wire.specs.Arrays.{Wired}
use Rattle.wire.specs.Inner.Turns.{Held}
use Rattle.circles.specs.Marks.{slots_most}

-- the lent arrays have their places: 4,096 slots, and one end more
pub record Scratch (a b left rule label members ends : List ℕ) : Type 0 where
  pub firsts : length a ≡ slots_most
  pub seconds : length b ≡ slots_most
  pub lefts : slots_most ≤ length left
  pub rules : slots_most ≤ length rule
  pub labels : slots_most ≤ length label
  pub listed : slots_most ≤ length members
  pub ended : 4097 ≤ length ends

-- what is written, with what was there before: the wiring of the tree, and the circles of what it holds
pub record Prepared (t ns a₀ b₀ left₀ rule₀ label₀ members₀ ends₀ a b left rule label members ends : List ℕ) (count : ℕ) : Type 0 where
  pub wired : Wired t ns a₀ b₀ left₀ rule₀ a b left rule
  pub laid : Laid (graph_of (8 * length ns) a b) label₀ members₀ ends₀ label members ends count

-- what the test for 21 asks of the arrays of n slots: room, and rules within the table
pub record Tested (n : ℕ) (b rule label : List ℕ) : Type 0 where
  pub seconds : n ≤ length b
  pub rules : n ≤ length rule
  pub labels : n ≤ length label
  pub ruled : (x : ℕ) → x < n → get_or rule x 0 < 1280

-- the arrays that are prepared are so
abbrev pub PreparedTested : Type 0
PreparedTested = (t ns a₀ b₀ left₀ rule₀ label₀ members₀ ends₀ a b left rule label members ends : List ℕ) (count : ℕ) → Held t ns
    → Prepared t ns a₀ b₀ left₀ rule₀ label₀ members₀ ends₀ a b left rule label members ends count → Tested (8 * length ns) b rule label
