-- What the arrays of a tree's wiring and of its ranked circles hold, as the steps of an update ask for it. Assumes nothing.
use Rattle.std.specs.Prelude.{◌≡◌, List, ℕ, ◌*◌, ◌≤◌, length}
use Rattle.climb.specs.System as system
use Rattle.climb.specs.Inner.Wired.{wired, Wiring}
use Rattle.circles.specs.Ranked.{ranked}
use Rattle.wire.specs.Instances.{system as system_of}
use Rattle.wire.specs.Inner.ArrayLaws.{SameSystem}
use Rattle.wire.specs.Inner.Turns.{Held}
pub use Rattle.wire_plan.specs.Inner.Prepared.{Scratch, Prepared}
use Rattle.update_round.specs.Inner.Arranged.{circles_in, Circles}

-- 4.4, 6.1: the arrays hold the system of the table and the tree on n slots, with its ranked circles: what steps and runs ask for
pub record ArraysHold (t ns owns : List ℕ) (n : ℕ) (a b left rule label members ends : List ℕ) (count : ℕ) : Type 0 where
  pub wiring : Wiring owns a b left rule n
  pub circles : Circles n a b label members ends count
  pub alike : SameSystem (wired n t owns a b left rule) (system_of t ns owns)
  pub ranks : circles_in n a b ≡ ranked (system.graph_of (system_of t ns owns))

abbrev pub PreparedHolds : Type 0
PreparedHolds = (t ns owns a₀ b₀ left₀ rule₀ label₀ members₀ ends₀ a b left rule label members ends : List ℕ) (count n : ℕ) → Held t ns → length ns ≤ length owns
    → n ≡ 8 * length ns → Prepared t ns a₀ b₀ left₀ rule₀ label₀ members₀ ends₀ a b left rule label members ends count → ArraysHold t ns owns n a b left rule label members ends count
