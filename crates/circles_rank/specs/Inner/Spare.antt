-- The memory that a ranking is lent for its own use. Assumes nothing.
use Rattle.std.specs.Prelude.{ℕ, ◌*◌, ◌≤◌, ◌≡◌, List, get_or, length}
use Rattle.circles_find.specs.Inner.Search.{Blank}

-- there is room for n slots in each array; those that are looked into before they are written say none, and nothing is taken
pub record Spare (n : ℕ) (first next slots queue after stage rep seen low taken : List ℕ) : Type 0 where
  pub firsts : Blank n first
  pub nexts : 2 * n ≤ length next
  pub listed : n ≤ length slots
  pub queued : n ≤ length queue
  pub afters : n ≤ length after
  pub stages : n ≤ length stage
  pub reps : Blank n rep
  pub marks : Blank n seen
  pub lows : Blank n low
  pub flags : n ≤ length taken
  pub untaken : (y : ℕ) → get_or taken y 0 ≡ 1 → ⊥
  pub reps_queued : length rep ≤ length queue
  pub marks_queued : length seen ≤ length queue
