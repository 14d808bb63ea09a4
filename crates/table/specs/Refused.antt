-- A table gets each number exactly when that number is due to its first bad frame. Assumes nothing.
use Rattle.std.specs.Prelude.{ℕ, ◌<◌, ◌≤◌, ◌≡◌, Bool, true, false, ◌↔◌, get_or}
use mathlib.Core.List.{List, ◌∷◌, ◌++◌, Memᴰ}
use Rattle.table.specs.Judge.{Frame, conditions, frames, judge_table}

-- 14.1 to 14.5: number n's condition holds at a frame: conditions are numbered from 1
unfoldable pub breaks : List ℕ → Frame → ℕ → Bool
breaks t x n = get_or (false ∷ conditions t x) n false

-- 15.3: n is the lowest number whose condition holds at x
pub record Lowest (t : List ℕ) (x : Frame) (n : ℕ) : Type 0 where
  pub holds : breaks t x n ≡ true
  pub lower : (m : ℕ) → m < n → breaks t x m ≡ false

-- 15.3: at some frame n's condition holds and no lower number's, and at no earlier frame does any
pub record Refused (t : List ℕ) (n : ℕ) : Type 0 where
  pub before : List Frame
  pub frame : Frame
  pub behind : List Frame
  pub order : frames t ≡ before ++ (frame ∷ behind)
  pub lowest : Lowest t frame n
  pub earlier : (y : Frame) → Memᴰ y before → (m : ℕ) → breaks t y m ≡ false

-- 15.2: a table is sound exactly when no condition of 1 to 5 holds at any of its frames
abbrev pub UnbrokenExactly : Type 0
UnbrokenExactly = (t : List ℕ) → (judge_table t ≡ 0) ↔ ((x : Frame) → Memᴰ x (frames t) → (n : ℕ) → breaks t x n ≡ false)

-- 15.2: a table is refused by n exactly then
abbrev pub RefusedExactly : Type 0
RefusedExactly = (t : List ℕ) (n : ℕ) → 0 < n → (judge_table t ≡ n) ↔ Refused t n

-- 15.11: no table is refused by another number than 1 to 5
abbrev pub FiveNumbers : Type 0
FiveNumbers = (t : List ℕ) → judge_table t ≤ 5
