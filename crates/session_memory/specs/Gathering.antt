-- Bytes of a piece behind those of a begun line, as many as decide it: 28 digits and LF at the most, and so 29 bytes. Assumes nothing.
use Rattle.std.specs.Prelude.{◌≡◌, Bool, true, false, List, ◌++◌, ℕ, ◌+◌, ◌-◌, ◌≤◌, ◌<◌, length, take, drop}
use Rattle.session_owed.specs.Owed.{Begun, Whole}

-- 20.5, 20.6: n bytes of the line have come then, and the piece is taken up to `place`
pub record Gathers (piece : List ℕ) (from : ℕ) (window : List ℕ) (begun n place : ℕ) (whole : Bool) (window' : List ℕ) : Type 0 where
  pub forward : from ≤ place
  pub count : n ≡ begun + (place - from)
  -- they stand behind the others, and nothing else of the window is changed
  pub taken : take n window' ≡ take begun window ++ take (place - from) (drop from piece)
  pub rest : drop n window' ≡ drop n window
  -- the line is decided, by a byte of the piece at the latest, or the piece is used up
  pub decided : whole ≡ true → Whole (take n window')
  pub moved : whole ≡ true → (from < place) × (place ≤ length piece)
  pub waits : whole ≡ false → Begun (take n window')
  pub used : whole ≡ false → place ≡ from + (length piece - from)

-- 20.5: there are always such bytes, and a window that is as long as it was
pub record Gathering (piece : List ℕ) (from : ℕ) (window : List ℕ) (begun : ℕ) : Type 0 where
  pub count : ℕ
  pub place : ℕ
  pub whole : Bool
  pub then : List ℕ
  pub gathers : Gathers piece from window begun count place whole then
  pub size : length then ≡ length window

-- 20.5: for every piece, and every line that has begun
abbrev pub AlwaysGathers : Type 0
AlwaysGathers = (piece : List ℕ) (from : ℕ) (window : List ℕ) (begun : ℕ) → 29 ≤ length window → begun ≤ 28 → Begun (take begun window) → Gathering piece from window begun
