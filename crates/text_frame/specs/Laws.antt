-- What is promised of frames: windows, and that what is written is read and what is read is written. Assumes nothing.
use Rattle.std.specs.Prelude.{◌≡◌, List, ◌++◌, ℕ, zero, suc, ◌+◌, ◌^◌, ◌≤◌, ◌<◌, length, take, drop}
use Rattle.text_frame.specs.Frames.{frame_at, line_after}
use Rattle.text_frame.specs.Text.{text_of}
use Rattle.text_frame.specs.declared.Children.{Children}
use Rattle.text_frame.specs.declared.Step.{Step}
use Rattle.text_frame.specs.declared.Frame.{Frame}
use Rattle.text_frame.specs.declared.Frame.TheVariants.{Rule, Node, Point, Change, Dump, Refused, Over}
use Rattle.text_frame.specs.declared.Rule.TheVariants.{Header, Symbol, Production, Equation}
use Rattle.text_frame.specs.declared.Change.TheVariants.{Load, Replace, Corrections}

-- a step of a text that starts n bytes further on
abbrev pub shifted : ℕ → Step → Step
shifted n r = record { frame = r.frame; place = n + r.place; line = r.line }

-- 20.5: 29 bytes decide a frame, and a text in front only shifts it: so a window reads as the whole text does
pub record Windows : Type 0 where
  pub ahead : (s t : List ℕ) (place line : ℕ) → place + 29 ≤ length s → frame_at (s ++ t) place line ≡ frame_at s place line
  pub behind : (s t : List ℕ) (place line : ℕ) → frame_at (s ++ t) (length s + place) line ≡ shifted (length s) (frame_at t place line)

-- the children that a production has fit a byte, and those that it has not are 0
pub record Kids (n : ℕ) (cs : Children) : Type 0 where
  pub one : cs.one < 2 ^ 8
  pub two : cs.two < 2 ^ 8
  pub three : cs.three < 2 ^ 8
  pub four : cs.four < 2 ^ 8
  pub none : n ≤ 0 → cs.one ≡ 0
  pub single : n ≤ 1 → cs.two ≡ 0
  pub double : n ≤ 2 → cs.three ≡ 0
  pub triple : n ≤ 3 → cs.four ≡ 0

-- 17.1, 17.3: a frame that has a text: a kind whose fields fit their bytes; a production has four children at most
abbrev pub Fits : Frame → Type 0
Fits (Rule (Header a b)) = (a < 2 ^ 8) × (b < 2 ^ 8)
Fits (Rule (Symbol a b)) = (a < 2 ^ 8) × (b < 2 ^ 8)
Fits (Rule (Production l n cs)) = (l < 2 ^ 8) × ((n ≤ 4) × Kids n cs)
Fits (Rule (Equation op a b c)) = (op < 2 ^ 8) × (((a.position < 2 ^ 8) × (a.index < 2 ^ 8)) × (((b.position < 2 ^ 8) × (b.index < 2 ^ 8)) × (c < 2 ^ 64)))
Fits (Node p o) = (p < 2 ^ 8) × (o < 2 ^ 64)
Fits (Change (Load n)) = n < 2 ^ 16
Fits (Change (Replace r n)) = (r < 2 ^ 16) × (n < 2 ^ 16)
Fits Dump = Unit {0}
Fits (Change (Corrections n)) = n < 2 ^ 8
Fits (Point r n) = (r < 2 ^ 16) × (n < 2 ^ 16)
Fits (Refused r l) = ⊥
Fits Over = ⊥

-- 21.7: what is written is read
abbrev pub Back : Type 0
Back = (f : Frame) (rest : List ℕ) (line : ℕ) → Fits f → frame_at (text_of f ++ rest) 0 line ≡ record { frame = f; place = length (text_of f); line = line_after line }

-- 21.8: what is read is written: the bytes that the frame was read from, and no others
pub record Forth (s : List ℕ) (place line : ℕ) (f : Frame) : Type 0 where
  pub text : take (length (text_of f)) (drop place s) ≡ text_of f
  pub behind : (frame_at s place line).place ≡ place + length (text_of f)
  pub next : (frame_at s place line).line ≡ line_after line

-- 21.8: so of every frame that has a text
abbrev pub ForthAll : Type 0
ForthAll = (s : List ℕ) (place line : ℕ) → Fits (frame_at s place line).frame → Forth s place line (frame_at s place line).frame

-- 16.3: the number of the line that is n lines further on
abbrev pub lines_after : ℕ → ℕ → ℕ
lines_after zero line = line
lines_after (suc n) line = lines_after n (line_after line)
