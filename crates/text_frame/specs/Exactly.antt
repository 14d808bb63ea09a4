-- When a frame stands at a place of a text and which one, said without the reading of it: so when 13 and 14 are given of a frame. Assumes nothing.
use Rattle.std.specs.Prelude.{ℕ, ◌+◌, ◌*◌, ◌≤◌, ◌≡◌, ◌↔◌, List, length}
use Rattle.refusal.specs.declared.Refusal.TheVariants as why
use Rattle.text_line.specs.Hex.{num_at}
use Rattle.text_line.specs.Exactly.{IsLine, NoLine}
use Rattle.text_frame.specs.Frames.{child_at, line_after}
use Rattle.text_frame.specs.Calls.{FrameAtSays}
use Rattle.text_frame.specs.declared.Children.{Children}
use Rattle.text_frame.specs.declared.Step.{Step}
use Rattle.text_frame.specs.declared.Frame.{Frame}
use Rattle.text_frame.specs.declared.Frame.TheVariants.{Rule, Node, Point, Change, Dump, Refused, Over}
use Rattle.text_frame.specs.declared.Rule.TheVariants.{Header, Symbol, Production, Equation}
use Rattle.text_frame.specs.declared.Change.TheVariants.{Load, Replace, Corrections}

-- ---- the frames

-- 17.3: of a production with so many children the first four
abbrev pub children_at : List ℕ → ℕ → ℕ → Children
children_at s place count = record { one = child_at s place count 0; two = child_at s place count 1; three = child_at s place count 2; four = child_at s place count 3 }

-- 17.1: each frame with its type and the number of its digits; its fields are the numbers that stand in the line behind the type. A production's length goes
-- by how many children it says it has
pub data Fields (s : List ℕ) (place : ℕ) : Frame → ℕ → ℕ → Type 0 where
  header : Fields s place (Rule (Header (num_at 2 s (place + 2)) (num_at 2 s (place + 4)))) 1 6
  symbol : Fields s place (Rule (Symbol (num_at 2 s (place + 2)) (num_at 2 s (place + 4)))) 2 6
  production : Fields s place (Rule (Production (num_at 2 s (place + 2)) (num_at 2 s (place + 4)) (children_at s place (num_at 2 s (place + 4))))) 3 (6 + 2 * num_at 2 s (place + 4))
  equation : Fields s place (Rule (Equation (num_at 2 s (place + 2)) (record { position = num_at 2 s (place + 4); index = num_at 2 s (place + 6) })
      (record { position = num_at 2 s (place + 8); index = num_at 2 s (place + 10) }) (num_at 16 s (place + 12)))) 4 28
  node : Fields s place (Node (num_at 2 s (place + 2)) (num_at 16 s (place + 4))) 5 20
  load : Fields s place (Change (Load (num_at 4 s (place + 2)))) 6 6
  replace : Fields s place (Change (Replace (num_at 4 s (place + 2)) (num_at 4 s (place + 6)))) 7 10
  dump : Fields s place Dump 8 2
  corrections : Fields s place (Change (Corrections (num_at 2 s (place + 2)))) 9 4
  correction : Fields s place (Point (num_at 4 s (place + 2)) (num_at 4 s (place + 6))) 11 10

-- 17.1: the frame f stands there: a line of n digits which begin with the type's number, and n is the length that goes with it
pub record IsFrame (s : List ℕ) (place : ℕ) (f : Frame) (type n : ℕ) : Type 0 where
  pub line : IsLine s place n
  pub begins : num_at 2 s place ≡ type
  pub fields : Fields s place f type n

-- 14.14: a line stands there which is no frame: it is of no type, or of another length than its type has
pub record NoFrame (s : List ℕ) (place n : ℕ) : Type 0 where
  pub line : IsLine s place n
  pub none : (f : Frame) (type : ℕ) → IsFrame s place f type n → ⊥

-- 14.14: where a frame of one type is expected, the text is over, or a line stands there which is no frame of that type
pub data Astray (s : List ℕ) (place type : ℕ) : Type 0 where
  ended : length s ≤ place → Astray s place type
  other : {n : ℕ} → IsLine s place n → ((f : Frame) (m : ℕ) → IsFrame s place f type m → ⊥) → Astray s place type

-- ---- exactly when

-- 16.4, 16.5: what is found at a place, and the place and the line behind it: nothing where the text is over, 13 where there is no line, 14 where the line is no
-- frame, and else the frame
pub data Finds (s : List ℕ) (place line : ℕ) : Step → Type 0 where
  over : length s ≤ place → Finds s place line (record { frame = Over; place = place; line = line })
  by13 : NoLine s place → Finds s place line (record { frame = Refused why.Line line; place = place; line = line })
  by14 : {n : ℕ} → NoFrame s place n → Finds s place line (record { frame = Refused why.Frame line; place = place + (n + 1); line = line_after line })
  frame : {f : Frame} {type n : ℕ} → IsFrame s place f type n → Finds s place line (record { frame = f; place = place + (n + 1); line = line_after line })

-- 14.13, 14.14: an answer fits what `frame_at` says exactly when it is that; so each refusal is given exactly then, with the number of that line
abbrev pub FrameExactly : Type 0
FrameExactly = (s : List ℕ) (place line : ℕ) (a : Step) → FrameAtSays s place line a ↔ Finds s place line a
