-- Frames: the numbers of a line, and what frame they make. Assumes nothing.
use Rattle.std.specs.Prelude.{ℕ, ◌+◌, ◌*◌, cond, List, ltb, eqb}
use Rattle.text_line.specs.Hex.{num_at}
use Rattle.text_line.specs.Text.{line_at}
use Rattle.text_line.specs.declared.Line.{Line}
use Rattle.text_line.specs.declared.Line.TheVariants.{Digits, Bad, End}
use Rattle.refusal.specs.declared.Refusal.TheVariants as why
use Rattle.text_frame.specs.declared.Frame.{Frame}
use Rattle.text_frame.specs.declared.Frame.TheVariants.{Rule, Node, Point, Change, Dump, Refused, Over}
use Rattle.text_frame.specs.declared.Rule.TheVariants.{Header, Symbol, Production, Equation}
use Rattle.text_frame.specs.declared.Change.TheVariants.{Load, Replace, Corrections}
use Rattle.text_frame.specs.declared.Step.{Step}

-- 14.14: what a line is refused by whose type is unknown or whose length is not that type's
abbrev pub wrong_length : ℕ → Frame
wrong_length line = Refused why.Frame line

-- 14.14: f where the line has the digits that its kind asks for, else refusal 14
abbrev pub sized : ℕ → ℕ → ℕ → Frame → Frame
sized n asked line f = cond (eqb n asked) f (wrong_length line)

-- 17.1: child j of count, 0 where there is none
abbrev pub child_at : List ℕ → ℕ → ℕ → ℕ → ℕ
child_at s place count j = cond (ltb j count) (num_at 2 s (place + (6 + 2 * j))) 0

-- 17.1: `08`, a dump, which has no fields
unfoldable pub dump_of : ℕ → ℕ → Frame
dump_of n line = sized n 2 line Dump

-- 17.1: each kind, by the line's text and place, its digits and its number
module _ (s : List ℕ) (place n line : ℕ) where
  -- 17.1: `01`, a table's header: the numbers of its symbols and of its productions
  unfoldable pub header_of : Frame
  header_of = sized n 6 line (Rule (Header (num_at 2 s (place + 2)) (num_at 2 s (place + 4))))

  -- 17.1: `02`, a symbol: the numbers of its sets of either kind
  unfoldable pub symbol_of : Frame
  symbol_of = sized n 6 line (Rule (Symbol (num_at 2 s (place + 2)) (num_at 2 s (place + 4))))

  -- 17.1, 17.3: `03`, a production: its left symbol and so many children, of which the first four are kept; a count above 4 is for the table's judgement
  unfoldable pub production_of : Frame
  production_of = cond (ltb n 6) (wrong_length line) (sized n (6 + 2 * num_at 2 s (place + 4)) line (Rule (Production (num_at 2 s (place + 2)) (num_at 2 s (place + 4))
      (record { one = child_at s place (num_at 2 s (place + 4)) 0; two = child_at s place (num_at 2 s (place + 4)) 1; three = child_at s place (num_at 2 s (place + 4)) 2; four = child_at s place (num_at 2 s (place + 4)) 3 }))))

  -- 17.1: `04`, an equation: its operation, where a and b stand, and c
  unfoldable pub equation_of : Frame
  equation_of = sized n 28 line (Rule (Equation (num_at 2 s (place + 2)) (record { position = num_at 2 s (place + 4); index = num_at 2 s (place + 6) })
      (record { position = num_at 2 s (place + 8); index = num_at 2 s (place + 10) }) (num_at 16 s (place + 12))))

  -- 17.1: `05`, a node: its production's number and its own set
  unfoldable pub node_of : Frame
  node_of = sized n 20 line (Node (num_at 2 s (place + 2)) (num_at 16 s (place + 4)))

  -- 17.1: `06`, a load of so many nodes
  unfoldable pub load_of : Frame
  load_of = sized n 6 line (Change (Load (num_at 4 s (place + 2))))

  -- 17.1: `07`, a replacement: the point, and how many nodes come for it
  unfoldable pub replace_of : Frame
  replace_of = sized n 10 line (Change (Replace (num_at 4 s (place + 2)) (num_at 4 s (place + 6))))

  -- 17.1: `09`, a replacement at so many points
  unfoldable pub corrections_of : Frame
  corrections_of = sized n 4 line (Change (Corrections (num_at 2 s (place + 2))))

  -- 17.1: `0b`, one of those points, with how many nodes come for it
  unfoldable pub correction_of : Frame
  correction_of = sized n 10 line (Point (num_at 4 s (place + 2)) (num_at 4 s (place + 6)))

  -- 14.14, 17.1: the frame by its type; 0a is none
  unfoldable pub kind_of : ℕ → Frame
  kind_of t =
      cond (eqb t 1) header_of (cond (eqb t 2) symbol_of (cond (eqb t 3) production_of (cond (eqb t 4) equation_of
      (cond (eqb t 5) node_of (cond (eqb t 6) load_of (cond (eqb t 7) replace_of (cond (eqb t 8) (dump_of n line)
      (cond (eqb t 9) corrections_of (cond (eqb t 11) correction_of (wrong_length line))))))))))

  -- 16.2: the type stands first
  unfoldable pub frame_of : Frame
  frame_of = kind_of (num_at 2 s place)

-- 16.3: the number of the line behind, which stays at ffffffff
abbrev pub line_after : ℕ → ℕ
line_after line = cond (ltb line 0xffff_ffff) (line + 1) line

-- 16.4, 16.5, 19.6: the frame of a line that was found, or why there is none; and where reading goes on, with that line's number. 13 is asked for ahead of 14
abbrev pub step_of : List ℕ → ℕ → ℕ → Line → Step
step_of s place line (Digits n) = record { frame = frame_of s place n line; place = place + (n + 1); line = line_after line }
step_of s place line Bad = record { frame = Refused why.Line line; place = place; line = line }
step_of s place line End = record { frame = Over; place = place; line = line }

-- 16.4: what a reader finds at a place of a text, where a line of that number starts
unfoldable pub frame_at : List ℕ → ℕ → ℕ → Step
frame_at s place line = step_of s place line (line_at s place)
