-- The points of a command: its `0b` frames, one a line. Assumes nothing.
use Rattle.std.specs.Prelude.{ℕ, zero, suc, List, [], ◌∷◌}
use Rattle.refusal.specs.declared.Refusal.{Refusal}
use Rattle.refusal.specs.declared.Refusal.TheVariants as why
use Rattle.tree.specs.declared.Point.{Point}
use Rattle.text_frame.specs.Frames.{frame_at}
use Rattle.text_frame.specs.declared.Frame.{Frame}
use Rattle.text_frame.specs.declared.Frame.TheVariants.{Rule, Node, Point as PointFrame, Change, Dump, Refused, Over}

-- points, each with the count of its part, and where the text behind them starts; or the first line that is no point's
pub data Named : Type 0 where
  named : List Point → ℕ → ℕ → Named
  unnamed : Refusal → ℕ → Named

-- a point before those behind it
abbrev pub point_before : Point → Named → Named
point_before q (named qs place line) = named (q ∷ qs) place line
point_before q (unnamed refusal line) = unnamed refusal line

-- 14.14, 17.7: by a line's frame: a point before those behind it; the refusal of any other, 14 where it has none of its own
abbrev pub point_then : Frame → ℕ → Named → Named
point_then (Rule a) line rest = unnamed why.Frame line
point_then (Node a b) line rest = unnamed why.Frame line
point_then (PointFrame point count) line rest = point_before (record { node = point; count = count }) rest
point_then (Change a) line rest = unnamed why.Frame line
point_then Dump line rest = unnamed why.Frame line
point_then (Refused refusal own) line rest = unnamed refusal own
point_then Over line rest = unnamed why.Frame line

-- 17.5: the points of n lines from a place on
unfoldable pub points_at : ℕ → List ℕ → ℕ → ℕ → Named
points_at zero s place line = named [] place line
points_at (suc n) s place line = point_then (frame_at s place line).frame line (points_at n s (frame_at s place line).place (frame_at s place line).line)
