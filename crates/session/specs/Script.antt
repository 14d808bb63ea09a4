-- A text's commands, read and not performed: what each asks for, at its line, and how they end. Assumes nothing.
use Rattle.std.specs.Prelude.{List, [], ◌∷◌, ℕ, zero, suc, length}
use Rattle.refusal.specs.declared.Refusal.{Refusal}
use Rattle.refusal.specs.declared.Refusal.TheVariants as why
use Rattle.tree.specs.Points.{Part}
use Rattle.tree.specs.Handed.{announced, handed_row}
use Rattle.text_frame.specs.declared.Frame.{Frame}
use Rattle.text_frame.specs.declared.Frame.TheVariants.{Rule, Node, Point as PointFrame, Change, Dump, Refused, Over}
use Rattle.text_frame.specs.declared.Change as change
use Rattle.text_frame.specs.declared.Change.TheVariants.{Load, Replace, Corrections}
use Rattle.text_frame.specs.Frames.{frame_at}
use Rattle.text_table.specs.Reading as table
use Rattle.text_table.specs.Reading.{Reading, reading_at}
use Rattle.text_tree.specs.Planting.{Nodes, good, bad, nodes_at}
use Rattle.session.specs.Naming.{Named, named, unnamed, points_at}

-- 17.4, 17.7: what a command asks for: a tree to load, parts with their points, or the sets
pub data Asked : Type 0 where
  load : (ns owns : List ℕ) → Asked
  replace : (ps : List Part) → Asked
  dump : Asked

-- 19.5: commands one behind the other, each at its line; then the text is over between two of them, or a line of one is bad
pub data Script : Type 0 where
  over : Script
  stops : (refusal : Refusal) (line : ℕ) → Script
  asks : (line : ℕ) (asked : Asked) (rest : Script) → Script

-- ---- a command, and behind it the rest of the text from a place and a line on

-- what is asked for with the nodes that were read, or the bad line among theirs
abbrev pub nodes_ask : ℕ → Nodes → (List ℕ → List ℕ → Asked) → (ℕ → ℕ → Script) → Script
nodes_ask line (good ns owns place next) ask rest = asks line (ask ns owns) (rest place next)
nodes_ask line (bad refusal at) ask rest = stops refusal at

-- 9.10: the nodes of all parts come behind the points
abbrev pub parts_ask : ℕ → List ℕ → Named → (ℕ → ℕ → Script) → Script
parts_ask line s (named qs place next) rest = nodes_ask line (nodes_at (announced qs) s place next) (λ ns owns. replace (handed_row qs ns owns)) rest
parts_ask line s (unnamed refusal at) rest = stops refusal at

-- 9.12: one point is a row of one
abbrev pub one_part : ℕ → List ℕ → List ℕ → List Part
one_part point ns owns = record { point = point; nodes = ns; owns = owns } ∷ []

-- 17.4, 17.5: a command that changes the tree; the text goes on behind its first frame at `place`, with the line `next`
abbrev pub change_asks : List ℕ → change.Change → ℕ → ℕ → ℕ → (ℕ → ℕ → Script) → Script
change_asks s (Load count) line place next rest = nodes_ask line (nodes_at count s place next) load rest
change_asks s (Replace point count) line place next rest = nodes_ask line (nodes_at count s place next) (λ ns owns. replace (one_part point ns owns)) rest
change_asks s (Corrections count) line place next rest = parts_ask line s (points_at count s place next) rest

-- 17.7, 19.1: a line where a command is to begin
abbrev pub command_asks : List ℕ → Frame → ℕ → ℕ → ℕ → (ℕ → ℕ → Script) → Script
command_asks s (Change c) line place next rest = change_asks s c line place next rest
command_asks s Dump line place next rest = asks line dump (rest place next)
command_asks s Over line place next rest = over
command_asks s (Refused refusal at) line place next rest = stops refusal at
command_asks s (Rule a) line place next rest = stops why.Frame line
command_asks s (Node a b) line place next rest = stops why.Frame line
command_asks s (PointFrame a b) line place next rest = stops why.Frame line

-- n commands at the most
unfoldable pub script_from : ℕ → List ℕ → ℕ → ℕ → Script
script_from zero s place line = over
script_from (suc n) s place line = let step = frame_at s place line in command_asks s step.frame line step.place step.line (script_from n s)

-- ---- a whole text

-- its table and its commands, or why it has no table
pub data Day : Type 0 where
  no_table : (refusal : Refusal) (line : ℕ) → Day
  day : (t : List ℕ) (script : Script) → Day

abbrev pub behind_table : List ℕ → Reading → Day
behind_table s (table.done t place line) = day t (script_from (length s) s place line)
behind_table s (table.stop refusal line) = no_table refusal line

-- every command has a byte at least
unfoldable pub day_of : List ℕ → Day
day_of s = behind_table s (reading_at s 0 1)
