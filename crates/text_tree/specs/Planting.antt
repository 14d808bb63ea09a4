-- Reading a tree from text: its `06` frame and its nodes. Assumes nothing.
use Rattle.std.specs.Prelude.{ℕ, zero, suc, List, [], ◌∷◌}
use Rattle.refusal.specs.declared.Refusal.{Refusal}
use Rattle.refusal.specs.declared.Refusal.TheVariants as why
use Rattle.text_frame.specs.Frames.{frame_at}
use Rattle.text_frame.specs.declared.Frame.{Frame}
use Rattle.text_frame.specs.declared.Frame.TheVariants.{Rule, Node, Point, Change, Dump, Refused, Over}
use Rattle.text_frame.specs.declared.Change.TheVariants.{Load, Replace, Corrections}

-- nodes, and where the text behind them starts; or the first line that is no node's
pub data Nodes : Type 0 where
  good : List ℕ → List ℕ → ℕ → ℕ → Nodes
  bad : Refusal → ℕ → Nodes

abbrev pub node_before : ℕ → ℕ → Nodes → Nodes
node_before p o (good ps owns place line) = good (p ∷ ps) (o ∷ owns) place line
node_before p o (bad refusal line) = bad refusal line

-- 14.14, 17.7: by a line's frame: a node before those behind it; the refusal of any other, 14 where it has none of its own
abbrev pub node_then : Frame → ℕ → Nodes → Nodes
node_then (Rule a) line rest = bad why.Frame line
node_then (Node p o) line rest = node_before p o rest
node_then (Point a b) line rest = bad why.Frame line
node_then (Change a) line rest = bad why.Frame line
node_then Dump line rest = bad why.Frame line
node_then (Refused refusal own) line rest = bad refusal own
node_then Over line rest = bad why.Frame line

-- 17.4: the nodes of n lines from a place on
unfoldable pub nodes_at : ℕ → List ℕ → ℕ → ℕ → Nodes
nodes_at zero s place line = good [] [] place line
nodes_at (suc n) s place line = node_then (frame_at s place line).frame line (nodes_at n s (frame_at s place line).place (frame_at s place line).line)

-- 14.14, 17.7: a command's nodes by its frame, which is to be a load's
abbrev pub load_then : Frame → ℕ → (ℕ → Nodes) → Nodes
load_then (Rule a) line rest = bad why.Frame line
load_then (Node a b) line rest = bad why.Frame line
load_then (Point a b) line rest = bad why.Frame line
load_then (Change (Load n)) line rest = rest n
load_then (Change (Replace a b)) line rest = bad why.Frame line
load_then (Change (Corrections a)) line rest = bad why.Frame line
load_then Dump line rest = bad why.Frame line
load_then (Refused refusal own) line rest = bad refusal own
load_then Over line rest = bad why.Frame line

-- 17.4, 21.2: the tree's lines at a place: a `06`, and the nodes that it announces
unfoldable pub tree_at : List ℕ → ℕ → ℕ → Nodes
tree_at s place line = load_then (frame_at s place line).frame line (λ n. nodes_at n s (frame_at s place line).place (frame_at s place line).line)
