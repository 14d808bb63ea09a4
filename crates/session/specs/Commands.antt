-- A session as a relation between its text and what is printed for it: the table, the commands, and what our engine holds between them. No number bounds its
-- frames, commands or steps, and it has no case for what never comes. Assumes nothing.
use Rattle.std.specs.Prelude.{◌≡◌, Bool, true, false, List, [], ◌∷◌, ◌++◌, ℕ, ◌+◌, ◌-◌, ◌≤◌, ◌<◌, length}
use Rattle.refusal.specs.Numbers.{number_of}
use Rattle.refusal.specs.declared.Refusal.{Refusal}
use Rattle.tree.specs.declared.Point.{Point}
use Rattle.tree.specs.Tree.{nodes_most, judge_tree}
use Rattle.tree.specs.Points.{Part, nodes_row, owns_row, leaving_row, coming_row}
use Rattle.tree.specs.PointLaws.{Overlap}
use Rattle.tree.specs.Handed.{announced, cut_row}
use Rattle.wire.specs.Waivers.{Waiver, Free}
use Rattle.update.specs.declared.Record.{Record}
use Rattle.update.specs.Records.{empty_record}
use Rattle.update.specs.Memories.{Memory}
use Rattle.update.specs.Refusals.{parts_refusal, Miscounted, Counted, Missing, Present, Separate}
use Rattle.update.specs.Calls.{Said, said, Left, Opened, is_open, load_call, points_call}
use Rattle.demands.specs.Engine.{ours}
use Rattle.demands.specs.History.{WorkedToDone, History}
use Rattle.text_frame.specs.declared.Frame.{Frame}
use Rattle.text_frame.specs.declared.Frame.TheVariants.{Rule, Node, Point as PointFrame, Change, Dump, Refused, Over}
use Rattle.text_frame.specs.declared.Change as change
use Rattle.text_frame.specs.declared.Change.TheVariants.{Load, Replace, Corrections}
use Rattle.text_frame.specs.Frames.{frame_at}
use Rattle.text_frame.specs.Out.{refusal_text}
use Rattle.text_table.specs.Reading as table
use Rattle.text_table.specs.Refused.{TableRead}
use Rattle.text_tree.specs.Planting.{Nodes, good, bad, nodes_at}
use Rattle.session.specs.Naming.{named, unnamed, points_at}
use Rattle.session.specs.Session.{session, own_memory}
use Rattle.session.specs.Lines.{LoadText, ReplacementText, SetsText}

-- ---- between two commands

-- the tree that is held: its nodes and own sets
pub data TreeHeld : Type 0 where
  no_tree : TreeHeld
  tree : (ns owns : List ℕ) → TreeHeld

-- 19.9, 19.10: and the engine's record and memory then: as at first, or as a history of our engine leaves them that ends with that tree
pub data Between (t : List ℕ) : TreeHeld → Record → Memory → Type 0 where
  at_first : Between t no_tree empty_record own_memory
  behind_history : {ns owns : List ℕ} {r : Record} {m : Memory} → History ours t ns owns r m → Between t (tree ns owns) r m

-- ---- the number that a load or a replacement gets in a session, 0 where it is accepted. By 19.10 nothing else that their orders name comes between two
-- commands: the memory is long enough, there is nothing unsound in it, and no update is open

-- 15.5, 15.6: nodes that there is room for: 6 or 7 by what was handed over, else 21 where the tree that they make has a waiver in a circle
pub data TreeNumber (t ns : List ℕ) (handed : ℕ) : ℕ → Type 0 where
  misshapen : 0 < handed → TreeNumber t ns handed handed
  waived : handed ≡ 0 → Waiver t ns → TreeNumber t ns handed 21
  sound : handed ≡ 0 → Free t ns → TreeNumber t ns handed 0

-- 15.5, 19.10: a load: 8 for too many nodes, else the number of the tree
pub data LoadNumber (t ns owns : List ℕ) : ℕ → Type 0 where
  too_many : nodes_most < length ns → LoadNumber t ns owns 8
  judged : {n : ℕ} → length ns ≤ nodes_most → TreeNumber t ns (judge_tree t ns owns 0) n → LoadNumber t ns owns n

-- 15.6, 15.7, 19.10: a replacement: 22 for no point or more than eight, 16 where no tree is held, 9 for a point outside it, 23 for points that meet, 8 where the
-- tree would have too many nodes, else the number of the first part that has one, whose root is to have the symbol of its point, and of the tree with the parts
-- in their places
pub data ReplaceNumber (t : List ℕ) (ps : List Part) : TreeHeld → ℕ → Type 0 where
  miscounted : {h : TreeHeld} → Miscounted ps → ReplaceNumber t ps h 22
  absent : Counted ps → ReplaceNumber t ps no_tree 16
  outside : {ns owns : List ℕ} → Counted ps → Missing (length ns) ps → ReplaceNumber t ps (tree ns owns) 9
  meeting : {ns owns : List ℕ} → Counted ps → Present (length ns) ps → Overlap t ns ps → ReplaceNumber t ps (tree ns owns) 23
  too_many : {ns owns : List ℕ} → Counted ps → Present (length ns) ps → Separate t ns ps → nodes_most < length ns - leaving_row t ns ps + coming_row ps
      → ReplaceNumber t ps (tree ns owns) 8
  judged : {ns owns : List ℕ} {n : ℕ} → Counted ps → Present (length ns) ps → Separate t ns ps → length ns - leaving_row t ns ps + coming_row ps ≤ nodes_most
      → TreeNumber t (nodes_row t ns ps) (parts_refusal t ns ps) n → ReplaceNumber t ps (tree ns owns) n

-- ---- a command of the text s, its first line at a place with a number

-- 17.4: a load or a replacement by its frame, and what was read for the lines behind it: its nodes with the place and the line that come next, or a bad line
pub record CommandAt (s : List ℕ) (place line : ℕ) (kind : ℕ → change.Change) (nodes : Nodes) : Type 0 where
  pub count : ℕ
  pub frame : (frame_at s place line).frame ≡ Change (kind count)
  pub found : nodes_at count s (frame_at s place line).place (frame_at s place line).line ≡ nodes

-- 17.4, 17.5: a replacement by its frames, `07` with one point or `09` with as many as it says: the parts, with the place and the line that come next
pub data RowAt (s : List ℕ) (place line : ℕ) : List Part → ℕ → ℕ → Type 0 where
  one : {new new_owns : List ℕ} {place' line' : ℕ} (point : ℕ) → CommandAt s place line (Replace point) (good new new_owns place' line')
      → RowAt s place line (record { point = point; nodes = new; owns = new_owns } ∷ []) place' line'
  several : {count place₁ line₁ place' line' : ℕ} {qs : List Point} {new new_owns : List ℕ} → (frame_at s place line).frame ≡ Change (Corrections count)
      → points_at count s (frame_at s place line).place (frame_at s place line).line ≡ named qs place₁ line₁
      → nodes_at (announced qs) s place₁ line₁ ≡ good new new_owns place' line' → RowAt s place line (cut_row qs new new_owns) place' line'

-- 19.6: or one of its lines is bad: a point's, or a node's behind all points
pub data RowStops (s : List ℕ) (place line : ℕ) (refusal : Refusal) (at : ℕ) : Type 0 where
  one : (point : ℕ) → CommandAt s place line (Replace point) (bad refusal at) → RowStops s place line refusal at
  at_point : {count : ℕ} → (frame_at s place line).frame ≡ Change (Corrections count)
      → points_at count s (frame_at s place line).place (frame_at s place line).line ≡ unnamed refusal at → RowStops s place line refusal at
  at_node : {count place₁ line₁ : ℕ} {qs : List Point} → (frame_at s place line).frame ≡ Change (Corrections count)
      → points_at count s (frame_at s place line).place (frame_at s place line).line ≡ named qs place₁ line₁
      → nodes_at (announced qs) s place₁ line₁ ≡ bad refusal at → RowStops s place line refusal at

-- 19.2, 23.2: a call that opened an update, which was worked to done: r and m are then the end of a history with the tree that was asked for
pub record UpdateDone (t : List ℕ) (left : Left (Said Opened)) (ns owns : List ℕ) (r : Record) (m : Memory) : Type 0 where
  pub opens : left.answer ≡ said is_open
  pub circles : ℕ
  pub evaluations : ℕ
  pub changed : ℕ
  pub worked : WorkedToDone ours t left.next left.memory circles evaluations changed r m
  pub history : History ours t ns owns r m

-- 19.1: the command finds a tree, a record and a memory, prints a text, and leaves a place, a line, a tree, a record and a memory to those behind it
pub data Command (s t : List ℕ) (place line : ℕ) : TreeHeld → Record → Memory → List ℕ → ℕ → ℕ → TreeHeld → Record → Memory → Type 0 where
  -- 19.4, 19.5: refused at its first line, with all as it was
  load_refused : {h : TreeHeld} {r : Record} {m : Memory} {ns owns : List ℕ} {place' line' n : ℕ} → CommandAt s place line Load (good ns owns place' line')
      → LoadNumber t ns owns n → 0 < n → Command s t place line h r m (refusal_text n line) place' line' h r m
  loads : {h : TreeHeld} {r r' : Record} {m m' : Memory} {ns owns text : List ℕ} {place' line' : ℕ} → CommandAt s place line Load (good ns owns place' line')
      → LoadNumber t ns owns 0 → UpdateDone t (load_call t m r ns owns) ns owns r' m' → LoadText t ns owns text
      → Command s t place line h r m text place' line' (tree ns owns) r' m'
  replacement_refused : {h : TreeHeld} {r : Record} {m : Memory} {ps : List Part} {place' line' n : ℕ} → RowAt s place line ps place' line' → ReplaceNumber t ps h n → 0 < n
      → Command s t place line h r m (refusal_text n line) place' line' h r m
  replaces : {r r' : Record} {m m' : Memory} {ns owns text : List ℕ} {ps : List Part} {place' line' : ℕ} → RowAt s place line ps place' line'
      → ReplaceNumber t ps (tree ns owns) 0 → UpdateDone t (points_call t m r ps) (nodes_row t ns ps) (owns_row t ns owns ps) r' m' → ReplacementText t ns owns ps text
      → Command s t place line (tree ns owns) r m text place' line' (tree (nodes_row t ns ps) (owns_row t ns owns ps)) r' m'
  -- 14.16, 19.10: refused where no tree is held
  dump_refused : {r : Record} {m : Memory} → (frame_at s place line).frame ≡ Dump
      → Command s t place line no_tree r m (refusal_text 16 line) (frame_at s place line).place (frame_at s place line).line no_tree r m
  dumps : {r : Record} {m : Memory} {ns owns text : List ℕ} → (frame_at s place line).frame ≡ Dump → SetsText t ns owns text
      → Command s t place line (tree ns owns) r m text (frame_at s place line).place (frame_at s place line).line (tree ns owns) r m

-- ---- the commands

-- 17.7: a frame of a table, a node or a point: no command begins with it
abbrev pub out_of_place : Frame → Bool
out_of_place (Rule a) = true
out_of_place (Node a b) = true
out_of_place (PointFrame a b) = true
out_of_place (Change a) = false
out_of_place Dump = false
out_of_place (Refused a b) = false
out_of_place Over = false

-- 19.5, 19.8: where they end: the text is over between two commands, or a line is bad or out of place, the command's own or one of its points' or nodes'
pub data Stops (s : List ℕ) (place line : ℕ) : List ℕ → Type 0 where
  over : (frame_at s place line).frame ≡ Over → Stops s place line []
  bad_line : {refusal : Refusal} {at : ℕ} → (frame_at s place line).frame ≡ Refused refusal at → Stops s place line (refusal_text (number_of refusal) at)
  misplaced : out_of_place (frame_at s place line).frame ≡ true → Stops s place line (refusal_text 14 line)
  bad_load : {refusal : Refusal} {at : ℕ} → CommandAt s place line Load (bad refusal at) → Stops s place line (refusal_text (number_of refusal) at)
  bad_replacement : {refusal : Refusal} {at : ℕ} → RowStops s place line refusal at → Stops s place line (refusal_text (number_of refusal) at)

-- 19.1, 19.5: one command behind the other, from a place and a line on
pub data Commands (s t : List ℕ) : ℕ → ℕ → TreeHeld → Record → Memory → List ℕ → Type 0 where
  stops : {place line : ℕ} {h : TreeHeld} {r : Record} {m : Memory} {text : List ℕ} → Stops s place line text → Commands s t place line h r m text
  goes_on : {place line place' line' : ℕ} {h h' : TreeHeld} {r r' : Record} {m m' : Memory} {text rest : List ℕ}
      → Command s t place line h r m text place' line' h' r' m' → Between t h' r' m' → Commands s t place' line' h' r' m' rest
      → Commands s t place line h r m (text ++ rest)

-- ---- the session

-- 19.1, 19.7: all that is printed for the text s: the refusal of its table, or what its commands print, with no tree at first
pub data Session (s : List ℕ) : List ℕ → Type 0 where
  no_table : {refusal : Refusal} {line : ℕ} → TableRead s 0 1 (table.stop refusal line)
      → Session s (refusal_text (number_of refusal) line)
  runs : {t text : List ℕ} {place line : ℕ} → TableRead s 0 1 (table.done t place line)
      → Commands s t place line no_tree empty_record own_memory text → Session s text

-- 23.17: what the definition computes is such a session, for every text
abbrev pub EverySession : Type 0
EverySession = (s : List ℕ) → Session s (session s)

-- 23.17: and no other text is one
abbrev pub OnlySession : Type 0
OnlySession = (s text : List ℕ) → Session s text → text ≡ session s
