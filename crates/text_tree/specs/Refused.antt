-- When a tree is read from text and when it is refused, number by number, said without the definitions that compute the answer. Assumes nothing.
use Rattle.std.specs.Prelude.{◌≡◌, ◌⊎◌, ◌↔◌, List, [], ◌∷◌, ℕ, ◌+◌, ◌≤◌, ◌<◌, length, Result, Ok, Err}
use Rattle.std.proofs.lemmas.List.Edits.{sets}
use Rattle.refusal.specs.Numbers.{number_of}
use Rattle.refusal.specs.declared.Refusal.{Refusal}
use Rattle.refusal.specs.declared.Refusal.TheVariants as why
use Rattle.table.specs.Sound.{Sound}
use Rattle.table.specs.Refused.{Refused}
use Rattle.tree.specs.Refused.{TreeRefused, SoundTree}
use Rattle.text_line.specs.Exactly.{NoLine}
use Rattle.text_frame.specs.Frames.{line_after}
use Rattle.text_frame.specs.Exactly.{IsFrame, Astray}
use Rattle.text_frame.specs.declared.Frame.TheVariants.{Node, Change}
use Rattle.text_frame.specs.declared.Change.TheVariants.{Load}
use Rattle.text_tree.specs.Planting.{Nodes, good, bad, nodes_at, tree_at}
use Rattle.text_tree.specs.Growing.{tree_read}
use Rattle.text_tree.specs.Calls.{ReadTreeSays}
use Rattle.text_tree.specs.declared.ReadTree.{ReadTree}
use Rattle.text_frame.specs.Calls.{misread}
use Rattle.text_frame.specs.declared.Misread.{Misread}

-- ---- the lines of nodes

-- 17.4: from a place and a line on stand the lines of these nodes with these own sets, and the text behind them starts at `end`, which is line `next`
pub data NodeLines (s : List ℕ) : ℕ → ℕ → List ℕ → List ℕ → ℕ → ℕ → Type 0 where
  none : {place line : ℕ} → NodeLines s place line [] [] place line
  node : {place line p o end next : ℕ} {ps os : List ℕ} → IsFrame s place (Node p o) 5 20 → NodeLines s (place + 21) (line_after line) ps os end next
      → NodeLines s place line (p ∷ ps) (o ∷ os) end next

-- 14.13, 14.14: what n lines are read as: the nodes, where all are nodes' lines; else behind some nodes' lines comes one that is no line, or no node's
pub data NodesRead (s : List ℕ) (n place line : ℕ) : Nodes → Type 0 where
  all : {ps os : List ℕ} {end next : ℕ} → NodeLines s place line ps os end next → length ps ≡ n → NodesRead s n place line (good ps os end next)
  by13 : {ps os : List ℕ} {at l : ℕ} → NodeLines s place line ps os at l → length ps < n → NoLine s at → NodesRead s n place line (bad why.Line l)
  by14 : {ps os : List ℕ} {at l : ℕ} → NodeLines s place line ps os at l → length ps < n → Astray s at 5 → NodesRead s n place line (bad why.Frame l)

-- 14.13, 14.14: they are read exactly so
abbrev pub NodesExactly : Type 0
NodesExactly = (s : List ℕ) (n place line : ℕ) (x : Nodes) → (x ≡ nodes_at n s place line) ↔ NodesRead s n place line x

-- ---- the lines of a tree: its count, and as many nodes

-- 14.13, 14.14: what they are read as: 13 and 14 also at the first line, where a count is expected
pub data LinesRead (s : List ℕ) (place line : ℕ) : Nodes → Type 0 where
  first13 : NoLine s place → LinesRead s place line (bad why.Line line)
  first14 : Astray s place 6 → LinesRead s place line (bad why.Frame line)
  nodes : {n : ℕ} {x : Nodes} → IsFrame s place (Change (Load n)) 6 6 → NodesRead s n (place + 7) (line_after line) x → LinesRead s place line x

-- 14.13, 14.14: they are read exactly so
abbrev pub LinesExactly : Type 0
LinesExactly = (s : List ℕ) (place line : ℕ) (x : Nodes) → (x ≡ tree_at s place line) ↔ LinesRead s place line x

-- ---- reading a tree over a table into lent memory

-- 15.14, 21.4 to 21.6: what is answered, and what the memory holds then: the table's numbers at the command's line; 13 and 14 at the first line that is refused
-- so; at the command's line 8, 6 and 7 of the tree that was read, and last 15, where it has more nodes than there is room for; where it is refused nothing is
-- written
pub data ReadsTree (t s : List ℕ) (place line : ℕ) (ns owns : List ℕ) : Result ReadTree Misread → List ℕ → List ℕ → Type 0 where
  by1to5 : {r : Refusal} → Refused t (number_of r) → ReadsTree t s place line ns owns (Err (misread r line)) ns owns
  by13or14 : {r : Refusal} {l : ℕ} → Sound t → LinesRead s place line (bad r l) → ReadsTree t s place line ns owns (Err (misread r l)) ns owns
  by8or6or7 : {r : Refusal} {ps os : List ℕ} {end next : ℕ} → Sound t → LinesRead s place line (good ps os end next) → TreeRefused t ps os r
      → ReadsTree t s place line ns owns (Err (misread r line)) ns owns
  by15 : {ps os : List ℕ} {end next : ℕ} → LinesRead s place line (good ps os end next) → SoundTree t ps os → (length ns < length ps) ⊎ (length owns < length ps)
      → ReadsTree t s place line ns owns (Err (misread why.Buffer line)) ns owns
  read : {ps os : List ℕ} {end next : ℕ} → LinesRead s place line (good ps os end next) → SoundTree t ps os → length ps ≤ length ns → length ps ≤ length owns
      → ReadsTree t s place line ns owns (Ok (tree_read (length ps) end next)) (sets ns 0 ps) (sets owns 0 os)

-- 15.14, 23.1: `read_tree` answers and leaves exactly that
abbrev pub ReadTreeExactly : Type 0
ReadTreeExactly = (t s : List ℕ) (place line : ℕ) (ns owns : List ℕ) (a : Result ReadTree Misread) (ns' owns' : List ℕ)
    → ReadTreeSays t s place line ns owns a ns' owns' ↔ ReadsTree t s place line ns owns a ns' owns'
