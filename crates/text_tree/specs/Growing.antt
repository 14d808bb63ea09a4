-- A tree read from text into lent memory: all its lines are judged before it is. Assumes nothing.
use Rattle.std.specs.Prelude.{ℕ, zero, suc, ◌≡◌, cond, ◌||◌, List, [], ◌∷◌, ltb, length, take, Result, Ok, Err}
use Rattle.std.proofs.lemmas.List.Edits.{sets}
use Rattle.refusal.specs.declared.Refusal.TheVariants as why
use Rattle.refusal.specs.Orders.{above, judged, Order, refusal_by}
use Rattle.table.specs.Judge.{judge_table}
use Rattle.tree.specs.Tree.{judge_nodes}
use Rattle.tree.specs.Refusals.{tree_check}
use Rattle.text_tree.specs.Written.{refusal_of}
use Rattle.text_tree.specs.Planting.{Nodes, good, bad, node_then, tree_at}
use Rattle.text_frame.specs.declared.Frame.{Frame}
use Rattle.text_tree.specs.declared.ReadTree.{ReadTree}
use Rattle.text_frame.specs.Calls.{misread}
use Rattle.text_frame.specs.declared.Misread.{Misread}

-- 21.6: a number other than 0 refuses the nodes at the line where the reading began
abbrev pub unless : ℕ → ℕ → Nodes → Nodes
unless zero start nodes = nodes
unless (suc n) start nodes = bad (refusal_of (suc n)) start

-- 14.15, 21.4: 15 where one of the two buffers has no place for n nodes
abbrev pub room_refusal : ℕ → ℕ → ℕ → ℕ
room_refusal n room room_owns = cond (ltb room n || ltb room_owns n) 15 0

-- 15.14, once each line is a node's: 8, 6/7, and last 15
abbrev pub grown_order : List ℕ → List ℕ → List ℕ → ℕ → ℕ → Order
grown_order t ps owns room room_owns = above 8 512 (length ps) ∷ tree_check t ps owns 0 ∷ judged 15 15 (room_refusal (length ps) room room_owns) ∷ []

-- what a command's lines are refused by then
abbrev pub fitted : List ℕ → ℕ → ℕ → ℕ → Nodes → Nodes
fitted t start room room_owns (good ps owns place line) =
    unless (refusal_by (grown_order t ps owns room room_owns)) start (good ps owns place line)
fitted t start room room_owns (bad refusal line) = bad refusal line

-- 15.14, 21.4: the tree that a text holds at a place, over the table t and with room for so many nodes and own sets: the table's 1 to 5 come first
unfoldable pub planting_at : List ℕ → List ℕ → ℕ → ℕ → ℕ → ℕ → Nodes
planting_at t s place line room room_owns = unless (judge_table t) line (fitted t line room room_owns (tree_at s place line))

-- 21.2, 21.4: what is answered: how many nodes, and where the text behind them starts; or the refusal
abbrev pub tree_read : ℕ → ℕ → ℕ → ReadTree
tree_read count place line = record { count = count; place = place; line = line }

abbrev pub tree_answer : Nodes → Result ReadTree Misread
tree_answer (good ps owns place line) = Ok (tree_read (length ps) place line)
tree_answer (bad refusal line) = Err (misread refusal line)

-- 21.4, 21.5: and the memory then: the nodes, with what lies behind them not touched; as it was where the text is refused
abbrev pub productions_after : Nodes → List ℕ → List ℕ
productions_after (good ps owns place line) memory = sets memory 0 ps
productions_after (bad refusal line) memory = memory

-- 21.4, 21.5: and the own sets
abbrev pub owns_after : Nodes → List ℕ → List ℕ
owns_after (good ps owns place line) memory = sets memory 0 owns
owns_after (bad refusal line) memory = memory

-- ---- the parts

-- 14.14: a frame where another is expected: its own refusal, or 14
abbrev pub stray : Frame → ℕ → Nodes
stray f line = node_then f line (bad why.Frame line)

-- memory of one's own into which the nodes went, as far as there was room; whatever it holds where a line is bad
abbrev pub Stored : Nodes → List ℕ → List ℕ → List ℕ → List ℕ → Type 0
Stored (good ps owns place line) a b a' b' = (a' ≡ sets a 0 ps) × (b' ≡ sets b 0 owns)
Stored (bad refusal line) a b a' b' = Unit {0}

-- 15.14: the same of n nodes that stand in memory: 8, 6/7, 15
abbrev pub kept_order : List ℕ → List ℕ → ℕ → ℕ → ℕ → Order
kept_order t memory n room room_owns = above 8 512 n ∷ judged 6 7 (judge_nodes t (take n memory) (0 ∷ [])) ∷ judged 15 15 (room_refusal n room room_owns) ∷ []
