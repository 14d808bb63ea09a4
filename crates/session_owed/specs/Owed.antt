-- What a session has still to print, from each state between two lines on: `session` from its middle. Assumes nothing.
use Rattle.std.specs.Prelude.{◌≡◌, true, cond, List, [], ◌++◌, map, ℕ, ◌+◌, ◌-◌, ◌*◌, ◌/◌, ◌%◌, ◌^◌, ◌≤◌, ◌<◌, leb, length, get_or, take, drop, replicate}
use Rattle.refusal.specs.Numbers.{number_of}
use Rattle.tree.specs.declared.Point.{Point}
use Rattle.tree.specs.Handed.{places_from, announced, handed_row}
use Rattle.update.specs.declared.Record.{Record}
use Rattle.update.specs.Records.{empty_record}
use Rattle.update.specs.Memories.{Memory}
use Rattle.update.specs.Calls.{Said, Left, Opened, load_call, replace_call, points_call}
use Rattle.text_frame.specs.Walk.{is_on}
use Rattle.text_table.specs.Read.{Sofar}
use Rattle.text_table.specs.Reading as table
use Rattle.text_table.specs.Reading.{Reading, read_on}
use Rattle.text_tree.specs.Planting.{Nodes, good, bad, nodes_at}
use Rattle.text_frame.specs.Out.{refusal_text}
use Rattle.update_judge.specs.Order.{Holding, Going}
use Rattle.session.specs.Naming.{Named, named, unnamed, points_at}
use Rattle.session.specs.Session.{opened_then, steps_told, and_on, with_nodes, with_points, parts_then, commands_from}
use Rattle.session_owed.specs.declared.Coming.{Coming}
use Rattle.session_owed.specs.declared.Coming.TheVariants.{Load, Replace, Several}
use Rattle.session_owed.specs.declared.Awaited.{Awaited}
use Rattle.session_owed.specs.declared.Awaited.TheVariants.{Table, Command, Naming, Nodes as NodesOf, Working, Stopped}
use Rattle.tree.specs.Tree.{nodes_most}

-- ---- the commands that the text s holds from its start on

abbrev pub commands : List ℕ → List ℕ → ℕ → Record → Memory → List ℕ
commands s t line r m = commands_from (length s) s t 0 line r m

-- the same as what goes on behind a command, which stands at the start of the text
abbrev pub onward : List ℕ → List ℕ → ℕ → ℕ → Record → Memory → List ℕ
onward s t = commands_from (length s) s t

-- ---- a command of which some points have come. They are kept behind the 513 own sets of its nodes, a word each: its number and the count of its part

-- so many nodes of a command are kept, one more than a tree may have
abbrev pub parts_kept : ℕ
parts_kept = 513

-- 20.3: the own sets and the words for points
abbrev pub owns_kept : ℕ
owns_kept = 521

-- 20.3: a point as a word
abbrev pub point_word : ℕ → ℕ → ℕ
point_word point count = point * 2 ^ 32 + count

abbrev pub word_point : ℕ → Point
word_point w = record { node = w / 2 ^ 32; count = w % 2 ^ 32 }

-- 20.3: the points in the words os
unfoldable pub points_in : List ℕ → List Point
points_in os = map word_point (take 8 (drop parts_kept os))

-- 20.8: n points of a command. Of those behind the eighth only the counts are kept, added to the eighth's: more than eight are refused whatever they are, but
-- their nodes are still to be read
abbrev pub named_in : ℕ → List ℕ → List Point
named_in n os = places_from 0 n (points_in os)

-- in front of those that are to come
abbrev pub behind_points : List Point → Named → Named
behind_points ps (named qs place line) = named (ps ++ qs) place line
behind_points ps (unnamed refusal line) = unnamed refusal line

-- ---- a command of which some nodes have come; qs are the points in the words for them

-- 19.1: the call that a command is for
abbrev pub order_call : Coming → List Point → List ℕ → Memory → Record → List ℕ → List ℕ → Left (Said Opened)
order_call Load qs t m r ps os = load_call t m r ps os
order_call (Replace point) qs t m r ps os = replace_call t m r point ps os
order_call (Several n) qs t m r ps os = points_call t m r (handed_row (places_from 0 n qs) ps os)

-- 20.8: the nodes that have come: where the command has more than a tree may have it is refused whatever they are, and their number alone counts
unfoldable pub heard : ℕ → ℕ → List ℕ → List ℕ
heard count taken xs = cond (leb count nodes_most) (take taken xs) (replicate taken 0)

-- in front of those that are to come
abbrev pub behind : List ℕ → List ℕ → Nodes → Nodes
behind ps os (good qs ws place line) = good (ps ++ qs) (os ++ ws) place line
behind ps os (bad refusal line) = bad refusal line

-- ---- the table of which some frames have come, and what is printed behind it

abbrev pub table_then : List ℕ → Memory → Reading → List ℕ
table_then s m (table.done t place line) = commands_from (length s) s t place line empty_record m
table_then s m (table.stop refusal line) = refusal_text (number_of refusal) line

-- ---- what is owed, where the text s is still to come and `line` is the number of its first line

-- 20.1, 20.2: t are the table's words, ps and os the nodes and own sets of a command that have come, with its points behind these
unfoldable pub owed : Awaited → List ℕ → List ℕ → List ℕ → Memory → Record → ℕ → List ℕ → List ℕ
owed (Table x) t ps os m r line s = table_then s m (read_on (length s) t x s 0 line)
owed Command t ps os m r line s = commands s t line r m
owed (Naming count taken command) t ps os m r line s =
    with_points (behind_points (named_in taken os) (points_at (count - taken) s 0 line)) (parts_then s t command r m (onward s t))
owed (NodesOf coming count taken command) t ps os m r line s =
    with_nodes (behind (heard count taken ps) (heard count taken os) (nodes_at (count - taken) s 0 line))
    (λ qs ws. opened_then command t (order_call coming (points_in os) t m r qs ws)) (onward s t)
owed (Working turns) t ps os m r line s = and_on (steps_told turns t r m) 0 line (onward s t)
owed Stopped t ps os m r line s = []

-- ---- what a state is that a session comes to

-- 20.9: points that so many lines can have named: at most 255 of them, of at most 65,535 nodes each
pub record NamedSoFar (count taken : ℕ) (os : List ℕ) : Type 0 where
  pub more : taken < count
  pub few : count ≤ 255
  pub nodes : announced (named_in taken os) ≤ 65535 * taken

-- 20.9: the words, the points that have come, the memory and the record that each awaited goes with
abbrev pub Sound : Awaited → List ℕ → List ℕ → Memory → Record → Type 0
Sound (Table x) t os m r = Sofar t x × (is_on x ≡ true)
Sound Command t os m r = Holding t m r
Sound (Naming count taken command) t os m r = Holding t m r × NamedSoFar count taken os
Sound (NodesOf coming count taken command) t os m r = Holding t m r × (taken < count)
Sound (Working turns) t os m r = Going t m r
Sound Stopped t os m r = Unit {0}

-- 20.5: the bytes of a line that is not decided yet: no LF, and fewer than 29
pub record Begun (w : List ℕ) : Type 0 where
  pub few : length w ≤ 28
  pub no_end : (i : ℕ) → i < length w → get_or w i 0 ≡ 10 → ⊥

-- 20.5: the bytes of a line that is: LF is the last, or there are 29
pub record Whole (w : List ℕ) : Type 0 where
  pub some : 0 < length w
  pub few : length w ≤ 29
  pub no_end : (i : ℕ) → i + 1 < length w → get_or w i 0 ≡ 10 → ⊥
  pub ends : (length w < 29) → get_or w (length w - 1) 0 ≡ 10
