-- The session as a function from text to text: a table, and the commands behind it, each load and replacement worked to done. Assumes nothing.
use Rattle.std.specs.Prelude.{◌≡◌, cond, List, [], ◌∷◌, ◌++◌, map, ℕ, zero, suc, length, replicate}
use Rattle.refusal.specs.Numbers.{number_of}
use Rattle.tree.specs.declared.Point.{Point}
use Rattle.tree.specs.Handed.{announced, handed_row}
use Rattle.update.specs.declared.Record.{Record}
use Rattle.circles.specs.Marks.{slots_most}
use Rattle.update.specs.Records.{nodes_most, evaluations_most, empty_record}
use Rattle.update.specs.Memories.{Memory}
use Rattle.update.specs.Refusals.{look_order}
use Rattle.update.specs.Steps.{Outcome, round, done}
use Rattle.update.specs.Calls.{Said, refused, said, Left, Opened, is_open, load_call, replace_call, points_call, step_call, dumped}
use Rattle.climb.specs.Memory.{at}
use Rattle.text_frame.specs.declared.Frame.{Frame}
use Rattle.text_frame.specs.declared.Frame.TheVariants.{Rule, Node, Point as PointFrame, Change, Dump, Refused, Over}
use Rattle.text_frame.specs.declared.Change as change
use Rattle.text_frame.specs.declared.Change.TheVariants.{Load, Replace, Corrections}
use Rattle.text_frame.specs.Frames.{frame_at}
use Rattle.text_table.specs.Reading as table
use Rattle.text_table.specs.Reading.{Reading, reading_at}
use Rattle.text_tree.specs.Planting.{Nodes, good, bad, nodes_at}
use Rattle.text_frame.specs.Out.{round_text, done_text, dump_text, refusal_text}
use Rattle.session.specs.Naming.{Named, named, unnamed, points_at}
use Rattle.refusal.specs.Orders.{refusal_by}

-- ---- what a command prints, and what it leaves

pub record Told : Type 0 where
  pub text : List ℕ
  pub next : Record
  pub memory : Memory

-- 19.2: the line of a step: `11` for a round, `12` for done
abbrev pub outcome_text : Outcome → List ℕ
outcome_text (round least k size closed) = round_text least k size (cond closed 1 0)
outcome_text (done circles evaluations changed) = done_text circles evaluations changed

abbrev pub text_before : List ℕ → Told → Told
text_before text told = record { text = text ++ told.text; next = told.next; memory = told.memory }

-- 19.2: a step's answer, and behind a round the steps that follow. A refused step would end it; none is refused in an update that was accepted
abbrev pub step_then : Said Outcome → Record → Memory → (Record → Memory → Told) → Told
step_then (refused n) r m go = record { text = []; next = r; memory = m }
step_then (said (round least k size closed)) r m go = text_before (outcome_text (round least k size closed)) (go r m)
step_then (said (done circles evaluations changed)) r m go = record { text = outcome_text (done circles evaluations changed); next = r; memory = m }

-- n steps at the most
unfoldable pub steps_told : ℕ → List ℕ → Record → Memory → Told
steps_told zero t r m = record { text = []; next = r; memory = m }
steps_told (suc n) t r m = let l = step_call t m r in step_then l.answer l.next l.memory (steps_told n t)

-- 19.2: all steps of an update: a round makes an evaluation at least, so that there are fewer steps than the most evaluations and two
abbrev pub to_done : List ℕ → Record → Memory → Told
to_done = steps_told (suc (suc evaluations_most))

-- 19.2, 19.4, 19.5: a load or a replacement: worked to done, or refused at the command's first line with all as it was
abbrev pub opened_then : ℕ → List ℕ → Left (Said Opened) → Told
opened_then line t left = by left.answer
  where
    by : Said Opened → Told
    by (refused n) = record { text = refusal_text n line; next = left.next; memory = left.memory }
    by (said is_open) = to_done t left.next left.memory

-- 19.4: a dump's lines, or its refusal
abbrev pub dump_or : ℕ → ℕ → List ℕ → List ℕ
dump_or zero line text = text
dump_or (suc n) line text = refusal_text (suc n) line

-- 13.2, 13.3: a dump, which leaves all as it was
unfoldable pub dump_told : ℕ → List ℕ → Record → Memory → Told
dump_told line t r m = record {
  text = dump_or (refusal_by (look_order t m r)) line (dump_text (map (λ x. record { instance = x; value = at m.sets x }) (dumped t m r)));
  next = r;
  memory = m;
}

-- ---- the commands

-- 19.5: a command's text, and then the commands behind it from a place on
abbrev pub and_on : Told → ℕ → ℕ → (ℕ → ℕ → Record → Memory → List ℕ) → List ℕ
and_on told place line go = told.text ++ go place line told.next told.memory

-- 19.5, 19.6: a load's or a replacement's nodes, and what is done with them; at a bad line nothing is, and the session is over
abbrev pub with_nodes : Nodes → (List ℕ → List ℕ → Told) → (ℕ → ℕ → Record → Memory → List ℕ) → List ℕ
with_nodes (good ps os place line) call go = and_on (call ps os) place line go
with_nodes (bad refusal line) call go = refusal_text (number_of refusal) line

-- 19.5, 19.6: the points that a command names, and what is done with them
abbrev pub with_points : Named → (List Point → ℕ → ℕ → List ℕ) → List ℕ
with_points (named qs place line) then = then qs place line
with_points (unnamed refusal line) then = refusal_text (number_of refusal) line

-- 17.5: a command whose points qs are named: the nodes of all their parts come behind them, from a place of s on
abbrev pub parts_then : List ℕ → List ℕ → ℕ → Record → Memory → (ℕ → ℕ → Record → Memory → List ℕ) → List Point → ℕ → ℕ → List ℕ
parts_then s t line r m go qs place next =
    with_nodes (nodes_at (announced qs) s place next) (λ ps os. opened_then line t (points_call t m r (handed_row qs ps os))) go

-- 19.1, 19.8: the command that a change's frame begins, at a line, 14 for one that begins none; the text goes on behind the frame at `place`, with the line `next`
abbrev pub changing : List ℕ → List ℕ → change.Change → ℕ → ℕ → ℕ → Record → Memory → (ℕ → ℕ → Record → Memory → List ℕ) → List ℕ
changing s t (Load count) line place next r m go = with_nodes (nodes_at count s place next) (λ ps os. opened_then line t (load_call t m r ps os)) go
changing s t (Replace point count) line place next r m go =
    with_nodes (nodes_at count s place next) (λ ps os. opened_then line t (replace_call t m r point ps os)) go
changing s t (Corrections count) line place next r m go = with_points (points_at count s place next) (parts_then s t line r m go)

-- the command of a frame at a line
abbrev pub command : List ℕ → List ℕ → Frame → ℕ → ℕ → ℕ → Record → Memory → (ℕ → ℕ → Record → Memory → List ℕ) → List ℕ
command s t (Change c) line place next r m go = changing s t c line place next r m go
command s t Dump line place next r m go = and_on (dump_told line t r m) place next go
command s t Over line place next r m go = []
command s t (Refused refusal at_line) line place next r m go = refusal_text (number_of refusal) at_line
command s t (Rule a) line place next r m go = refusal_text 14 line
command s t (Node a b) line place next r m go = refusal_text 14 line
command s t (PointFrame a b) line place next r m go = refusal_text 14 line

-- n commands at the most
unfoldable pub commands_from : ℕ → List ℕ → List ℕ → ℕ → ℕ → Record → Memory → List ℕ
commands_from zero s t place line r m = []
commands_from (suc n) s t place line r m =
    let step = frame_at s place line in command s t step.frame line step.place step.line r m (commands_from n s t)

-- ---- the session

-- 19.9: its memory at first: the shortest buffers that are taken, all zero
unfoldable pub own_memory : Memory
own_memory = record { productions = replicate nodes_most 0; owns = replicate nodes_most 0; sets = replicate slots_most 0; earlier = replicate slots_most 0 }

-- 19.1, 19.7: the table, each of its frames judged as it comes, and then the commands
abbrev pub after_table : List ℕ → Reading → List ℕ
after_table s (table.done t place line) = commands_from (length s) s t place line empty_record own_memory
after_table s (table.stop refusal line) = refusal_text (number_of refusal) line

-- 19.1: all that is printed for the text s; every command has a byte at least
unfoldable pub session : List ℕ → List ℕ
session s = after_table s (reading_at s 0 1)

-- ---- `07` gives what `09` with one point gives

-- 19.3: a replacement by `07`, and one by `09` that names the same point with the same count, in whatever texts: where the same nodes are read for both, both
-- print the same and leave the same, and each goes on behind its own lines
abbrev pub OneAsSeveral : Type 0
OneAsSeveral = (t s s' : List ℕ) (line place next place' next' place₁ next₁ : ℕ) (r : Record) (m : Memory) (point count : ℕ) (ps os : List ℕ) (end end' last last' : ℕ)
    → points_at 1 s' place' next' ≡ named (record { node = point; count = count } ∷ []) place₁ next₁
    → nodes_at count s place next ≡ good ps os end last → nodes_at count s' place₁ next₁ ≡ good ps os end' last'
    → (told : Told) × ((go : ℕ → ℕ → Record → Memory → List ℕ) → command s t (Change (Replace point count)) line place next r m go ≡ and_on told end last go)
    × ((go : ℕ → ℕ → Record → Memory → List ℕ) → command s' t (Change (Corrections 1)) line place' next' r m go ≡ and_on told end' last' go)
