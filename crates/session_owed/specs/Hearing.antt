-- What one whole line leads to, by its frame and by what is waited for: the awaited behind it, what is printed, and the memory. Assumes nothing.
use Rattle.std.specs.Prelude.{◌≡◌, cond, List, [], ℕ, zero, suc, ◌+◌, ◌%◌, ◌^◌, ◌≤◌, min, ltb, length, get_or, take, set, Result, Ok, Err}
use Rattle.std.proofs.lemmas.List.Edits.{sets}
use Rattle.refusal.specs.Numbers.{number_of}
use Rattle.update.specs.declared.Record.{Record}
use Rattle.update.specs.Records.{evaluations_most, empty_record}
use Rattle.update.specs.Memories.{Memory}
use Rattle.update.specs.Calls.{Said, refused, said, Left, Opened, is_open}
use Rattle.text_frame.specs.declared.Expected.{Expected}
use Rattle.text_frame.specs.declared.Expected.TheVariants.{AtHeader, AtSymbol, AtProduction, AtEquation, Ended}
use Rattle.text_frame.specs.declared.Misread.{Misread}
use Rattle.text_frame.specs.declared.Frame.{Frame}
use Rattle.text_frame.specs.declared.Frame.TheVariants as frame
use Rattle.text_frame.specs.declared.Change.{Change}
use Rattle.text_frame.specs.declared.Change.TheVariants as change
use Rattle.text_table.specs.Read.{words_after, taken_at}
use Rattle.text_frame.specs.Out.{refusal_text}
use Rattle.session.specs.Session.{dump_told}
use Rattle.tree.specs.Handed.{announced}
use Rattle.session_owed.specs.Owed.{parts_kept, point_word, points_in, named_in, order_call}
use Rattle.session_owed.specs.declared.Coming.{Coming}
use Rattle.session_owed.specs.declared.Coming.TheVariants.{Load, Replace, Several}
use Rattle.session_owed.specs.declared.Awaited.{Awaited}
use Rattle.session_owed.specs.declared.Awaited.TheVariants.{Table, Command, Naming, Nodes, Working, Stopped}
use Rattle.session_owed.specs.declared.Told.{Told}

-- what is waited for, what is printed, and the record, the table's words, the nodes that have come and the memory
pub record Heard : Type 0 where
  pub awaited : Awaited
  pub text : List ℕ
  pub next : Record
  pub words : List ℕ
  pub parts : List ℕ
  pub part_owns : List ℕ
  pub memory : Memory

-- the steps of an update at the most, as a session counts them
abbrev pub turns_most : ℕ
turns_most = suc (suc evaluations_most)

-- ---- the parts of a line's work: t the table's words, ps and os the nodes that have come
module _ (t ps os : List ℕ) (m : Memory) (r : Record) where
  -- 19.5: n is printed with a line, and the session is over
  abbrev pub stopped : ℕ → ℕ → Heard
  stopped n line = record { awaited = Stopped; text = refusal_text n line; next = r; words = t; parts = ps; part_owns = os; memory = m }

  -- 14.14, 17.7: a frame that can't stand where it does: its own refusal, else 14
  abbrev pub strange : Frame → ℕ → Heard
  strange (frame.Rule a) line = stopped 14 line
  strange (frame.Node a b) line = stopped 14 line
  strange (frame.Point a b) line = stopped 14 line
  strange (frame.Change a) line = stopped 14 line
  strange frame.Dump line = stopped 14 line
  strange (frame.Refused refusal own) line = stopped (number_of refusal) own
  strange frame.Over line = stopped 14 line

  -- nothing printed, and something else waited for
  abbrev pub waiting : Awaited → Heard
  waiting awaited = record { awaited = awaited; text = []; next = r; words = t; parts = ps; part_owns = os; memory = m }

  -- 19.2, 19.4, 19.5: a command all of whose nodes have come: refused at its first line, and the next is waited for, or an update to be worked
  abbrev pub opened_by : ℕ → Left (Said Opened) → Heard
  opened_by command left = by left.answer
    where
      by : Said Opened → Heard
      by (refused n) = record { awaited = Command; text = refusal_text n command; next = left.next; words = t; parts = ps; part_owns = os; memory = left.memory }
      by (said is_open) = record { awaited = Working turns_most; text = []; next = left.next; words = t; parts = ps; part_owns = os; memory = left.memory }

  -- 20.8: more nodes than 512 are refused whatever they are: 513 stand for them
  unfoldable pub called : Coming → ℕ → ℕ → Heard
  called coming count command = opened_by command (order_call coming (points_in os) t m r (take (min count parts_kept) ps) (take (min count parts_kept) os))

  -- 17.4: a command's first line: its nodes are waited for, if it has any
  abbrev pub ordered : Coming → ℕ → ℕ → Heard
  ordered coming zero line = called coming zero line
  ordered coming (suc n) line = waiting (Nodes coming (suc n) 0 line)

  -- 17.5, 17.6: a command that names points: they are waited for, if it has any
  abbrev pub naming : ℕ → ℕ → Heard
  naming zero line = called (Several 0) 0 line
  naming (suc n) line = waiting (Naming (suc n) 0 line)

  -- the first line of a change
  abbrev pub changed : Change → ℕ → Heard
  changed (change.Load count) line = ordered Load count line
  changed (change.Replace point count) line = ordered (Replace point) count line
  changed (change.Corrections count) line = naming count line

  -- 17.7, 19.1: a line where a command is to begin
  unfoldable pub commanded : Frame → ℕ → Heard
  commanded (frame.Rule a) line = strange (frame.Rule a) line
  commanded (frame.Node a b) line = strange (frame.Node a b) line
  commanded (frame.Point a b) line = strange (frame.Point a b) line
  commanded (frame.Change a) line = changed a line
  commanded frame.Dump line =
      record { awaited = Command; text = (dump_told line t r m).text; next = r; words = t; parts = ps; part_owns = os; memory = m }
  commanded (frame.Refused refusal own) line = strange (frame.Refused refusal own) line
  commanded frame.Over line = strange frame.Over line

-- 17.2, 19.1: what is waited for behind a frame of the table
abbrev pub awaited_of : Expected → Awaited
awaited_of AtHeader = Table AtHeader
awaited_of (AtSymbol s) = Table (AtSymbol s)
awaited_of (AtProduction p) = Table (AtProduction p)
awaited_of (AtEquation p q k) = Table (AtEquation p q k)
awaited_of Ended = Command

-- 19.7: a frame of the table, stored and judged: w are the words then
abbrev pub tabled : List ℕ → List ℕ → List ℕ → Memory → Result Expected Misread → Heard
tabled w ps os m (Ok y) = waiting w ps os m empty_record (awaited_of y)
tabled w ps os m (Err e) = stopped w ps os m empty_record (number_of e.refusal) e.line

-- 20.8: a node is kept if it is one of the first 513
abbrev pub kept_at : ℕ → ℕ → List ℕ → List ℕ
kept_at taken x xs = cond (ltb taken parts_kept) (set xs taken x) xs

-- 20.8: a point is kept in the words for points; behind the eighth its count is added to that one's
unfoldable pub point_kept : ℕ → ℕ → ℕ → List ℕ → List ℕ
point_kept taken point count os = cond (ltb taken 8) (set os (parts_kept + taken) (point_word point count)) (set os 520 (get_or os 520 0 % 2 ^ 48 + count))

-- 17.5: a command's point: the next is waited for, or the nodes of all parts
unfoldable pub pointed : ℕ → ℕ → ℕ → Frame → ℕ → List ℕ → List ℕ → List ℕ → Memory → Record → Heard
pointed count taken command (frame.Rule a) line t ps os m r = strange t ps os m r (frame.Rule a) line
pointed count taken command (frame.Node a b) line t ps os m r = strange t ps os m r (frame.Node a b) line
pointed count taken command (frame.Point point n) line t ps os m r =
    let os' = point_kept taken point n os in
    cond (ltb (taken + 1) count)
    (waiting t ps os' m r (Naming count (taken + 1) command))
    (ordered t ps os' m r (Several count) (announced (named_in count os')) command)
pointed count taken command (frame.Change a) line t ps os m r = strange t ps os m r (frame.Change a) line
pointed count taken command frame.Dump line t ps os m r = strange t ps os m r frame.Dump line
pointed count taken command (frame.Refused refusal own) line t ps os m r = strange t ps os m r (frame.Refused refusal own) line
pointed count taken command frame.Over line t ps os m r = strange t ps os m r frame.Over line

-- 17.4: a command's node: the next is waited for, or the command is carried out
unfoldable pub noded : Coming → ℕ → ℕ → ℕ → Frame → ℕ → List ℕ → List ℕ → List ℕ → Memory → Record → Heard
noded coming count taken command (frame.Rule a) line t ps os m r = strange t ps os m r (frame.Rule a) line
noded coming count taken command (frame.Node p o) line t ps os m r =
    cond (ltb (taken + 1) count)
    (waiting t (kept_at taken p ps) (kept_at taken o os) m r (Nodes coming count (taken + 1) command))
    (called t (kept_at taken p ps) (kept_at taken o os) m r coming count command)
noded coming count taken command (frame.Point a b) line t ps os m r = strange t ps os m r (frame.Point a b) line
noded coming count taken command (frame.Change a) line t ps os m r = strange t ps os m r (frame.Change a) line
noded coming count taken command frame.Dump line t ps os m r = strange t ps os m r frame.Dump line
noded coming count taken command (frame.Refused refusal own) line t ps os m r = strange t ps os m r (frame.Refused refusal own) line
noded coming count taken command frame.Over line t ps os m r = strange t ps os m r frame.Over line

-- ---- a line, by what is waited for

-- 20.2, 20.6: while an update is at work, or behind the end, no line is heard
unfoldable pub hearing : Awaited → Frame → ℕ → List ℕ → List ℕ → List ℕ → Memory → Record → Heard
hearing (Table x) f line t ps os m r = tabled (words_after t x f) ps os m (taken_at t x f line)
hearing Command f line t ps os m r = commanded t ps os m r f line
hearing (Naming count taken command) f line t ps os m r = pointed count taken command f line t ps os m r
hearing (Nodes coming count taken command) f line t ps os m r = noded coming count taken command f line t ps os m r
hearing (Working turns) f line t ps os m r = waiting t ps os m r (Working turns)
hearing Stopped f line t ps os m r = waiting t ps os m r Stopped

-- ---- what the code says of it: awaited, record and place in `told`; the printed text stands in the buffer from `printed` on
pub record Hears (h : Heard) (told : Told) (printed : ℕ) (out out' words parts part_owns : List ℕ) (m : Memory) : Type 0 where
  pub awaited : told.awaited ≡ h.awaited
  pub next : told.«record» ≡ h.next
  pub place : told.printed ≡ printed + length h.text
  pub shown : out' ≡ sets out printed h.text
  pub words_then : words ≡ h.words
  pub parts_then : parts ≡ h.parts
  pub owns_then : part_owns ≡ h.part_owns
  pub memory : m ≡ h.memory

-- no line prints more: every set of a full tree
abbrev pub line_room : ℕ
line_room = 94208

-- 20.6: what a line can print at the most: a dump of 4,096 sets, 23 bytes each
pub record Spacious (out : List ℕ) (printed : ℕ) : Type 0 where
  pub room : printed + line_room ≤ length out
