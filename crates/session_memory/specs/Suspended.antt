-- What a session is between two pieces of its text: a small state, and the memory that is lent. Assumes nothing.
use Rattle.std.specs.Prelude.{◌≡◌, Bool, true, List, ◌++◌, ℕ, ◌≤◌, length, take}
use Rattle.update.specs.Records.{empty_record}
use Rattle.update.specs.Memories.{Memory}
use Rattle.update.specs.Within.{Roomy}
use Rattle.text_frame.specs.declared.Expected.TheVariants.{AtHeader}
use Rattle.session_owed.specs.Owed.{owns_kept, parts_kept, owed, Sound, Begun}
use Rattle.session_owed.specs.declared.Awaited.TheVariants.{Table}
use Rattle.session_memory.specs.declared.State.{State}
use Rattle.table.specs.Words.{table_words}

-- 20.2, 20.3: a state, the table's words, the begun line's bytes, the nodes that have come with their own sets and the points' words, and the engine's buffers
pub record Suspended : Type 0 where
  pub state : State
  pub words : List ℕ
  pub window : List ℕ
  pub parts : List ℕ
  pub part_owns : List ℕ
  pub memory : Memory

abbrev pub suspended : List ℕ → List ℕ → List ℕ → List ℕ → Memory → State → Suspended
suspended words window parts part_owns memory state =
    record { state = state; words = words; window = window; parts = parts; part_owns = part_owns; memory = memory }

-- 20.4: a session that has read nothing
abbrev pub first_state : State
first_state = record { awaited = Table AtHeader; begun = 0; line = 1; «record» = empty_record }

-- 20.4: what `start` says
abbrev pub StartSays : State → Type 0
StartSays a = a ≡ first_state

-- 20.3: the table's words, and the bytes of the begun line
abbrev pub table_of : Suspended → List ℕ
table_of d = take table_words d.words

abbrev pub line_of : Suspended → List ℕ
line_of d = take d.state.begun d.window

-- 20.1: what is owed where the text s follows the begun line
abbrev pub owed_for : Suspended → List ℕ → List ℕ
owed_for d s = owed d.state.awaited (table_of d) d.parts d.part_owns d.memory d.state.«record» d.state.line (line_of d ++ s)

-- so many bytes the buffer for what is printed has at the least
abbrev pub out_room : ℕ
out_room = 131072

-- 20.3: every buffer is long enough: a table, a line, more nodes than a tree may have and behind their own sets eight points, the engine's, and room to print
-- what a line can print
pub record Wide (words window parts part_owns : List ℕ) (m : Memory) (out : List ℕ) : Type 0 where
  pub words_room : table_words ≤ length words
  pub window_room : 29 ≤ length window
  pub parts_room : parts_kept ≤ length parts
  pub owns_room : owns_kept ≤ length part_owns
  pub room : Roomy m
  pub print_room : out_room ≤ length out

-- 20.9: what a session comes to
pub record Fits (d : Suspended) (out : List ℕ) : Type 0 where
  pub wide : Wide d.words d.window d.parts d.part_owns d.memory out
  pub begun : d.state.begun ≤ 28
  pub line : Begun (line_of d)
  pub sound : Sound d.state.awaited (table_of d) d.part_owns d.memory d.state.«record»

-- a test that is true exactly where P holds
pub record Tests (b : Bool) (P : Type 0) : Type 0 where
  pub yes : b ≡ true → P
  pub no : P → b ≡ true
