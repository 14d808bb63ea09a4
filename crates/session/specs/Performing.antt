-- A day's commands performed, whatever text they came from; and a session is its text read, and then performed. Assumes nothing.
use Rattle.std.specs.Prelude.{◌≡◌, List, [], ◌++◌, ℕ}
use Rattle.refusal.specs.Numbers.{number_of}
use Rattle.update.specs.declared.Record.{Record}
use Rattle.update.specs.Records.{empty_record}
use Rattle.update.specs.Memories.{Memory}
use Rattle.update.specs.Calls.{load_call, points_call}
use Rattle.text_frame.specs.Out.{refusal_text}
use Rattle.session.specs.Session.{Told, opened_then, dump_told, own_memory, session}
use Rattle.session.specs.Script.{Asked, load, replace, dump, Script, over, stops, asks, Day, no_table, day, day_of}

-- 19.2, 19.4: what a command at a line prints over the table t, and what it leaves
abbrev pub performed : ℕ → List ℕ → Asked → Record → Memory → Told
performed line t (load ns owns) r m = opened_then line t (load_call t m r ns owns)
performed line t (replace ps) r m = opened_then line t (points_call t m r ps)
performed line t dump r m = dump_told line t r m

-- 19.5: one behind the other, each with what the one before it left
unfoldable pub perform_all : List ℕ → Script → Record → Memory → List ℕ
perform_all t over r m = []
perform_all t (stops refusal line) r m = refusal_text (number_of refusal) line
perform_all t (asks line asked rest) r m = let told = performed line t asked r m in told.text ++ perform_all t rest told.next told.memory

-- 19.9: with no tree, the empty record and the shortest memory at first
abbrev pub perform_day : Day → List ℕ
perform_day (no_table refusal line) = refusal_text (number_of refusal) line
perform_day (day t script) = perform_all t script empty_record own_memory

-- a session reads its text, and performs what it has read: no command's reading looks at what another did
abbrev pub ReadThenPerform : Type 0
ReadThenPerform = (s : List ℕ) → session s ≡ perform_day (day_of s)
