-- What a line does to what is owed. Proved in proofs/Owing and proofs/Ending. Assumes nothing.
use Rattle.std.specs.Prelude.{◌≡◌, Bool, true, false, cond, List, [], ◌++◌, ℕ, ◌≤◌, eqb, length, replicate}
use Rattle.update.specs.declared.Record.{Record}
use Rattle.update.specs.Memories.{Memory}
use Rattle.update.specs.Within.{Roomy}
use Rattle.text_frame.specs.Frames.{frame_at, line_after}
use Rattle.text_frame.specs.Out.{refusal_text}
use Rattle.text_frame.specs.declared.Expected.TheVariants.{AtHeader}
use Rattle.session.specs.Session.{session, own_memory}
use Rattle.session_owed.specs.Owed.{owns_kept, parts_kept, owed, Sound, Begun, Whole}
use Rattle.session_owed.specs.Hearing.{Heard, hearing}
use Rattle.session_owed.specs.declared.Awaited.{Awaited}
use Rattle.session_owed.specs.declared.Awaited.TheVariants.{Table, Command, Naming, Nodes, Working, Stopped}
use Rattle.table.specs.Words.{table_words}

-- 20.2: a line is waited for, or nothing more is: not so while an update is at work
abbrev pub listens : Awaited → Bool
listens (Table x) = true
listens Command = true
listens (Naming count taken command) = true
listens (Nodes coming count taken command) = true
listens (Working turns) = false
listens Stopped = true

-- 20.1: what was owed for the text w ++ u is what the line w prints and what is then owed for u
pub record Pays (awaited : Awaited) (t ps os : List ℕ) (m : Memory) (r : Record) (line : ℕ) (w : List ℕ) (h : Heard) : Type 0 where
  pub owing : (u : List ℕ) → owed awaited t ps os m r line (w ++ u)
      ≡ h.text ++ owed h.awaited h.words h.parts h.part_owns h.memory h.next (line_after line) u
  pub sound : Sound h.awaited h.words h.part_owns h.memory h.next

-- 20.1: for every state that a session comes to, with memory that is long enough, and every whole line; 513 nodes have a place, and eight points
abbrev pub LinePays : Type 0
LinePays = (awaited : Awaited) (t ps os : List ℕ) (m : Memory) (r : Record) (line : ℕ) (w : List ℕ) → listens awaited ≡ true → Sound awaited t os m r → Roomy m
    → parts_kept ≤ length ps → owns_kept ≤ length os → Whole w
    → Pays awaited t ps os m r line w (hearing awaited (frame_at w 0 line).frame line t ps os m r)

-- 20.11: where the table or a command isn't whole at the text's end: 13 inside a line, and else 14
abbrev pub inside_text : ℕ → ℕ → List ℕ
inside_text begun line = refusal_text (cond (eqb begun 0) 14 13) line

-- 20.11: where both are whole: 13 inside a line, and else nothing
abbrev pub between_text : ℕ → ℕ → List ℕ
between_text begun line = cond (eqb begun 0) [] (refusal_text 13 line)

-- 20.11: the one, the other or nothing, by what is waited for
unfoldable pub end_text : Awaited → ℕ → ℕ → List ℕ
end_text (Table x) begun line = inside_text begun line
end_text Command begun line = between_text begun line
end_text (Naming count taken command) begun line = inside_text begun line
end_text (Nodes coming count taken command) begun line = inside_text begun line
end_text (Working turns) begun line = []
end_text Stopped begun line = []

-- 20.1: and it is all that is owed then
abbrev pub EndPays : Type 0
EndPays = (awaited : Awaited) (t ps os : List ℕ) (m : Memory) (r : Record) (line : ℕ) (w : List ℕ) → listens awaited ≡ true → Sound awaited t os m r → Begun w
    → owed awaited t ps os m r line w ≡ end_text awaited (length w) line

-- 20.1, 20.4: at first everything is owed
abbrev pub AllOwed : Type 0
AllOwed = (ps os : List ℕ) (r : Record) (s : List ℕ) → owed (Table AtHeader) (replicate table_words 0) ps os own_memory r 1 s ≡ session s
