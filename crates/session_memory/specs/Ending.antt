-- The end of the input: what is printed then, by what is waited for, and when nothing can be. Assumes nothing.
use Rattle.std.specs.Prelude.{◌≡◌, Bool, true, false, ◌↔◌, List, ℕ, length, Result}
use Rattle.refusal.specs.declared.Refusal.{Refusal}
use Rattle.refusal.specs.declared.Refusal.TheVariants as why
use Rattle.refusal.specs.Orders.{when}
use Rattle.text_tree.specs.Written.{written_of, buffer_after}
use Rattle.text_tree.specs.Writes.{Writes}
use Rattle.session_owed.specs.Laws.{end_text}
use Rattle.session_owed.specs.declared.Awaited.{Awaited}
use Rattle.session_owed.specs.declared.Awaited.TheVariants.{Table, Command, Naming, Nodes, Working, Stopped}
use Rattle.session_memory.specs.declared.State.{State}

-- 20.11: what is still to be said
abbrev pub last_text : State → List ℕ
last_text s = end_text s.awaited s.begun s.line

-- 20.10: an update is at work: more is to be printed before the input can end
abbrev pub working : Awaited → Bool
working (Table x) = false
working Command = false
working (Naming count taken command) = false
working (Nodes coming count taken command) = false
working (Working turns) = true
working Stopped = false

-- 15.15, 20.10, 20.11: 10 while an update is at work, then 15 where the buffer is shorter than what is to be written
unfoldable pub finish_answer : State → List ℕ → Result ℕ Refusal
finish_answer s out = written_of (when (working s.awaited) 10) (length out) (last_text s)

-- 20.10, 20.11: and the buffer then
unfoldable pub finish_out : State → List ℕ → List ℕ
finish_out s out = buffer_after (when (working s.awaited) 10) out (last_text s)

-- 20.10, 20.11: what `finish` says: the answer, and what is printed then
abbrev pub FinishSays : State → List ℕ → Result ℕ Refusal → List ℕ → Type 0
FinishSays s out a out' = (a ≡ finish_answer s out) × (out' ≡ finish_out s out)

-- 20.11: what is waited for belongs to a table or a command that is not complete yet
abbrev pub inside : Awaited → Bool
inside (Table x) = true
inside Command = false
inside (Naming count taken command) = true
inside (Nodes coming count taken command) = true
inside (Working turns) = false
inside Stopped = false

-- ---- exactly when

-- 20.10: an update is at work
abbrev pub AtWork : Awaited → Type 0
AtWork awaited = (turns : ℕ) × (awaited ≡ Working turns)

-- 15.15: 10 then, and nothing else before 15
pub data Early (awaited : Awaited) : Refusal → Type 0 where
  by10 : AtWork awaited → Early awaited why.Busy

-- 15.15, 23.1: `finish` answers and leaves exactly that: 10 and the buffer as it was while an update is at work; else 15 exactly where the buffer is shorter than
-- what is to be written, and otherwise its length, and it stands at the buffer's start
abbrev pub FinishExactly : Type 0
FinishExactly = (s : State) (out : List ℕ) (a : Result ℕ Refusal) (out' : List ℕ)
    → FinishSays s out a out' ↔ Writes (Early s.awaited) (AtWork s.awaited → ⊥) out (last_text s) a out'
