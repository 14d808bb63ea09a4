-- The rounds of an update, as many as there is room for, and those that are left. Assumes nothing.
use Rattle.std.specs.Prelude.{◌≡◌, cond, List, [], ◌++◌, ℕ, zero, suc, ◌+◌, ◌-◌, ◌≤◌, ◌<◌, ◌^◌, ltb, length, take}
use Rattle.std.proofs.lemmas.List.Edits.{sets}
use Rattle.update.specs.declared.Record.{Record}
use Rattle.update.specs.Memories.{lent, Memory}
use Rattle.update.specs.Steps.{Outcome, round, done}
use Rattle.update.specs.Calls.{Said, refused, said, with_sets, step_call}
use Rattle.update_judge.specs.Order.{Holding, Going}
use Rattle.engine.specs.Inner.Prepared.{ArraysHold}
use Rattle.session.specs.Session as session
use Rattle.session.specs.Session.{steps_told, text_before, outcome_text}
use Rattle.session_owed.specs.declared.Awaited.{Awaited}
use Rattle.session_owed.specs.declared.Awaited.TheVariants.{Command, Working}
use Rattle.session_owed.specs.declared.Told.{Told}

-- ---- the line of one answer

-- 18.1: its numbers have room in their fields, two to four bytes each; a refusal has no line
abbrev pub Printable : Said Outcome → Type 0
Printable (refused n) = ⊥
Printable (said (round least k size closed)) = (least < 2 ^ 16) × (k < 2 ^ 24) × (size < 2 ^ 16)
Printable (said (done circles evaluations changed)) = (circles < 2 ^ 16) × (evaluations < 2 ^ 32) × (changed < 2 ^ 16)

abbrev pub answer_text : Said Outcome → List ℕ
answer_text (refused n) = []
answer_text (said o) = outcome_text o

-- 20.6: it stands in the buffer from `printed` on, 19 bytes long, and the next is printed behind it
pub record AnswerPut (a : Said Outcome) (printed : ℕ) (out : List ℕ) (next : ℕ) (out' : List ℕ) : Type 0 where
  pub place : next ≡ printed + 19
  pub long : length (answer_text a) ≡ 19
  pub shown : out' ≡ sets out printed (answer_text a)

-- ---- the rounds that have room

-- what they print, and then the awaited, the record and the memory
pub record Worked : Type 0 where
  pub text : List ℕ
  pub awaited : Awaited
  pub next : Record
  pub memory : Memory

abbrev pub behind_text : List ℕ → Worked → Worked
behind_text text w = record { text = text ++ w.text; awaited = w.awaited; next = w.next; memory = w.memory }

-- 19.2: a step's answer, as in `step_then`: behind a round the steps that follow, else commands are heard again
abbrev pub step_within : Said Outcome → Record → Memory → (Record → Memory → Worked) → Worked
step_within (refused n) r m go = record { text = []; awaited = Command; next = r; memory = m }
step_within (said (round least k size closed)) r m go = behind_text (outcome_text (round least k size closed)) (go r m)
step_within (said (done circles evaluations changed)) r m go = record { text = outcome_text (done circles evaluations changed); awaited = Command; next = r; memory = m }

-- 20.6: n steps at the most, each while its line of 19 bytes has room; those that have none are left
unfoldable pub steps_within : ℕ → ℕ → List ℕ → Record → Memory → Worked
steps_within zero room t r m = record { text = []; awaited = Command; next = r; memory = m }
steps_within (suc n) room t r m =
    cond (ltb room 19)
    (record { text = []; awaited = Working (suc n); next = r; memory = m })
    (let l = step_call t m r in step_within l.answer l.next l.memory (steps_within n (room - 19) t))

-- ---- all the rounds

-- 20.6: where the rounds stop: the update is done with, or steps are left and a line has no room
pub data Rests (t : List ℕ) (m : Memory) (r : Record) (free : ℕ) : Awaited → session.Told → Type 0 where
  ended : {rest : session.Told} → rest ≡ record { text = []; next = r; memory = m } → Holding t m r → Rests t m r free Command rest
  full : {rest : session.Told} (turns : ℕ) → rest ≡ steps_told (suc turns) t r m → Going t m r → free < 19 → Rests t m r free (Working (suc turns)) rest

-- 20.1, 20.6: what was to be told of all the steps is what these print and what is left of them; no more is printed than there is room for, and of the memory
-- only the sets are written
pub record RoundsPaid (t : List ℕ) (m : Memory) (r : Record) (turns room : ℕ) (w : Worked) : Type 0 where
  pub rest : session.Told
  pub whole : steps_told turns t r m ≡ text_before w.text rest
  pub few : length w.text ≤ room
  pub rests : Rests t w.memory w.next (room - length w.text) w.awaited rest
  pub kept : w.memory ≡ with_sets m w.memory.sets
  pub size : length w.memory.sets ≡ length m.sets

-- 20.1: from every update that is at work
abbrev pub RoundsPay : Type 0
RoundsPay = (t : List ℕ) (m : Memory) (r : Record) (turns room : ℕ) → Going t m r → RoundsPaid t m r turns room (steps_within turns room t r m)

-- ---- what the code says of it: the text stands in the buffer from `printed` on; the awaited, the record and the next place are told
pub record RoundsTold (t : List ℕ) (m : Memory) (r : Record) (turns printed : ℕ) (out : List ℕ) (told : Told) (m' : Memory) (out' : List ℕ) : Type 0 where
  pub text : List ℕ
  pub exactly : steps_within turns (length out - printed) t r m ≡ record { text = text; awaited = told.awaited; next = told.«record»; memory = m' }
  pub shown : out' ≡ sets out printed text
  pub place : told.printed ≡ printed + length text

-- the same of the steps over the arrays, whatever memory they were made from: they hold the system of its tree
pub record TurnsTold (t owns : List ℕ) (n : ℕ) (a b left rule label members ends : List ℕ) (count : ℕ) (olds sets : List ℕ) (r : Record) (turns printed : ℕ)
    (out : List ℕ) (told : Told) (sets' out' : List ℕ) : Type 0 where
  pub rounds : (held held_owns : List ℕ) → Going t (lent held held_owns sets olds) r → owns ≡ take r.nodes held_owns
      → ArraysHold t (take r.nodes held) owns n a b left rule label members ends count
      → RoundsTold t (lent held held_owns sets olds) r turns printed out told (lent held held_owns sets' olds) out'
