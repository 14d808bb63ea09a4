-- The dump as a call: for any table, record, memory and text buffer what it answers and what it leaves in the buffer; it only reads the rest. Assumes nothing.
use Rattle.std.specs.Prelude.{◌≡◌, List, map, ℕ, zero, suc, length, Result, Ok, Err}
use Rattle.std.proofs.lemmas.List.Edits.{sets}
use Rattle.refusal.specs.Numbers.{number_of}
use Rattle.update.specs.declared.Record.{Record}
use Rattle.update.specs.Memories.{Memory}
use Rattle.update.specs.Refusals.{dump_refusal}
use Rattle.update.specs.Calls.{Said, refused, said, dumped}
use Rattle.text_frame.specs.Out.{dump_text}
use Rattle.refusal.specs.declared.Refusal.{Refusal}
use Rattle.text_sets.specs.Telling.{held_in}

-- 13.2, 18.2: the text of a dump: a line for each declared instance, in their order
abbrev pub dumped_text : List ℕ → Memory → Record → List ℕ
dumped_text t m r = dump_text (map (held_in m.sets) (dumped t m r))

-- 23.10: what each answer says: a length, or a refusal's number
abbrev pub written_says : Result ℕ Refusal → Said ℕ
written_says (Ok n) = said n
written_says (Err r) = refused (number_of r)

-- the answer, and the text's buffer
pub record Wrote : Type 0 where
  pub answer : Said ℕ
  pub buffer : List ℕ

abbrev pub wrote : Result ℕ Refusal → List ℕ → Wrote
wrote w buffer = record { answer = written_says w; buffer = buffer }

-- 13.2, 15.1: a text is written where nothing refuses it: its length is answered, and what lies behind it is not touched. Where it is refused, the buffer is
-- as it was
abbrev pub unless_written : ℕ → List ℕ → List ℕ → Wrote
unless_written zero buffer text = record { answer = said (length text); buffer = sets buffer 0 text }
unless_written (suc n) buffer text = record { answer = refused (suc n); buffer = buffer }

-- 13.2, 15.10: the dump, refused in its order, where 15 for the text comes last
unfoldable pub dump_call : List ℕ → Memory → Record → List ℕ → Wrote
dump_call t m r buffer = unless_written (dump_refusal t m r (length buffer) (length (dumped_text t m r))) buffer (dumped_text t m r)

-- 13.2, 15.10: what `dump` says: the answer, and what the text's buffer holds then
abbrev pub DumpSays : List ℕ → Memory → Record → List ℕ → Result ℕ Refusal → List ℕ → Type 0
DumpSays t m r buffer a buffer' = wrote a buffer' ≡ dump_call t m r buffer
