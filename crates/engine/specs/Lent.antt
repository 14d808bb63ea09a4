-- What a call leaves as one value: the contracts equate it with the call's definition. Assumes nothing.
use Rattle.std.specs.Prelude.{◌≡◌, List, ℕ, Result, Ok, Err}
use Rattle.refusal.specs.declared.Refusal.{Refusal}
use Rattle.update.specs.Memories.{lent, Memory}
use Rattle.update.specs.Steps.{Outcome}
use Rattle.update.specs.Calls.{Said, answer_says, RunOutcome, run_says, call_says, reading_says, Left, step_call, run_call, read_call}
use Rattle.update.specs.declared.Record.{Record}
use Rattle.update.specs.declared.Run.{Run}
use Rattle.update_step.specs.declared.step.Stepped.{Stepped}
use Rattle.update_step.specs.declared.run.Ran.{Ran}
pub use Rattle.update_open.specs.Lent.{opened_says, record_after, begun, LoadLeaves, PointsLeave, ReplaceLeaves}

-- 10.8, 23.10: what a step answers
abbrev pub step_says : Result Stepped Refusal → Said Outcome
step_says = call_says (λ d. answer_says d.answer)

-- 10.8, 15.1: the record behind it: the caller's own where it is refused
abbrev pub step_record : Record → Result Stepped Refusal → Record
step_record r (Ok d) = d.record
step_record r (Err e) = r

-- 10.8: a step's
abbrev pub stepped : Record → Result Stepped Refusal → Memory → Left (Said Outcome)
stepped r a m = record { answer = step_says a; next = step_record r a; memory = m }

-- 12.2: a run's
abbrev pub ran : Result Run Refusal → Record → Memory → Left (Said RunOutcome)
ran a r m = record { answer = call_says run_says a; next = r; memory = m }

-- 12.1, 12.4, 23.9: a run over a record that is lent: what it answers, the record and the sets that it leaves; it only reads the other buffers
pub record RunLeaves (t held owns sets earlier : List ℕ) (r : Record) (budget : ℕ) (answer : Result Run Refusal) (next : Record) (sets' : List ℕ) : Type 0 where
  pub left : ran answer next (lent held owns sets' earlier) ≡ run_call t (lent held owns sets earlier) r budget

-- 12.4: of a run with the record by value, the answer, and the record behind it: the caller's own where it is refused
abbrev pub run_answer : Result Ran Refusal → Result Run Refusal
run_answer (Ok d) = Ok d.answer
run_answer (Err e) = Err e

abbrev pub run_after : Record → Result Ran Refusal → Record
run_after r (Ok d) = d.record
run_after r (Err e) = r

-- 12.1, 12.4, 23.9: and so of that run
abbrev pub RanLeaves : List ℕ → List ℕ → List ℕ → List ℕ → List ℕ → Record → ℕ → Result Ran Refusal → List ℕ → Type 0
RanLeaves t held owns sets earlier r budget a sets' = RunLeaves t held owns sets earlier r budget (run_answer a) (run_after r a) sets'

-- 10.3, 23.9: a step: what it answers, the record and the sets that it leaves; it only reads the other buffers
abbrev pub StepLeaves : List ℕ → List ℕ → List ℕ → List ℕ → List ℕ → Record → Result Stepped Refusal → List ℕ → Type 0
StepLeaves t held owns sets earlier r answer sets' = stepped r answer (lent held owns sets' earlier) ≡ step_call t (lent held owns sets earlier) r

-- 13.1, 13.3, 23.9: a reading of instance x: what it answers; it only reads
abbrev pub ReadSays : List ℕ → Memory → Record → ℕ → Result ℕ Refusal → Type 0
ReadSays t m r x answer = reading_says answer ≡ read_call t m r x
