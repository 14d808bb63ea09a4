-- What the code's answers are: a step and a run, wholly as they are defined. Assumes nothing.
use Rattle.std.specs.Prelude.{◌≡◌, List, ℕ}
use Rattle.update.specs.declared.Record.{Record}
use Rattle.update.specs.declared.Answer.{Answer}
use Rattle.update.specs.declared.Run.{Run}
use Rattle.update.specs.Steps.{Made, RunMade}
use Rattle.update.specs.Calls.{said, answer_says, run_says}

-- 10.8, 11.2: a step: the answer, the record and the sets are those that are made
pub record StepSays (m : Made) (a : Answer) (r : Record) (s : List ℕ) : Type 0 where
  pub answer : answer_says a ≡ said m.outcome
  pub next : r ≡ m.next
  pub sets : s ≡ m.sets

-- 12.2: a run: the rounds made and the ending, the record and the sets
pub record RunSays (m : RunMade) (a : Run) (r : Record) (s : List ℕ) : Type 0 where
  pub answer : run_says a ≡ said (record { rounds = m.rounds; ending = m.ending })
  pub next : r ≡ m.next
  pub sets : s ≡ m.sets
