-- Of all that a call could answer and leave, refused calls too, no two fit its statement. Behind each `Only` stands the relation that the call's contract cites, by its
-- name. Assumes nothing.
use Rattle.std.specs.Prelude.{List, ℕ, Result}
use Rattle.refusal.specs.Numbers.{NumberSays}
use Rattle.refusal.specs.Only.{Only, After}
use Rattle.refusal.specs.declared.Refusal.{Refusal}
use Rattle.sets.specs.declared.Equation.{Equation}
use Rattle.sets.specs.Members.{MembersSay, CountSays}
use Rattle.sets.specs.Operations.{ValueSays}
use Rattle.table.specs.Judge.{JudgeTableSays}
use Rattle.tree.specs.declared.Places.{Places}
use Rattle.tree.specs.Refusals.{JudgeTreeSays}
use Rattle.update.specs.declared.Record.{Record}
use Rattle.update.specs.Memories.{lent, Memory}
use Rattle.update.specs.Records.{EmptySays}
use Rattle.update_step.specs.declared.step.Stepped.{Stepped}
use Rattle.update_step.specs.declared.run.Ran.{Ran}
use Rattle.update.specs.declared.Run.{Run}
use Rattle.engine.specs.Lent.{LoadLeaves, PointsLeave, ReplaceLeaves, StepLeaves, RunLeaves, RanLeaves, ReadSays}

-- ---- 23.9: the calls that leave nothing but their answer

pub record AnswersOne : Type 0 where
  pub number : (r : Refusal) → Only (NumberSays r)
  pub members : (s : ℕ) → Only (MembersSay s)
  pub count : (s : ℕ) → Only (CountSays s)
  pub value : (e : Equation) (own a b : ℕ) → Only (ValueSays e own a b)
  pub judge_table : (t : List ℕ) → Only (JudgeTableSays t)
  pub judge_tree : (t ns owns : List ℕ) → Only (JudgeTreeSays t ns owns)
  pub empty : Only EmptySays

-- ---- 23.9: the engine's calls, of any table, memory and record: answer, record and what is found in the buffers that the call may write

-- 23.9: `load`, `replace` and `replace_points` may write all four; `step`, `run_record` and `run` the sets, and `run` the record that it is lent; `read` none.
-- Where nothing is refused the record to go on with is in the answer of all but `run`
pub record LeavesOne (t held owns sets earlier : List ℕ) (r : Record) : Type 0 where
  pub load : (ns new_owns : List ℕ) → Only (λ (x : After (Result Record Refusal) Memory). LoadLeaves t (lent held owns sets earlier) r ns new_owns x.answer x.found)
  pub replace : (point : ℕ) (ns new_owns : List ℕ)
      → Only (λ (x : After (Result Record Refusal) Memory). ReplaceLeaves t (lent held owns sets earlier) r point ns new_owns x.answer x.found)
  pub replace_points : (points : Places) (ns new_owns : List ℕ)
      → Only (λ (x : After (Result Record Refusal) Memory). PointsLeave t (lent held owns sets earlier) r points ns new_owns x.answer x.found)
  pub step : Only (λ (x : After (Result Stepped Refusal) (List ℕ)). StepLeaves t held owns sets earlier r x.answer x.found)
  pub run_record : (budget : ℕ) → Only (λ (x : After (Result Ran Refusal) (List ℕ)). RanLeaves t held owns sets earlier r budget x.answer x.found)
  pub run : (budget : ℕ) → Only (λ (x : After (Result Run Refusal) (After Record (List ℕ))). RunLeaves t held owns sets earlier r budget x.answer x.found.answer x.found.found)
  pub read : (x : ℕ) → Only (ReadSays t (lent held owns sets earlier) r x)

-- 23.9: whatever is lent
abbrev pub EveryLeavesOne : Type 0
EveryLeavesOne = (t held owns sets earlier : List ℕ) (r : Record) → LeavesOne t held owns sets earlier r
