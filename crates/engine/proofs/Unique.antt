-- What an answer says leads back to the answer, so no second answer, record or memory fits a call's statement. Assumes nothing.
use Rattle.std.specs.Prelude.{Result, Ok, Err}
use mathlib.Core.Path.{◌≡◌, refl, ap}
use mathlib.Core.List.{List}
use Prim.Native.Nat.{ℕ}
use Rattle.refusal.specs.Numbers.{number_of}
use Rattle.refusal.specs.Only.{Only, After}
use Rattle.refusal.specs.declared.Refusal.{Refusal}
use Rattle.refusal.proofs.Distinct.{named, number_back}
use Rattle.refusal.proofs.Fitting.{only_equal, only_said, only_verdict}
use Rattle.sets.specs.Members.{members_of, count_of}
use Rattle.sets.specs.Operations.{value_of}
use Rattle.table.specs.Judge.{judge_table}
use Rattle.tree.specs.Handed.{named_points, handed_row}
use Rattle.tree.specs.Refusals.{tree_refusal}
use Rattle.update.specs.declared.Record.{Record}
use Rattle.update.specs.declared.Answer.{Answer}
use Rattle.update.specs.declared.Answer.TheVariants.{Round, Done}
use Rattle.update.specs.declared.Run.{Run}
use Rattle.update.specs.declared.Run.TheVariants.{Paused, Finished}
use Rattle.update.specs.Memories.{lent, Memory}
use Rattle.update.specs.Records.{empty_record}
use Rattle.update.specs.Steps.{Outcome, round, done, Ending, paused, finished}
use Rattle.update.specs.Calls.{Said, refused, said, answer_says, RunOutcome, run_says, call_says, reading_says, Left, Opened, load_call, points_call, replace_call, step_call, run_call, read_call}
use Rattle.update_step.specs.declared.step.Stepped.{Stepped}
use Rattle.update_step.specs.declared.run.Ran.{Ran}
use Rattle.engine.specs.Lent.{begun, stepped, ran, run_answer, run_after}
use Rattle.engine.specs.Unique.{AnswersOne, EveryLeavesOne}

-- ---- back from what an answer says

abbrev call_back : {A B : Type 0} → (B → A) → Said B → Result A Refusal
call_back back (said x) = Ok (back x)
call_back back (refused n) = Err (named n)

abbrev outcome_back : Outcome → Answer
outcome_back (round least k size closed) = Round least k size closed
outcome_back (done circles evaluations changed) = Done circles evaluations changed

abbrev answer_back : Said Outcome → Result Answer Refusal
answer_back = call_back outcome_back

answer_back_lem : (a : Result Answer Refusal) → answer_back (call_says answer_says a) ≡ a
answer_back_lem (Ok (Round least k size closed)) = refl
answer_back_lem (Ok (Done circles evaluations changed)) = refl
answer_back_lem (Err r) = ap Err (number_back r)

abbrev end_back : ℕ → Ending → Run
end_back n paused = Paused n
end_back n (finished circles evaluations changed) = Finished n circles evaluations changed

abbrev run_back : RunOutcome → Run
run_back x = end_back x.rounds x.ending

run_back_lem : (a : Result Run Refusal) → call_back run_back (call_says run_says a) ≡ a
run_back_lem (Ok (Paused n)) = refl
run_back_lem (Ok (Finished n circles evaluations changed)) = refl
run_back_lem (Err r) = ap Err (number_back r)

reading_back_lem : (a : Result ℕ Refusal) → call_back (λ v. v) (reading_says a) ≡ a
reading_back_lem (Ok v) = refl
reading_back_lem (Err r) = ap Err (number_back r)

-- ---- and from what a call comes to: of a call that is carried out, the record to go on with is in the answer

abbrev begun_back : Left (Said Opened) → After (Result Record Refusal) Memory
begun_back l = record { answer = call_back (λ o. l.next) l.answer; found = l.memory }

abbrev step_back : Record → Outcome → Stepped
step_back next o = record { answer = outcome_back o; «record» = next }

step_back_lem : (next : Record) (a : Answer) → call_back (step_back next) (answer_says a) ≡ Ok (record { answer = a; «record» = next })
step_back_lem next (Round least k size closed) = refl
step_back_lem next (Done circles evaluations changed) = refl

abbrev stepped_back : Left (Said Outcome) → After (Result Stepped Refusal) (List ℕ)
stepped_back l = record { answer = call_back (step_back l.next) l.answer; found = l.memory.sets }

abbrev ran_back : Record → RunOutcome → Ran
ran_back next x = record { answer = run_back x; «record» = next }

ran_back_lem : (next : Record) (a : Run) → call_back (ran_back next) (run_says a) ≡ Ok (record { answer = a; «record» = next })
ran_back_lem next (Paused n) = refl
ran_back_lem next (Finished n circles evaluations changed) = refl

abbrev run_record_back : Left (Said RunOutcome) → After (Result Ran Refusal) (List ℕ)
run_record_back l = record { answer = call_back (ran_back l.next) l.answer; found = l.memory.sets }

abbrev run_lent_back : Left (Said RunOutcome) → After (Result Run Refusal) (After Record (List ℕ))
run_lent_back l = record { answer = call_back run_back l.answer; found = record { answer = l.next; found = l.memory.sets } }

begun_back_lem : (r : Record) (a : Result Record Refusal) (m : Memory) → begun_back (begun r a m) ≡ record { answer = a; found = m }
begun_back_lem r (Ok next) m = refl
begun_back_lem r (Err e) m = ap (λ (q : Refusal). record { answer = Err q; found = m }) (number_back e)

module _ (held owns earlier : List ℕ) where
  run_lent_back_lem : (x : After (Result Run Refusal) (After Record (List ℕ))) → run_lent_back (ran x.answer x.found.answer (lent held owns x.found.found earlier)) ≡ x
  run_lent_back_lem x = ap (λ (a : Result Run Refusal). record { answer = a; found = x.found }) (run_back_lem x.answer)

  module _ (r : Record) where
    stepped_back_lem : (a : Result Stepped Refusal) (s : List ℕ) → stepped_back (stepped r a (lent held owns s earlier)) ≡ record { answer = a; found = s }
    stepped_back_lem (Ok d) s = ap (λ (q : Result Stepped Refusal). record { answer = q; found = s }) (step_back_lem d.«record» d.answer)
    stepped_back_lem (Err e) s = ap (λ (q : Refusal). record { answer = Err q; found = s }) (number_back e)

    run_record_back_lem : (a : Result Ran Refusal) (s : List ℕ) → run_record_back (ran (run_answer a) (run_after r a) (lent held owns s earlier)) ≡ record { answer = a; found = s }
    run_record_back_lem (Ok d) s = ap (λ (q : Result Ran Refusal). record { answer = q; found = s }) (ran_back_lem d.«record» d.answer)
    run_record_back_lem (Err e) s = ap (λ (q : Refusal). record { answer = Err q; found = s }) (number_back e)

-- ---- no second fits

pub answers_one : AnswersOne
answers_one = record {
  number = λ r. only_equal (number_of r);
  members = λ s. only_equal (members_of s);
  count = λ s. only_equal (count_of s);
  value = λ e own a b. only_equal (value_of e.op own a b);
  judge_table = λ t. only_verdict (judge_table t);
  judge_tree = λ t ns owns. only_verdict (tree_refusal t ns owns);
  empty = only_equal empty_record;
}

opens : (r : Record) (l : Left (Said Opened)) → Only (λ (x : After (Result Record Refusal) Memory). begun r x.answer x.found ≡ l)
opens r l = only_said (λ x. begun r x.answer x.found) begun_back (λ x. begun_back_lem r x.answer x.found) l

pub every_leaves_one : EveryLeavesOne
every_leaves_one t held owns sets earlier r = record {
  load = λ ns new_owns. opens r (load_call t (lent held owns sets earlier) r ns new_owns);
  replace = λ point ns new_owns. opens r (replace_call t (lent held owns sets earlier) r point ns new_owns);
  replace_points = λ points ns new_owns. opens r (points_call t (lent held owns sets earlier) r (handed_row (named_points points) ns new_owns));
  step = only_said (λ x. stepped r x.answer (lent held owns x.found earlier)) stepped_back (λ x. stepped_back_lem held owns earlier r x.answer x.found)
      (step_call t (lent held owns sets earlier) r);
  run_record = λ budget. record {
    one = λ x y p q.
        (only_said (λ x. ran (run_answer x.answer) (run_after r x.answer) (lent held owns x.found earlier)) run_record_back (λ x. run_record_back_lem held owns earlier r x.answer x.found)
        (run_call t (lent held owns sets earlier) r budget)).one x y p.left q.left;
  };
  run = λ budget. record {
    one = λ x y p q.
        (only_said (λ x. ran x.answer x.found.answer (lent held owns x.found.found earlier)) run_lent_back (run_lent_back_lem held owns earlier)
        (run_call t (lent held owns sets earlier) r budget)).one x y p.left q.left;
  };
  read = λ x. only_said reading_says (call_back (λ v. v)) reading_back_lem (read_call t (lent held owns sets earlier) r x);
}
