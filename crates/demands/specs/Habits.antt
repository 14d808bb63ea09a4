-- A step taken apart into five habits, and the engine that steps by them: those that are taught are ours. Assumes nothing.
use Rattle.std.specs.Prelude.{◌≡◌, Bool, cond, List, ℕ, zero, suc, ◌-◌, ltb, length, get_or}
use Rattle.circles.specs.Ranked.{circle_at, ranked}
use Rattle.climb.specs.System.{Assignment, System, graph_of}
use Rattle.climb.specs.Climb.{least_from}
use Rattle.climb.specs.Circuit.{due_of}
use Rattle.climb.specs.Memory.{at}
use Rattle.update.specs.declared.Record.{Record}
use Rattle.update.specs.Memories.{Memory}
use Rattle.update.specs.Refusals.{step_refusal}
use Rattle.update.specs.Steps.{sown_of, round, Made, round_number, from_of, to_of, closed_of, round_record, done_made, paused, RunMade, continued}
use Rattle.update.specs.Calls.{unless, system_of, with_sets, step_left, run_left, load_call, points_call, step_call, run_call, read_call}
use Rattle.demands.specs.Engine.{Engine}

-- 10.2, 10.5, 10.6, 10.7: the equations; which circle is due; the sets that a round starts from and leaves; when it closes the circle
pub record Habits : Type 0 where
  pub equations : List ℕ → Memory → Record → System
  pub due : System → (ℕ → Bool) → Assignment → Assignment → List ℕ → Bool
  pub from : System → List ℕ → ℕ → List ℕ → List ℕ
  pub to : System → List ℕ → List ℕ → List ℕ
  pub closed : System → List ℕ → List ℕ → List ℕ → Bool

-- 10.3: a step by these habits
unfoldable pub step_by : Habits → List ℕ → Memory → Record → Made
step_by h t m r =
    let S = h.equations t m r in
    let R = ranked (graph_of S) in
    let i = least_from (λ i. h.due S (sown_of r) (at m.earlier) (at m.sets) (circle_at R i)) (length R - r.rank) r.rank in
    let C = circle_at R i in
    let k = round_number r i in
    let from = h.from S C k m.sets in
    let to = h.to S C from in
    let closed = h.closed S C from to in
    cond (ltb i (length R)) (record { outcome = round (get_or C 0 0) k (length C) closed; next = round_record r i k (length C) closed; sets = to })
    (done_made S r m.earlier m.sets)

-- 12.1: a run is steps
unfoldable pub run_by : Habits → List ℕ → ℕ → Memory → Record → RunMade
run_by h t zero m r = record { rounds = 0; ending = paused; next = r; sets = m.sets }
run_by h t (suc n) m r =
    let k = step_by h t m r in
    continued k.outcome k.next k.sets (λ r s. run_by h t n (with_sets m s) r)

abbrev pub acting : Habits → Engine
acting h = record {
  load = load_call;
  replace = points_call;
  step = λ t m r. unless (step_refusal t m r) r m (step_left m (step_by h t m r));
  run = λ t m r budget. unless (step_refusal t m r) r m (run_left m (run_by h t budget m r));
  read = read_call;
}

-- the habits of our steps
abbrev pub taught : Habits
taught = record { equations = system_of; due = due_of; from = from_of; to = to_of; closed = closed_of }

-- with them a step is our step and a run our run; load, replacement and reading are ours in any case
pub record TaughtIsOurs : Type 0 where
  pub step : (t : List ℕ) (m : Memory) (r : Record) → (acting taught).step t m r ≡ step_call t m r
  pub run : (t : List ℕ) (m : Memory) (r : Record) (budget : ℕ) → (acting taught).run t m r budget ≡ run_call t m r budget
