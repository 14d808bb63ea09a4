-- The engine's calls, each whole: for any table, tree, record and memory what it answers and what it leaves in the record and in every buffer.
-- Assumes nothing.
use Rattle.std.specs.Prelude.{Result, Ok, Err, List, [], ◌∷◌, ℕ, zero, suc, ◌+◌, ◌-◌, ◌*◌, length}
use Rattle.refusal.specs.Numbers.{number_of}
use Rattle.refusal.specs.declared.Refusal.{Refusal}
use Rattle.tree.specs.declared.Point.{Point}
use Rattle.tree.specs.Replace.{part}
use Rattle.tree.specs.Points.{Part, points_row}
use Rattle.circles.specs.Ranked.{ranked, keep, up_from}
use Rattle.climb.specs.System.{System, graph_of}
use Rattle.climb.specs.Memory.{at}
use Rattle.wire.specs.Instances.{declared, system}
use Rattle.update.specs.declared.Record.{Record}
use Rattle.update.specs.declared.Open.TheVariants.{Load, Replacement}
use Rattle.update.specs.declared.Answer.{Answer}
use Rattle.update.specs.declared.Answer.TheVariants.{Round, Done}
use Rattle.update.specs.declared.Run.{Run}
use Rattle.update.specs.declared.Run.TheVariants.{Paused, Finished}
use Rattle.update.specs.Records.{opened}
use Rattle.update.specs.Memories.{Memory, nodes_of, owns_of, loaded, replaced, replaced_row}
use Rattle.update.specs.Refusals.{load_refusal, replace_refusal, nodes_left, points_refusal, step_refusal, read_refusal}
use Rattle.update.specs.Steps.{Outcome, round, done, Made, step_of, Ending, paused, finished, RunMade, run_of}

-- ---- 8.5, 15.1: an answer is a refusal's number, or what was asked for

pub data Said (A : Type 0) : Type 0 where
  refused : ℕ → Said A
  said : A → Said A

-- 10.8, 11.2, 23.10: the number and the values of each answer of a step that nothing refuses
abbrev pub answer_says : Answer → Said Outcome
answer_says (Round least k size closed) = said (round least k size closed)
answer_says (Done circles evaluations changed) = said (done circles evaluations changed)

-- 12.2: the rounds made and how the run ended
pub record RunOutcome : Type 0 where
  pub rounds : ℕ
  pub ending : Ending

abbrev pub run_outcome : ℕ → Ending → RunOutcome
run_outcome n e = record { rounds = n; ending = e }

-- 12.2, 23.10: the number and the values of each answer of a run that nothing refuses
abbrev pub run_says : Run → Said RunOutcome
run_says (Paused n) = said (run_outcome n paused)
run_says (Finished n circles evaluations changed) = said (run_outcome n (finished circles evaluations changed))

-- 15.1, 23.10: what a call answers, where `Says` gives the values of what it was asked for; and its refusal's number
abbrev pub call_says : {A B : Type 0} → (A → Said B) → Result A Refusal → Said B
call_says Says (Ok a) = Says a
call_says Says (Err r) = refused (number_of r)

-- 13.1, 23.10: the number and the value of each answer of a reading
abbrev pub reading_says : Result ℕ Refusal → Said ℕ
reading_says = call_says said

-- ---- what a call comes to

-- 7.1: the answer, and what is left in the record and in the buffers
pub record Left (A : Type 0) : Type 0 where
  pub answer : A
  pub next : Record
  pub memory : Memory

-- a call that answers a, and leaves r in the record and m in the memory
abbrev pub leaving : {A : Type 0} → A → Record → Memory → Left (Said A)
leaving a r m = record { answer = said a; next = r; memory = m }

-- 15.1, 15.2: a call whose refusal number is n: refused, with all as it was, or carried out
abbrev pub unless : {A : Type 0} → ℕ → Record → Memory → Left (Said A) → Left (Said A)
unless zero r m left = left
unless (suc n) r m left = record { answer = refused (suc n); next = r; memory = m }

-- 8.5: load and replacement answer nothing but that the update is open
pub data Opened : Type 0 where
  is_open : Opened

-- 7.4: a load's point: 0 and the node count
abbrev pub load_point : ℕ → Point
load_point n = record { node = 0; count = n }

-- 8.1, 8.3: a load of the nodes ns with the own sets owns
unfoldable pub load_call : List ℕ → Memory → Record → List ℕ → List ℕ → Left (Said Opened)
load_call t m r ns owns =
    unless (load_refusal t m r ns owns) r m (leaving is_open (opened Load (length ns) (load_point (length ns) ∷ [])) (loaded m ns owns))

-- 9.1, 9.9: a replacement at one point
unfoldable pub replace_call : List ℕ → Memory → Record → ℕ → List ℕ → List ℕ → Left (Said Opened)
replace_call t m r point new new_owns =
    unless (replace_refusal t m r point new new_owns) r m (leaving is_open
    (opened Replacement (r.nodes - part t (nodes_of m r.nodes) point + length new) (record { node = point; count = length new } ∷ []))
    (replaced t m r.nodes point new new_owns))

-- 9.2, 9.9: a replacement at one to eight points, each with its new part; the record has them by their numbers in the new tree
unfoldable pub points_call : List ℕ → Memory → Record → List Part → Left (Said Opened)
points_call t m r ps =
    unless (points_refusal t m r ps) r m (record {
      answer = said is_open;
      next = opened Replacement (nodes_left t m r ps) (points_row t (nodes_of m r.nodes) ps);
      memory = replaced_row t m r.nodes ps;
    })

-- 7.5: the system and the circles of the held tree
abbrev pub system_of : List ℕ → Memory → Record → System
system_of t m r = system t (nodes_of m r.nodes) (owns_of m r.nodes)

abbrev pub circles_of : List ℕ → Memory → Record → List (List ℕ)
circles_of t m r = ranked (graph_of (system_of t m r))

-- 10.6: the memory with other sets
abbrev pub with_sets : Memory → List ℕ → Memory
with_sets m s = record { productions = m.productions; owns = m.owns; sets = s; earlier = m.earlier }

abbrev pub step_left : Memory → Made → Left (Said Outcome)
step_left m made = leaving made.outcome made.next (with_sets m made.sets)

-- 10.3: a step
unfoldable pub step_call : List ℕ → Memory → Record → Left (Said Outcome)
step_call t m r = unless (step_refusal t m r) r m (step_left m (step_of (system_of t m r) (circles_of t m r) r m.earlier m.sets))

abbrev pub run_left : Memory → RunMade → Left (Said RunOutcome)
run_left m ran = leaving (run_outcome ran.rounds ran.ending) ran.next (with_sets m ran.sets)

-- 12.1: a run with a budget
unfoldable pub run_call : List ℕ → Memory → Record → ℕ → Left (Said RunOutcome)
run_call t m r budget = unless (step_refusal t m r) r m (run_left m (run_of (system_of t m r) (circles_of t m r) m.earlier budget r m.sets))

-- 13.3: reading changes nothing
abbrev pub unless_read : {A : Type 0} → ℕ → A → Said A
unless_read zero a = said a
unless_read (suc n) a = refused (suc n)

-- 13.1: the set of an instance
unfoldable pub read_call : List ℕ → Memory → Record → ℕ → Said ℕ
read_call t m r x = unless_read (read_refusal t m r x) (at m.sets x)

-- 13.2: what a dump tells: each declared instance, rising
unfoldable pub dumped : List ℕ → Memory → Record → List ℕ
dumped t m r = keep (declared t (nodes_of m r.nodes)) (up_from 0 (8 * r.nodes))
