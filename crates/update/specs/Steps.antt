-- Sown, due, one step of an update and a run of steps, over any system and any circles. Assumes nothing.
use Rattle.std.specs.Prelude.{Bool, cond, not, ◌&&◌, ◌||◌, List, ℕ, zero, suc, ◌+◌, ◌-◌, min, eqb, ltb, length, get_or}
use Rattle.circles.specs.Ranked.{circle_at, all_of, keep, up_from, lone_of}
use Rattle.climb.specs.System.{System, graph_of}
use Rattle.climb.specs.Climb.{least_from}
use Rattle.climb.specs.Circuit.{due_of}
use Rattle.climb.specs.Memory.{at, empty_on, round_on}
use Rattle.tree.specs.Points.{is_old}
use Rattle.wire.specs.Instances.{node_of}
use Rattle.wire.specs.Points.{sown_at}
use Rattle.update.specs.declared.Record.{Record}
use Rattle.update.specs.Records.{circles_most, round_most, evaluations_most, is_load, points_of, shut, working}

-- 10.1: sown: in a load every instance; else the synthesized ones of each point, and all below it in its part
unfoldable pub sown_of : Record → ℕ → Bool
sown_of r x = is_load r.«open» || sown_at (points_of r) x

-- 7.10, 11.4: an instance of a surviving node
unfoldable pub survives : Record → ℕ → Bool
survives r x = is_old (points_of r) (node_of x)

-- 11.4: how many of those have another set than before; of a load none counts
unfoldable pub changed_of : System → Record → List ℕ → List ℕ → ℕ
changed_of S r earlier sets =
    cond (is_load r.«open») 0 (length (keep (λ x. S.declared x && survives r x && not (eqb (at sets x) (at earlier x))) (up_from 0 S.size)))

-- ---- one round of the circle C of rank i

-- 7.9, 10.4: its number: the recorded round goes on where it is of this rank, and else it is the first; at most the limit
unfoldable pub round_number : Record → ℕ → ℕ
round_number r i = min (suc (cond (eqb i r.rank) r.round 0)) round_most

-- 10.5: the sets that it begins with: of round 1 the circle's are emptied, unless it is lone
unfoldable pub from_of : System → List ℕ → ℕ → List ℕ → List ℕ
from_of S C k sets = cond (eqb k 1 && not (lone_of (graph_of S) C)) (empty_on C sets) sets

-- 10.6: the sets that it leaves
unfoldable pub to_of : System → List ℕ → List ℕ → List ℕ
to_of S C from = round_on S C from

-- 10.7: whether the circle closes by it
unfoldable pub closed_of : System → List ℕ → List ℕ → List ℕ → Bool
closed_of S C from to = lone_of (graph_of S) C || all_of (λ x. eqb (at to x) (at from x)) C

-- 7.9, 10.9: the record behind it: one more closed circle and the next rank, or this rank and round; its size is added to the evaluations
unfoldable pub round_record : Record → ℕ → ℕ → ℕ → Bool → Record
round_record r i k size closed =
    let evaluations = min (r.evaluations + size) evaluations_most in
    cond closed (working r (suc i) 0 (min (suc r.circles) circles_most) evaluations) (working r i k r.circles evaluations)

-- ---- a step

-- 10.8, 11.2: what a step comes to: a round of a circle, by its least instance, or done
pub data Outcome : Type 0 where
  round : (least number size : ℕ) (closed : Bool) → Outcome
  done : (circles evaluations changed : ℕ) → Outcome

-- 10.8, 10.9, 11.5: and what it leaves
pub record Made : Type 0 where
  pub outcome : Outcome
  pub next : Record
  pub sets : List ℕ

-- 10.5 to 10.9: one round, whole
unfoldable pub round_made : System → List ℕ → Record → ℕ → ℕ → List ℕ → Made
round_made S C r i k sets =
    let from = from_of S C k sets in
    let to = to_of S C from in
    let closed = closed_of S C from to in
    record { outcome = round (get_or C 0 0) k (length C) closed; next = round_record r i k (length C) closed; sets = to }

-- 11.1, 11.5: nothing is due: the update is closed, and all but the record stays
unfoldable pub done_made : System → Record → List ℕ → List ℕ → Made
done_made S r earlier sets = record { outcome = done r.circles r.evaluations (changed_of S r earlier sets); next = shut r.held r.nodes; sets = sets }

-- 10.3: the first due circle from the record's rank on, or a rank past the last
unfoldable pub due_from : System → List (List ℕ) → Record → List ℕ → List ℕ → ℕ
due_from S R r earlier sets = least_from (λ i. due_of S (sown_of r) (at earlier) (at sets) (circle_at R i)) (length R - r.rank) r.rank

-- 10.3, 11.1: one step: a round of that circle, or done if there is none
unfoldable pub step_of : System → List (List ℕ) → Record → List ℕ → List ℕ → Made
step_of S R r earlier sets =
    let i = due_from S R r earlier sets in
    cond (ltb i (length R)) (round_made S (circle_at R i) r i (round_number r i) sets) (done_made S r earlier sets)

-- ---- 12.1, 12.2, 12.3: a run of n rounds at most, and how it ends; where nothing is left of n not even the step that would be done is taken

-- 12.2: how a run ends: its budget is used up, or it is done
pub data Ending : Type 0 where
  paused : Ending
  finished : (circles evaluations changed : ℕ) → Ending

-- 12.2: the rounds made, the ending, and what the run leaves
pub record RunMade : Type 0 where
  pub rounds : ℕ
  pub ending : Ending
  pub next : Record
  pub sets : List ℕ

-- 12.1: behind a round the run goes on, and done ends it
abbrev pub continued : Outcome → Record → List ℕ → (Record → List ℕ → RunMade) → RunMade
continued (round a k n c) r s go = record { rounds = suc (go r s).rounds; ending = (go r s).ending; next = (go r s).next; sets = (go r s).sets }
continued (done a b c) r s go = record { rounds = 0; ending = finished a b c; next = r; sets = s }

-- 12.1, 12.3: a run with a budget of so many rounds
unfoldable pub run_of : System → List (List ℕ) → List ℕ → ℕ → Record → List ℕ → RunMade
run_of S R earlier zero r s = record { rounds = 0; ending = paused; next = r; sets = s }
run_of S R earlier (suc n) r s =
    let m = step_of S R r earlier s in
    continued m.outcome m.next m.sets (run_of S R earlier n)
