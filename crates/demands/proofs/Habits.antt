-- By the habits that are taught a step is our step, and a run our run. Assumes nothing.
use mathlib.Core.Path.{◌≡◌, refl, ap, ◌∙◌}
use mathlib.Core.Bool.{Bool, true, false, cond}
use mathlib.Core.List.{List}
use Prim.Native.Nat.{ℕ, zero, suc}
use lib.Dec.{ltb}
use lib.ListN.{length, take}
use Rattle.circles.specs.Ranked.{circle_at, ranked}
use Rattle.climb.specs.System.{System, graph_of}
use Rattle.wire.specs.Instances.{system}
use Rattle.update.specs.declared.Record.{Record}
use Rattle.update.specs.Records.{shut}
use Rattle.update.specs.Memories.{Memory}
use Rattle.update.specs.Refusals.{step_refusal}
use Rattle.update.specs.Steps.{round_number, from_of, to_of, closed_of, round_record, Made, round_made, done_made, due_from, step_of, RunMade, run_of}
use Rattle.update.specs.Calls.{unless, system_of, circles_of, with_sets, run_left, step_call, run_call}
use Rattle.demands.specs.Habits.{step_by, run_by, taught, TaughtIsOurs}
use Rattle.demands.proofs.Rows.{again}

-- a step leaves the number of nodes
either_nodes : (b : Bool) (x y : Made) (n : ℕ) → x.next.nodes ≡ n → y.next.nodes ≡ n → (cond b x y).next.nodes ≡ n
either_nodes true x y n h k = h
either_nodes false x y n h k = k

record_nodes : (r : Record) (i k size : ℕ) (closed : Bool) → (round_record r i k size closed).nodes ≡ r.nodes
unfolding round_record
record_nodes r i k size true = refl
record_nodes r i k size false = refl

round_nodes : (S : System) (C : List ℕ) (r : Record) (i k : ℕ) (s : List ℕ) → (round_made S C r i k s).next.nodes ≡ r.nodes
unfolding round_made
round_nodes S C r i k s = record_nodes r i k (length C) (closed_of S C (from_of S C k s) (to_of S C (from_of S C k s)))

step_nodes : (S : System) (R : List (List ℕ)) (r : Record) (b s : List ℕ) → (step_of S R r b s).next.nodes ≡ r.nodes
unfolding step_of done_made shut
step_nodes S R r b s =
    let i = due_from S R r b s in
    either_nodes (ltb i (length R)) (round_made S (circle_at R i) r i (round_number r i) s) (done_made S r b s) r.nodes
    (round_nodes S (circle_at R i) r i (round_number r i) s) refl

taught_run : (t : List ℕ) (n : ℕ) (m : Memory) (r : Record) → run_by taught t n m r ≡ run_of (system_of t m r) (circles_of t m r) m.earlier n r m.sets
unfolding run_by run_of step_by step_of due_from round_made
taught_run t zero m r = refl
taught_run t (suc n) m r =
    let S = system_of t m r in
    let R = circles_of t m r in
    let k = step_of S R r m.earlier m.sets in
    let e : k.next.nodes ≡ r.nodes = step_nodes S R r m.earlier m.sets in
    again k.outcome k.next k.sets (λ r s. run_by taught t n (with_sets m s) r) (run_of S R m.earlier n)
    (taught_run t n (with_sets m k.sets) k.next
    ∙ ap (λ (i : ℕ). let S = system t (take i m.productions) (take i m.owns) in run_of S (ranked (graph_of S)) m.earlier n k.next k.sets) e)

pub taught_is_ours : TaughtIsOurs
unfolding step_by step_call step_of due_from round_made run_call
taught_is_ours = record {
  step = λ t m r. refl;
  run = λ t m r budget. ap (λ (a : RunMade). unless (step_refusal t m r) r m (run_left m a)) (taught_run t budget m r);
}
