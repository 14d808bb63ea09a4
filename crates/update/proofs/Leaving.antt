-- No call leaves a record that the next one refuses by 11: opened ones lie inside the tree, and at their limits numbers stay. Assumes nothing.
use mathlib.Core.Path.{◌≡◌, sym, ap, ◌∙◌}
use mathlib.Core.Bool.{Bool, true, false, cond}
use mathlib.Core.Logic.{⊎_elim}
use mathlib.Core.List.{List, [], ◌∷◌}
use Prim.Native.Nat.{ℕ, zero, suc, ◌≤◌, ◌<◌, zero-le}
use native.Mathlib.Omega.{arith}
use lib.Dec.{eqb, ltb}
use lib.ListN.{length}
use borrow.Author.Tests.{ltb-true}
use Rattle.tree.specs.Tree.{judge_nodes, judge_tree}
use Rattle.tree.specs.Points.{Part, points_row}
use Rattle.tree.proofs.Points.{row_count}
use Rattle.climb.proofs.Lists.{either}
use Rattle.update.specs.declared.Record.{Record}
use Rattle.update.specs.declared.Open.TheVariants.{Load, Replacement}
use Rattle.update.specs.Records.{beyond}
use Rattle.update.specs.Memories.{Memory, nodes_of}
use Rattle.update.specs.Refusals.{load_refusal, replace_refusal, nodes_left, points_refusal}
use Rattle.update.specs.Steps.{round_number, from_of, to_of, closed_of, round_record, Outcome, round, done, round_made, done_made, due_from, step_of, continued, RunMade, run_of}
use Rattle.update.specs.Calls.{Said, Left, Opened, load_point, load_call, replace_call, points_call}
use Rattle.update.specs.Within.{none, more, WithinLimits, StepWithin, RunWithin, AllOpenWithin}
use Rattle.update.proofs.Within.{beyond_means, all_open, all_shut}
use Rattle.update.proofs.Refusing.{all_exactly}
use Rattle.update.proofs.Several.{one_refusal, one_point, accepted}
use Rattle.circles.specs.Ranked.{circle_at}

-- ---- steps and runs

record_within : (r : Record) (i k n : ℕ) (closed : Bool) → WithinLimits r → i < 4092 → k ≤ 262145 → WithinLimits (round_record r i k n closed)
unfolding round_record
record_within r i k n true w l m = record {
  nodes = w.nodes;
  count = w.count;
  numbers = w.numbers;
  rank = l;
  round = zero-le;
  circles = omega arith;
  evaluations = omega arith;
  inside = w.inside;
}
record_within r i k n false w l m = record {
  nodes = w.nodes;
  count = w.count;
  numbers = w.numbers;
  rank = omega arith;
  round = m;
  circles = w.circles;
  evaluations = omega arith;
  inside = w.inside;
}

number_within : (r : Record) (i : ℕ) → round_number r i ≤ 262145
unfolding round_number
number_within r i = omega arith

pub step_within_lem : StepWithin
unfolding step_of round_made done_made
step_within_lem S R earlier r s l h = ⊎_elim
    (λ (e : ltb i (length R) ≡ true). let q : i < length R = ltb-true i (length R) e in
    rw e ((beyond_means (round_record r i (round_number r i) (length C) closed)).1
    (record_within r i (round_number r i) (length C) closed ((beyond_means r).0 h) (omega arith) (number_within r i))))
    (λ (e : ltb i (length R) ≡ false). rw e ((all_shut r.held r.nodes).within ((beyond_means r).0 h).nodes))
    (either (ltb i (length R)))
  where
    i : ℕ
    i = due_from S R r earlier s

    C : List ℕ
    C = circle_at R (due_from S R r earlier s)

    closed : Bool
    closed = closed_of S (circle_at R (due_from S R r earlier s)) (from_of S (circle_at R (due_from S R r earlier s)) (round_number r (due_from S R r earlier s)) s)
        (to_of S (circle_at R (due_from S R r earlier s)) (from_of S (circle_at R (due_from S R r earlier s)) (round_number r (due_from S R r earlier s)) s))

continued_within : (o : Outcome) (r : Record) (s : List ℕ) (go : Record → List ℕ → RunMade) → beyond r ≡ false → beyond (go r s).next ≡ false → beyond (continued o r s go).next ≡ false
continued_within (round a k c d) r s go h g = g
continued_within (done a c d) r s go h g = h

pub run_within : RunWithin
unfolding run_of
run_within S R earlier zero r s l h = h
run_within S R earlier (suc n) r s l h =
    let m = step_of S R r earlier s in
    let w = step_within_lem S R earlier r s l h in
    continued_within m.outcome m.next m.sets (run_of S R earlier n) w (run_within S R earlier n m.next m.sets l w)

-- ---- opened records

seven : (b : Bool) → cond {A = ℕ} b 7 7 ≡ 0 → ⊥
seven true h = omega arith
seven false h = omega arith

-- a tree that passes has a node
some_node : (t ns owns : List ℕ) (s : ℕ) → judge_tree t ns owns s ≡ 0 → 0 < length ns
unfolding judge_tree judge_nodes
some_node t [] owns s h = absurd (seven (eqb 0 (length owns)) h)
some_node t (p ∷ ns) owns s h = omega arith

module _ (t : List ℕ) (m : Memory) (r : Record) where
  load_within : (ns owns : List ℕ) → load_refusal t m r ns owns ≡ 0 → beyond (load_call t m r ns owns).next ≡ false
  unfolding load_call
  load_within ns owns h =
      let c = (((all_exactly t m r).load ns owns).none.0 h).1.1.1.1 in
      rw h ((all_open Load (length ns) (load_point (length ns) ∷ [])).within c.0 (omega arith) (omega arith)
      (more {q = load_point (length ns)} zero-le (some_node t ns owns 0 c.1.0) (omega arith) none))

  points_within : (ps : List Part) → points_refusal t m r ps ≡ 0 → beyond (points_call t m r ps).next ≡ false
  unfolding points_call
  points_within ps h =
      let a = accepted t m r ps h in
      let n : length (points_row t (nodes_of m r.nodes) ps) ≡ length ps = row_count t (nodes_of m r.nodes) 0 0 ps in
      rw h ((all_open Replacement (nodes_left t m r ps) (points_row t (nodes_of m r.nodes) ps)).within a.nodes (omega (arith, a.some)) (omega (arith, a.few)) a.apart)

  replace_within : (point : ℕ) (new new_owns : List ℕ) → replace_refusal t m r point new new_owns ≡ 0 → beyond (replace_call t m r point new new_owns).next ≡ false
  replace_within point new new_owns h =
      let p : Part = record { point = point; nodes = new; owns = new_owns } in
      ap (λ (k : Left (Said Opened)). beyond k.next) (sym (one_point t m r p)) ∙ points_within (p ∷ []) (one_refusal t m r p ∙ h)

pub all_open_within : AllOpenWithin
all_open_within t m r = record { load = load_within t m r; replace = replace_within t m r; points = points_within t m r }
