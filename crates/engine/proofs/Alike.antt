-- A step and a run look at the members of circles alone: over two systems that agree on them they come to the same. Assumes nothing.
use mathlib.Core.Path.{◌≡◌, refl, ap, ◌∙◌}
use mathlib.Core.Bool.{Bool, true, cond, not, ◌&&◌, ◌||◌}
use mathlib.Core.List.{List, [], ◌∷◌}
use Prim.Native.Nat.{ℕ, zero, suc, ◌-◌, ◌<◌}
use borrow.Author.Tests.{eq-eqb}
use lib.Dec.{eqb, ltb}
use lib.ListN.{length, get_or}
use Rattle.circles.specs.Ranked.{circle_at, member, any_of, all_of, keep, up_from, lone_of}
use Rattle.climb.specs.System.{Assignment, System, graph_of}
use Rattle.climb.specs.Climb.{least_from}
use Rattle.climb.specs.Circuit.{due_of}
use Rattle.climb.specs.Memory.{at, empty_on}
use Rattle.circles.proofs.Lists.{or_two}
use Rattle.wire.specs.Inner.ArrayLaws.{SameSystem}
use Rattle.wire.proofs.Holding.{round_alike}
use Rattle.update.specs.declared.Record.{Record}
use Rattle.update.specs.Records.{is_load, shut}
use Rattle.update.specs.Steps.{sown_of, survives, changed_of, round_number, from_of, to_of, closed_of, round_record, round, done as finished, round_made, done_made, due_from, step_of, continued, run_of}

any_alike : (C : List ℕ) (p q : ℕ → Bool) → ((x : ℕ) → member C x ≡ true → p x ≡ q x) → any_of p C ≡ any_of q C
any_alike [] p q h = refl
any_alike (x ∷ C) p q h = rw (h x (rw (eq-eqb x x refl)), any_alike C p q (λ y m. h y (or_two (eqb y x) (member C y) m)))

module _ (S S' : System) (k : SameSystem S S') (R : List (List ℕ)) (inside : (i x : ℕ) → member (circle_at R i) x ≡ true → S.declared x ≡ true)
    (bound : (x : ℕ) → S.declared x ≡ true → x < S.size) where
  args_same : (i x : ℕ) → member (circle_at R i) x ≡ true → S.args x ≡ S'.args x
  args_same i x m = k.args x (bound x (inside i x m))

  due_same : (sown : ℕ → Bool) (b v : Assignment) (i : ℕ) → due_of S sown b v (circle_at R i) ≡ due_of S' sown b v (circle_at R i)
  unfolding due_of
  due_same sown b v i =
      let C = circle_at R i in
      let moved : ℕ → Bool = λ y. not (member C y) && not (eqb (v y) (b y)) in
      any_alike C (λ x. sown x || any_of moved (S.args x)) (λ x. sown x || any_of moved (S'.args x)) (λ x m. ap (λ (l : List ℕ). sown x || any_of moved l) (args_same i x m))

  from_same : (r : Record) (earlier sets : List ℕ) → due_from S R r earlier sets ≡ due_from S' R r earlier sets
  unfolding due_from
  from_same r earlier sets = λ j. least_from (λ i. due_same (sown_of r) (at earlier) (at sets) i j) (length R - r.rank) r.rank

  -- ---- a round of circle i

  lone_at : (C : List ℕ) → ((x : ℕ) → member C x ≡ true → S.args x ≡ S'.args x) → lone_of (graph_of S) C ≡ lone_of (graph_of S') C
  unfolding lone_of
  lone_at [] h = refl
  lone_at (x ∷ []) h = ap (λ (l : List ℕ). not (member l x)) (h x (rw (eq-eqb x x refl)))
  lone_at (x ∷ y ∷ C) h = refl

  module _ (r : Record) (i n : ℕ) (sets : List ℕ) where
    C : List ℕ
    C = circle_at R i

    lone_same : lone_of (graph_of S) C ≡ lone_of (graph_of S') C
    unfolding C
    lone_same = lone_at (circle_at R i) (args_same i)

    start_same : from_of S C n sets ≡ from_of S' C n sets
    unfolding from_of
    start_same = λ j. cond (eqb n 1 && not (lone_same j)) (empty_on C sets) sets

    end_same : to_of S C (from_of S C n sets) ≡ to_of S' C (from_of S' C n sets)
    unfolding to_of C
    end_same = (round_alike S S' k (circle_at R i) (from_of S (circle_at R i) n sets) (inside i)).stored ∙ ap (to_of S' (circle_at R i)) start_same

    closed_same : closed_of S C (from_of S C n sets) (to_of S C (from_of S C n sets)) ≡ closed_of S' C (from_of S' C n sets) (to_of S' C (from_of S' C n sets))
    unfolding closed_of
    closed_same = λ j. lone_same j || all_of (λ x. eqb (at (end_same j) x) (at (start_same j) x)) C

    round_same : round_made S (circle_at R i) r i n sets ≡ round_made S' (circle_at R i) r i n sets
    unfolding round_made C
    round_same = λ j. record { outcome = round (get_or (circle_at R i) 0 0) n (length (circle_at R i)) (closed_same j); next = round_record r i n (length (circle_at R i)) (closed_same j); sets = end_same j }

  -- ---- done, and a step

  done_same : (r : Record) (earlier sets : List ℕ) → done_made S r earlier sets ≡ done_made S' r earlier sets
  unfolding done_made changed_of
  done_same r earlier sets = λ j. record {
    outcome = finished r.circles r.evaluations (cond (is_load r.«open») 0 (length (keep (λ x. k.declared x j && survives r x && not (eqb (at sets x) (at earlier x))) (up_from 0 (k.size j)))));
    next = shut r.held r.nodes;
    sets = sets;
  }

  pub step_same : (r : Record) (earlier sets : List ℕ) → step_of S R r earlier sets ≡ step_of S' R r earlier sets
  unfolding step_of
  step_same r earlier sets =
      let i = due_from S R r earlier sets in
      (λ j. cond (ltb i (length R)) (round_same r i (round_number r i) sets j) (done_same r earlier sets j))
      ∙ ap (λ (i : ℕ). cond (ltb i (length R)) (round_made S' (circle_at R i) r i (round_number r i) sets) (done_made S' r earlier sets)) (from_same r earlier sets)

  pub run_same : (earlier : List ℕ) (n : ℕ) (r : Record) (sets : List ℕ) → run_of S R earlier n r sets ≡ run_of S' R earlier n r sets
  unfolding run_of
  run_same earlier zero r sets = refl
  run_same earlier (suc n) r sets = λ j. continued (step_same r earlier sets j).outcome (step_same r earlier sets j).next (step_same r earlier sets j).sets (λ q s. run_same earlier n q s j)
