-- The schedule of an update: its rounds follow each other circle by circle, and no second schedule fits. Assumes nothing.
use mathlib.Core.Path.{◌≡◌}
use mathlib.Core.Bool.{Bool, true}
use mathlib.Core.List.{List}
use Prim.Native.Nat.{ℕ, suc, ◌+◌, ◌≤◌, ◌<◌}
use native.Mathlib.Omega.{arith}
use lib.ListN.{length}
use Rattle.climb.specs.System.{Assignment, System}
use Rattle.climb.specs.Circuit.{worked_of, rounds_at, rounds_to}
use Rattle.climb.proofs.Sums.{turns_mono, turns_behind, one_turn}
use Rattle.update.specs.Course.{Scheduled, Schedule, OneSchedule}

module _ (S : System) (R : List (List ℕ)) (sown : ℕ → Bool) (b : Assignment) where
  pub rounds_mono : (i j : ℕ) → i ≤ j → rounds_to S R sown b i ≤ rounds_to S R sown b j
  rounds_mono = turns_mono (worked_of S R sown b) (rounds_at S R sown b)

  -- all rounds of a worked circle come before any of a later one
  pub rounds_behind : (i j : ℕ) → worked_of S R sown b i ≡ true → i < j → rounds_to S R sown b i + rounds_at S R sown b i ≤ rounds_to S R sown b j
  rounds_behind = turns_behind (worked_of S R sown b) (rounds_at S R sown b)

  in_rank_order : (i k j l m n : ℕ) → Scheduled S R sown b i k m → Scheduled S R sown b j l n → i < j → m < n
  in_rank_order i k j l m n f g h = omega (arith, rounds_behind i j f.worked h)

  one : (i k j l n : ℕ) → Scheduled S R sown b i k n → Scheduled S R sown b j l n → (i ≡ j) × (k ≡ l)
  one i k j l n f g =
      one_turn (worked_of S R sown b) (rounds_at S R sown b) i k j l (suc n) f.worked f.some f.few f.time g.worked g.some g.few g.time

  schedule : Schedule S R sown b
  schedule = record {
    within = λ i k n f. omega (arith, rounds_behind i (length R) f.worked f.rank);
    one = one;
    ranked = in_rank_order;
  }

pub one_schedule : OneSchedule
one_schedule S R sown b = schedule S R sown b
