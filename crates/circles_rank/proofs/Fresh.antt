-- New memory serves a ranking. Assumes nothing.
use Prim.Native.Nat.{ℕ, ◌*◌, ◌≤◌}
use native.Mathlib.Omega.{arith}
use mathlib.Core.Path.{◌≡◌}
use lib.ListN.{replicate, length, length-replicate}
use Rattle.circles_find.proofs.Chains.{blank_new}
use Rattle.circles_rank.specs.Inner.Spare.{Spare}
use Rattle.circles_order.proofs.Taking.{untaken_new}

-- k places for the slots, m for the places of their arguments
pub spare_new : (n k m : ℕ) → n ≤ k → 2 * k ≤ m → Spare n (replicate {A = ℕ} k 65533) (replicate {A = ℕ} m 0) (replicate {A = ℕ} k 0) (replicate {A = ℕ} k 0) (replicate {A = ℕ} k 0) (replicate {A = ℕ} k 4) (replicate {A = ℕ} k 65533) (replicate {A = ℕ} k 65533) (replicate {A = ℕ} k 65533) (replicate {A = ℕ} k 0)
spare_new n k m h l =
    let none : length (replicate {A = ℕ} k 65533) ≡ k = length-replicate {A = ℕ} k 65533 in
    let some : length (replicate {A = ℕ} k 0) ≡ k = length-replicate {A = ℕ} k 0 in
    record {
      firsts = blank_new n k h;
      nexts = omega (arith, h, l, length-replicate {A = ℕ} m 0);
      listed = omega (arith, h, some);
      queued = omega (arith, h, some);
      afters = omega (arith, h, some);
      stages = omega (arith, h, length-replicate {A = ℕ} k 4);
      reps = blank_new n k h;
      marks = blank_new n k h;
      lows = blank_new n k h;
      flags = omega (arith, h, some);
      untaken = untaken_new k;
      reps_queued = omega (arith, none, some);
      marks_queued = omega (arith, none, some);
    }
