-- Seeking a position that has an equation. Assumes nothing.
use mathlib.Core.Path.{◌≡◌}
use mathlib.Core.List.{List}
use Prim.Native.Nat.{ℕ, suc, ◌+◌, ◌-◌, ◌≤◌, ◌<◌}
use native.Mathlib.Omega.{arith}
use borrow.Author.Tests.{lt-ltb, le-ltb}
use Rattle.table.specs.Words.{defined}
use Rattle.text_frame.specs.Walk.{after_part, seek_from}
use Rattle.text_frame.specs.declared.Expected.TheVariants.{AtEquation}

pub seek_ends : (t : List ℕ) (p n at : ℕ) → n < at → after_part t p ≡ seek_from (suc n - at) t p at
unfolding seek_from
seek_ends t p n at h = let e : suc n - at ≡ 0 = omega arith in rw e

module _ (t : List ℕ) (p n at : ℕ) (h : at ≤ n) where
  pub seek_goes : defined t p at ≤ 0 → seek_from (suc n - at) t p at ≡ seek_from (suc n - (at + 1)) t p (at + 1)
  unfolding seek_from
  seek_goes d = let e : suc n - at ≡ suc (suc n - (at + 1)) = omega arith in rw (e, le-ltb 0 (defined t p at) d)

  pub seek_stops : 0 < defined t p at → AtEquation p at 0 ≡ seek_from (suc n - at) t p at
  unfolding seek_from
  seek_stops d = let e : suc n - at ≡ suc (suc n - (at + 1)) = omega arith in rw (e, lt-ltb 0 (defined t p at) d)
