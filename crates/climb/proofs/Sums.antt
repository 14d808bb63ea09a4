-- Sums over the ranks, and turns that come one behind the other. Assumes nothing.
use mathlib.Core.Path.{◌≡◌, refl, ap}
use mathlib.Core.Bool.{Bool, true, false, cond}
use mathlib.Core.Logic.{⊎_elim}
use Prim.Native.Nat.{ℕ, zero, suc, ◌+◌, ◌-◌, ◌*◌, ◌≤◌, ◌<◌, zero-le}
use native.Mathlib.Nat.{add-zero, add-suc, le_refl}
use native.Mathlib.Omega.{arith}
use Rattle.climb.proofs.Lists.{le_or_lt}
use Rattle.circles.specs.Ranked.{sum_to}

pub sum_le : (f g : ℕ → ℕ) (n : ℕ) → ((i : ℕ) → i < n → f i ≤ g i) → sum_to f n ≤ sum_to g n
unfolding sum_to
sum_le f g zero h = zero-le
sum_le f g (suc n) h = omega (arith, h n (le_refl (suc n)), sum_le f g n (λ i k. h i (omega arith)))

pub sum_same : (f g : ℕ → ℕ) (n : ℕ) → ((i : ℕ) → i < n → f i ≡ g i) → sum_to f n ≡ sum_to g n
sum_same f g n h = omega (arith, sum_le f g n (λ i l. omega (arith, h i l)), sum_le g f n (λ i l. omega (arith, h i l)))

pub sum_idle : (f : ℕ → ℕ) (i m : ℕ) → ((k : ℕ) → i ≤ k → k < i + m → f k ≡ 0) → sum_to f (i + m) ≡ sum_to f i
unfolding sum_to
sum_idle f i zero h = rw add-zero
sum_idle f i (suc m) h = rw add-suc (omega (arith, h (i + m) (omega arith) (omega arith), sum_idle f i m (λ k p q. h k p (omega arith))))

pub sum_mono : (f : ℕ → ℕ) (i m : ℕ) → sum_to f i ≤ sum_to f (i + m)
unfolding sum_to
sum_mono f i zero = rw add-zero (le_refl (sum_to f i))
sum_mono f i (suc m) = rw add-suc (omega (arith, sum_mono f i m))

pub sum_times : (f : ℕ → ℕ) (c n : ℕ) → sum_to (λ i. f i * c) n ≡ sum_to f n * c
unfolding sum_to
sum_times f c zero = omega arith
sum_times f c (suc n) = omega (arith, sum_times f c n)

pub sum_one : (n : ℕ) → sum_to (λ j. 1) n ≡ n
unfolding sum_to
sum_one zero = refl
sum_one (suc n) = omega (arith, sum_one n)

pub cond_le : (w : Bool) (n m : ℕ) → n ≤ m → cond w n 0 ≤ m
cond_le true n m h = h
cond_le false n m h = zero-le

-- rank i has f i turns if it is due: those of lower ranks come before it
module _ (due : ℕ → Bool) (f : ℕ → ℕ) where
  pub turns_mono : (i j : ℕ) → i ≤ j → sum_to (λ k. cond (due k) (f k) 0) i ≤ sum_to (λ k. cond (due k) (f k) 0) j
  turns_mono i j l = let e : i + (j - i) ≡ j = omega arith in rw e at (sum_mono (λ k. cond (due k) (f k) 0) i (j - i))

  -- all turns of a due rank come before any of a later one
  pub turns_behind : (i j : ℕ) → due i ≡ true → i < j → sum_to (λ k. cond (due k) (f k) 0) i + f i ≤ sum_to (λ k. cond (due k) (f k) 0) j
  unfolding sum_to
  turns_behind i j d l = rw d at (turns_mono (suc i) j l)

  -- so no time is that of two turns
  pub one_turn : (i k j l n : ℕ) → due i ≡ true → 1 ≤ k → k ≤ f i → n ≡ sum_to (λ m. cond (due m) (f m) 0) i + k
      → due j ≡ true → 1 ≤ l → l ≤ f j → n ≡ sum_to (λ m. cond (due m) (f m) 0) j + l → (i ≡ j) × (k ≡ l)
  one_turn i k j l n d a b e d' a' b' e' = ⊎_elim
      (λ (x : i ≤ j). ⊎_elim
      (λ (y : j ≤ i). let q : i ≡ j = omega arith in (q, omega (arith, ap (λ (m : ℕ). sum_to (λ k. cond (due k) (f k) 0) m) q)))
      (λ (y : i < j). absurd (omega (arith, turns_behind i j d y))) (le_or_lt j i))
      (λ (y : j < i). absurd (omega (arith, turns_behind j i d' y))) (le_or_lt i j)
