-- What digits stand for, and the numbers that they make. Assumes nothing.
use mathlib.Core.Path.{◌≡◌}
use mathlib.Core.List.{List}
use mathlib.Core.Logic.{◌⊎◌, inl, inr, ⊎_elim}
use Prim.Native.Nat.{ℕ, zero, suc, ◌+◌, ◌-◌, ◌*◌, ◌^◌, ◌≤◌, ◌<◌, zero-le, suc-le-suc}
use native.Mathlib.Omega.{arith}
use native.Mathlib.Nat.{pow-suc, pow-le-pow_right}
use native.Mathlib.Numerals.{add-one}
use borrow.Author.Tests.{lt-ltb, le-ltb, le-leb, lt-leb}
use lib.Dec.{lit<}
use lib.ListN.{get_or}
use Rattle.text_line.specs.Hex.{is_hex, digit_value, num_at}

pub lt_or_ge : (a b : ℕ) → (a < b) ⊎ (b ≤ a)
lt_or_ge a zero = inr zero-le
lt_or_ge zero (suc b) = inl (suc-le-suc zero-le)
lt_or_ge (suc a) (suc b) = ⊎_elim (λ p. inl (suc-le-suc p)) (λ q. inr (suc-le-suc q)) (lt_or_ge a b)

-- what a byte stands for, by its range
module _ (b : ℕ) where
  pub value_low : b < 48 → 0 ≡ digit_value b
  unfolding digit_value is_hex
  value_low h = let k : b < 97 = omega arith in simp (lt-leb _ _ h, lt-leb _ _ k)

  pub value_decimal : 48 ≤ b → b < 58 → b - 48 ≡ digit_value b
  unfolding digit_value is_hex
  value_decimal g h = simp (le-leb _ _ g, lt-ltb _ _ h)

  pub value_between : 58 ≤ b → b < 97 → 0 ≡ digit_value b
  unfolding digit_value is_hex
  value_between g h = let k : 48 ≤ b = omega arith in simp (le-leb _ _ k, le-ltb _ _ g, lt-leb _ _ h)

  pub value_letter : 97 ≤ b → b < 103 → b - 87 ≡ digit_value b
  unfolding digit_value is_hex
  value_letter g h = let k : 48 ≤ b = omega arith in let l : 58 ≤ b = omega arith in simp (le-leb _ _ k, le-ltb _ _ l, le-leb _ _ g, lt-ltb _ _ h)

  pub value_high : 103 ≤ b → 0 ≡ digit_value b
  unfolding digit_value is_hex
  value_high g = let k : 48 ≤ b = omega arith in let l : 58 ≤ b = omega arith in let m : 97 ≤ b = omega arith in simp (le-leb _ _ k, le-ltb _ _ l, le-leb _ _ m, le-ltb _ _ g)

  pub value_small : digit_value b < 16
  value_small =
      ⊎_elim (λ a. omega (arith, value_low a)) (λ a.
      ⊎_elim (λ d. omega (arith, value_decimal a d)) (λ d.
      ⊎_elim (λ e. omega (arith, value_between d e)) (λ e.
      ⊎_elim (λ f. omega (arith, value_letter e f)) (λ f. omega (arith, value_high f)) (lt_or_ge b 103)) (lt_or_ge b 97)) (lt_or_ge b 58)) (lt_or_ge b 48)

-- one digit more
pub num_more : (k : ℕ) (s : List ℕ) (place : ℕ) → num_at (k + 1) s place ≡ num_at k s place * 16 + digit_value (get_or s (place + k) 0)
unfolding num_at
num_more k s place = rw add-one

-- k digits make a number below 16 ^ k
pub num_small : (k : ℕ) (s : List ℕ) (place : ℕ) → num_at k s place < 16 ^ k
unfolding num_at
num_small zero s place = omega arith
num_small (suc k) s place = rw pow-suc (omega (arith, num_small k s place, value_small (get_or s (place + k) 0)))

-- fifteen digits leave room for one more
pub room_left : (v k : ℕ) → k < 16 → v < 16 ^ k → v < 2 ^ 60
room_left v k h l = let p : k ≤ 15 = omega arith in omega (arith, l, pow-le-pow_right {n = 16} (lit< tt) p)

pub one_more : (v k d : ℕ) → d < 16 → v < 16 ^ k → v * 16 + d < 16 ^ (k + 1)
one_more v k d h l = rw (add-one, pow-suc) (omega arith)
