-- Hexadecimal digits and the numbers that they make, in and out. Past its end a text reads 0, which is no digit and no LF. Assumes nothing.
use Rattle.std.specs.Prelude.{ℕ, zero, suc, ◌+◌, ◌-◌, ◌*◌, ◌/◌, ◌%◌, List, [], ◌∷◌, ◌++◌, Bool, cond, ◌&&◌, ◌||◌, get_or, ltb, leb}

-- 16.1: the bytes that are digits: '0' to '9' and 'a' to 'f'
unfoldable pub is_hex : ℕ → Bool
is_hex b = leb 48 b && ltb b 58 || leb 97 b && ltb b 103

-- 16.2: what a digit stands for; 0 for a byte that is none
unfoldable pub digit_value : ℕ → ℕ
digit_value b = cond (is_hex b) (cond (ltb b 58) (b - 48) (b - 87)) 0

-- how many digits stand in a row from a place on, counting no further than most
unfoldable pub digits_at : ℕ → List ℕ → ℕ → ℕ
digits_at zero s place = 0
digits_at (suc most) s place = cond (is_hex (get_or s place 0)) (suc (digits_at most s (place + 1))) 0

-- 16.2: the number of k digits from a place on, the highest first
unfoldable pub num_at : ℕ → List ℕ → ℕ → ℕ
num_at zero s place = 0
num_at (suc k) s place = num_at k s place * 16 + digit_value (get_or s (place + k) 0)

-- 16.6: the digit that is written for a number below 16
unfoldable pub hex_of : ℕ → ℕ
hex_of n = cond (ltb n 10) (48 + n) (87 + n)

-- 16.2: the last k digits of v, the highest first
unfoldable pub hex_digits : ℕ → ℕ → List ℕ
hex_digits zero v = []
hex_digits (suc k) v = hex_digits k (v / 16) ++ (hex_of (v % 16) ∷ [])
