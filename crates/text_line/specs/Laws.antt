-- What is promised of lines and numbers; the proofs are in proofs/. Assumes nothing.
use Rattle.std.specs.Prelude.{◌≡◌, true, List, ◌++◌, ℕ, ◌+◌, ◌^◌, ◌<◌, ◌≤◌, ◌%◌, length, get_or, take, drop}
use Rattle.text_line.specs.Hex.{is_hex, num_at, hex_digits}
use Rattle.text_line.specs.Text.{Field, width_of, line_at, line_text}
use Rattle.text_line.specs.declared.Line.TheVariants.{Digits}

-- numbers out and in are each the other's inverse
pub record Numbers : Type 0 where
  pub back : (k v : ℕ) → v < 16 ^ k → num_at k (hex_digits k v) 0 ≡ v
  pub forth : (k : ℕ) (s : List ℕ) (place : ℕ) → ((j : ℕ) → j < k → is_hex (get_or s (place + j) 0) ≡ true) → hex_digits k (num_at k s place) ≡ take k (drop place s)

-- 20.5: 29 bytes decide a line, and a text in front only shifts it: so a window reads as the whole text does
pub record Windows : Type 0 where
  pub ahead : (s t : List ℕ) (place : ℕ) → place + 29 ≤ length s → line_at (s ++ t) place ≡ line_at s place
  pub behind : (s t : List ℕ) (place : ℕ) → line_at (s ++ t) (length s + place) ≡ line_at t place

-- 21.7: a line that was written is read as a line, of as many digits, whatever follows it
abbrev pub Written : Type 0
Written = (fs : List Field) (rest : List ℕ) → 2 ≤ width_of fs → width_of fs ≤ 28 → width_of fs % 2 ≡ 0 → line_at (line_text fs ++ rest) 0 ≡ Digits (width_of fs)
