-- When a text has a line at a place, said without the reading of it: so when 13 is given. Assumes nothing.
use Rattle.std.specs.Prelude.{ℕ, ◌+◌, ◌%◌, ◌≤◌, ◌<◌, ◌≡◌, ◌↔◌, List, length, get_or}
use Rattle.text_line.specs.Text.{line_at}
use Rattle.text_line.specs.declared.Line.TheVariants.{Digits, Bad, End}

-- 16.1: a digit: '0' to '9' are the bytes 48 to 57, 'a' to 'f' the bytes 97 to 102
pub data HexDigit (b : ℕ) : Type 0 where
  numeral : 48 ≤ b → b ≤ 57 → HexDigit b
  letter : 97 ≤ b → b ≤ 102 → HexDigit b

-- 16.1: from a place on the text has n digits, an even number from 2 to 28, and then LF, which is the byte 10
pub record IsLine (s : List ℕ) (place n : ℕ) : Type 0 where
  pub some : 2 ≤ n
  pub few : n ≤ 28
  pub even : n % 2 ≡ 0
  pub digits : (i : ℕ) → i < n → HexDigit (get_or s (place + i) 0)
  pub inside : place + n < length s
  pub ended : get_or s (place + n) 0 ≡ 10

-- 14.13: the text has something left there, and however much of it is taken, that is no line
pub record NoLine (s : List ℕ) (place : ℕ) : Type 0 where
  pub some : place < length s
  pub none : (n : ℕ) → IsLine s place n → ⊥

-- 14.13, 16.1: a line of n digits, no line, and no text are found exactly where they are; so 13, which is `Bad`, is given exactly for text that is no line
pub record LineExactly (s : List ℕ) (place : ℕ) : Type 0 where
  pub line : (n : ℕ) → (line_at s place ≡ Digits n) ↔ IsLine s place n
  pub bad : (line_at s place ≡ Bad) ↔ NoLine s place
  pub over : (line_at s place ≡ End) ↔ (length s ≤ place)

-- 14.13, 16.1: so at every place of every text
abbrev pub AllLinesExactly : Type 0
AllLinesExactly = (s : List ℕ) (place : ℕ) → LineExactly s place
