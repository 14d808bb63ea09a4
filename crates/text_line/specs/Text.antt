-- Lines: the one that a text has at a place, and the text of one. Assumes nothing.
use Rattle.std.specs.Prelude.{ℕ, ◌+◌, ◌%◌, List, [], ◌∷◌, ◌++◌, cond, ◌&&◌, length, get_or, ltb, leb, eqb}
use Rattle.text_line.specs.Hex.{digits_at, hex_digits}
use Rattle.text_line.specs.declared.Line.{Line}
use Rattle.text_line.specs.declared.Line.TheVariants.{Digits, Bad, End}

-- 16.1: what n digits in a row and then the byte b are: a line, where n is even and from 2 to 28 and b is LF
abbrev pub line_of : ℕ → ℕ → Line
line_of n b = cond (leb 2 n && (leb n 28 && (eqb (n % 2) 0 && eqb b 10))) (Digits n) Bad

-- 14.13, 16.1: the line that starts at a place, or Bad for 13; End where the text has none left
unfoldable pub line_at : List ℕ → ℕ → Line
line_at s place = cond (ltb place (length s)) (line_of (digits_at 29 s place) (get_or s (place + digits_at 29 s place) 0)) End

-- 16.2: a field, a number in so many digits
pub record Field : Type 0 where
  pub width : ℕ
  pub value : ℕ

abbrev pub field : ℕ → ℕ → Field
field k v = record { width = k; value = v }

-- fields of one, two, three, four and eight bytes
abbrev pub byte : ℕ → Field
byte v = field 2 v

abbrev pub two : ℕ → Field
two v = field 4 v

abbrev pub three : ℕ → Field
three v = field 6 v

abbrev pub four : ℕ → Field
four v = field 8 v

abbrev pub eight : ℕ → Field
eight v = field 16 v

-- 16.2: the digits of fields, one behind the other
abbrev pub digits_of : List Field → List ℕ
digits_of [] = []
digits_of (f ∷ fs) = hex_digits f.width f.value ++ digits_of fs

abbrev pub width_of : List Field → ℕ
width_of [] = 0
width_of (f ∷ fs) = f.width + width_of fs

-- 16.6: a line as it is written: its fields, and LF
unfoldable pub line_text : List Field → List ℕ
line_text fs = digits_of fs ++ (10 ∷ [])
