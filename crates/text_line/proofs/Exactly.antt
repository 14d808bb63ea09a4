-- A line is found exactly where there is one. Assumes nothing.
use mathlib.Core.Path.{◌≡◌, refl, sym}
use mathlib.Core.Bool.{Bool, true, false, true≢false, ◌&&◌, ◌||◌}
use mathlib.Core.List.{List}
use mathlib.Core.Logic.{⊎_elim}
use Prim.Native.Nat.{ℕ, ◌+◌}
use native.Mathlib.Omega.{arith}
use borrow.Author.Tests.{ltb-true, leb-true, lt-ltb, le-ltb, le-leb}
use lib.Dec.{ltb, leb}
use lib.ListN.{length, get_or}
use Rattle.text_line.specs.Hex.{is_hex}
use Rattle.text_line.specs.Text.{line_at}
use Rattle.text_line.specs.Exactly.{HexDigit, numeral, letter, IsLine, NoLine, AllLinesExactly}
use Rattle.text_line.specs.declared.Line.{Line}
use Rattle.text_line.specs.declared.Line.TheVariants.{Digits, Bad, End}
use Rattle.text_line.proofs.Values.{lt_or_ge}
use Rattle.text_line.proofs.Rows.{row_is, row_hex, line_whole, line_end, line_says, end_says}

-- the test of a digit says what a digit is
hex_is : (b : ℕ) → is_hex b ≡ true → HexDigit b
unfolding is_hex
hex_is b e = by (leb 48 b) (ltb b 58) (leb 97 b) (ltb b 103) refl refl refl refl e
  where
    by : (p q r t : Bool) → leb 48 b ≡ p → ltb b 58 ≡ q → leb 97 b ≡ r → ltb b 103 ≡ t → (p && q || r && t) ≡ true → HexDigit b
    by true true r t d f g h e = numeral (leb-true 48 b d) (omega (arith, ltb-true b 58 f))
    by true false true true d f g h e = letter (leb-true 97 b g) (omega (arith, ltb-true b 103 h))
    by true false true false d f g h e = absurd (true≢false (sym e))
    by true false false t d f g h e = absurd (true≢false (sym e))
    by false q true true d f g h e = letter (leb-true 97 b g) (omega (arith, ltb-true b 103 h))
    by false q true false d f g h e = absurd (true≢false (sym e))
    by false q false t d f g h e = absurd (true≢false (sym e))

is_hex_lem : (b : ℕ) → HexDigit b → is_hex b ≡ true
unfolding is_hex
is_hex_lem b (numeral l u) = rw (le-leb 48 b l, lt-ltb b 58 (omega arith))
is_hex_lem b (letter l u) = rw (le-leb 48 b (omega arith), le-ltb b 58 (omega arith), le-leb 97 b l, lt-ltb b 103 (omega arith))

-- LF is no digit
no_digit : (b : ℕ) → b ≡ 10 → is_hex b ≡ false
unfolding is_hex
no_digit b e = rw e

module _ (s : List ℕ) (place : ℕ) where
  to_line : (n : ℕ) → line_at s place ≡ Digits n → IsLine s place n
  to_line n e =
      let w = line_says s place n e in
      record {
        some = w.few;
        few = w.many;
        even = w.even;
        digits = λ i h. hex_is (get_or s (place + i) 0) (row_hex 29 s place i (omega (arith, w.row)));
        inside = w.inside;
        ended = w.ended;
      }

  from_line : (n : ℕ) → IsLine s place n → line_at s place ≡ Digits n
  from_line n w =
      let r = row_is 29 n s place (omega (arith, w.few)) (λ j h. is_hex_lem (get_or s (place + j) 0) (w.digits j h)) (no_digit (get_or s (place + n) 0) w.ended) in
      let i = w.inside in
      sym (line_whole s place n (sym r) (omega arith) w.some w.few w.even w.ended)

  to_bad : line_at s place ≡ Bad → NoLine s place
  to_bad e = record {
    some = ⊎_elim (λ h. h) (λ h. absurd (let d = line_end s place h in let z : ◌≡◌ {A = ℕ} 0 1 = cc in omega arith)) (lt_or_ge place (length s));
    none = λ n w. let d = from_line n w in let z : ◌≡◌ {A = ℕ} 0 1 = cc in omega arith;
  }

  by_line : (l : Line) → line_at s place ≡ l → NoLine s place → line_at s place ≡ Bad
  by_line (Digits n) e w = absurd (w.none n (to_line n e))
  by_line Bad e w = e
  by_line End e w = absurd (omega (arith, end_says s place e, w.some))

-- at a place there is one line
pub line_one : {s : List ℕ} {place m n : ℕ} → IsLine s place m → IsLine s place n → m ≡ n
line_one {s} {place} {m} {n} v w = let a = from_line s place m v in let b = from_line s place n w in cc

pub all_lines_exactly : AllLinesExactly
all_lines_exactly s place = record {
  line = λ n. (to_line s place n, from_line s place n);
  bad = (to_bad s place, by_line s place (line_at s place) refl);
  over = (end_says s place, λ h. sym (line_end s place h));
}
