-- Numbers written as digits, stored, and read back. Assumes nothing.
use mathlib.Core.Path.{◌≡◌, refl, ap, sym, ◌∙◌}
use mathlib.Core.List.{List, [], ◌∷◌, ◌++◌, append_assoc, append-nil}
use mathlib.Core.Bool.{true}
use mathlib.Core.Logic.{⊎_elim}
use Prim.Native.Nat.{ℕ, zero, suc, ◌+◌, ◌*◌, ◌/◌, ◌%◌, ◌^◌, ◌-◌, ◌≤◌, ◌<◌}
use native.Mathlib.Omega.{arith}
use native.Mathlib.Nat.{pow-suc, add-zero, zero-add, add-suc, mul_assoc}
use native.Mathlib.Numerals.{add-one}
use borrow.Author.Tests.{lt-ltb, le-ltb, le-leb, lt-leb}
use lib.ListN.{length, get_or, set, take, drop, length-append, length-drop, get_or-append}
use lib.Seq.{sets, set_comm, get_or_at, get_or-append-add, take-suc, get_or-drop}
use Rattle.text_line.specs.Hex.{is_hex, digit_value, num_at, hex_of, hex_digits}
use Rattle.text_line.specs.Text.{field, line_text}
use Rattle.text_line.specs.Laws.{Numbers}
use Rattle.text_line.proofs.Values.{lt_or_ge, value_decimal, value_letter, value_small}
use Rattle.text_line.proofs.Rows.{hex_within, never}

pub hex_length : (k v : ℕ) → length (hex_digits k v) ≡ k
unfolding hex_digits
hex_length zero v = refl
hex_length (suc k) v = length-append (hex_digits k (v / 16)) _ ∙ omega (arith, hex_length k (v / 16))

-- stores in a row, the last one first
sets_last : (xs l : List ℕ) (place d : ℕ) → sets l place (xs ++ (d ∷ [])) ≡ sets (set l (place + length xs) d) place xs
sets_last [] l place d = rw add-zero
sets_last (x ∷ xs) l place d =
    let e : suc place + length xs ≡ place + suc (length xs) = omega arith in
    sets_last xs (set l place x) (suc place) d ∙ rw e (rw (set_comm l place (place + suc (length xs)) x d (λ k. omega arith)))

-- one more digit
pub hex_more : (l : List ℕ) (place k v : ℕ) → sets l place (hex_digits (k + 1) v) ≡ sets (set l (place + k) (hex_of (v % 16))) place (hex_digits k (v / 16))
unfolding hex_digits
hex_more l place k v = rw add-one (sets_last (hex_digits k (v / 16)) l place (hex_of (v % 16)) ∙ rw hex_length)

pub hex_none : (l : List ℕ) (place i v : ℕ) → i ≡ 0 → sets l place (hex_digits i v) ≡ l
unfolding hex_digits
hex_none l place i v e = rw e

-- stores in a row, one list behind the other
pub sets_append : (xs ys l : List ℕ) (place : ℕ) → sets l place (xs ++ ys) ≡ sets (sets l place xs) (place + length xs) ys
sets_append [] ys l place = rw add-zero
sets_append (x ∷ xs) ys l place = let e : suc place + length xs ≡ place + suc (length xs) = omega arith in sets_append xs ys (set l place x) (suc place) ∙ rw e

-- the same for digits: where the next store goes is known by their number
pub hex_then : (k v : ℕ) (ys l : List ℕ) (place : ℕ) → sets l place (hex_digits k v ++ ys) ≡ sets (sets l place (hex_digits k v)) (place + k) ys
hex_then k v ys l place = sets_append (hex_digits k v) ys l place ∙ ap (λ (n : ℕ). sets (sets l place (hex_digits k v)) (place + n) ys) (hex_length k v)

-- a digit read back
pub hex_back : (n : ℕ) → n < 16 → digit_value (hex_of n) ≡ n
unfolding hex_of
hex_back n h =
    ⊎_elim (λ k. simp (lt-ltb n 10 k) (sym (value_decimal (48 + n) (omega arith) (omega arith)) ∙ omega arith))
    (λ k. simp (le-ltb n 10 k) (sym (value_letter (87 + n) (omega arith) (omega arith)) ∙ omega arith)) (lt_or_ge n 10)

-- a digit is what its value is written as
pub hex_forth : (b : ℕ) → is_hex b ≡ true → hex_of (digit_value b) ≡ b
unfolding hex_of is_hex
hex_forth b e =
    ⊎_elim (λ k. let m : b < 97 = omega arith in never (rw (lt-leb 48 b k, lt-leb 97 b m) at e))
    (λ k. ⊎_elim (λ l. let m : b - 48 < 10 = omega arith in rw (← value_decimal b k l, lt-ltb (b - 48) 10 m) (omega arith))
    (λ l. ⊎_elim (λ m. never (rw (le-leb 48 b k, le-ltb b 58 l, lt-leb 97 b m) at e))
    (λ m. ⊎_elim (λ o. let r : 10 ≤ b - 87 = omega arith in rw (← value_letter b m o, le-ltb (b - 87) 10 r) (omega arith))
    (λ o. never (rw (le-leb 48 b k, le-ltb b 58 l, le-leb 97 b m, le-ltb b 103 o) at e)) (lt_or_ge b 103)) (lt_or_ge b 97)) (lt_or_ge b 58)) (lt_or_ge b 48)

-- a text whose k bytes from a place on are the digits of v reads v
pub num_back : (k v : ℕ) (s : List ℕ) (place : ℕ) → v < 16 ^ k → ((j : ℕ) → j < k → get_or s (place + j) 0 ≡ get_or (hex_digits k v) j 0) → num_at k s place ≡ v
unfolding num_at hex_digits
num_back zero v s place h same = omega arith
num_back (suc k) v s place h same =
    let g : v / 16 < 16 ^ k = omega (arith, rw pow-suc at h) in
    let front : (j : ℕ) → j < k → get_or s (place + j) 0 ≡ get_or (hex_digits k (v / 16)) j 0 =
    λ j b. same j (omega arith) ∙ get_or-append (hex_digits k (v / 16)) (hex_of (v % 16) ∷ []) 0 j (omega (arith, hex_length k (v / 16))) in
    let last : get_or s (place + k) 0 ≡ hex_of (v % 16) = same k (omega arith) ∙ get_or_at (hex_digits k (v / 16)) (hex_of (v % 16)) [] 0 k (hex_length k (v / 16)) in
    let low : digit_value (get_or s (place + k) 0) ≡ v % 16 = ap digit_value last ∙ hex_back (v % 16) (omega arith) in
    omega (arith, num_back k (v / 16) s place g front, low)

-- a number within a text
pub num_in : (a b : List ℕ) (k v n : ℕ) → length a ≡ n → v < 16 ^ k → num_at k (a ++ (hex_digits k v ++ b)) n ≡ v
num_in a b k v n e h =
    num_back k v (a ++ (hex_digits k v ++ b)) n h
    (λ j i. ap (λ (m : ℕ). get_or (a ++ (hex_digits k v ++ b)) (m + j) 0) (sym e) ∙ get_or-append-add a (hex_digits k v ++ b) j 0 ∙ get_or-append (hex_digits k v) b 0 j (omega (arith, hex_length k v)))

-- two numbers side by side are the digits of one
pub hex_join : (a b x y : ℕ) → y < 16 ^ b → hex_digits (a + b) (x * 16 ^ b + y) ≡ hex_digits a x ++ hex_digits b y
unfolding hex_digits
hex_join a zero x y h =
    let e : x * 16 ^ 0 + y ≡ x = omega arith in
    rw (add-zero, e) (sym (append-nil (hex_digits a x)))
hex_join a (suc b) x y h =
    let p : ℕ = 16 ^ b in
    let q : 16 ^ suc b ≡ p * 16 = pow-suc 16 b in
    let g : y / 16 < p = omega arith in
    let m : x * (p * 16) ≡ (x * p) * 16 = sym (mul_assoc x p 16) in
    let d : (x * 16 ^ suc b + y) / 16 ≡ x * p + y / 16 = rw (q, m) (omega arith) in
    let r : (x * 16 ^ suc b + y) % 16 ≡ y % 16 = rw (q, m) (omega arith) in
    rw (add-suc a b, d, r, hex_join a b x (y / 16) g) (append_assoc (hex_digits a x) (hex_digits b (y / 16)) (hex_of (y % 16) ∷ []))

-- digits that were read are written back
pub num_forth : (k : ℕ) (s : List ℕ) (place : ℕ) → ((j : ℕ) → j < k → is_hex (get_or s (place + j) 0) ≡ true) → hex_digits k (num_at k s place) ≡ take k (drop place s)
unfolding hex_digits num_at
num_forth zero s place h = refl
num_forth (suc k) s place h =
    let b : ℕ = get_or s (place + k) 0 in
    let v : digit_value b < 16 = value_small b in
    let d : (num_at k s place * 16 + digit_value b) / 16 ≡ num_at k s place = omega arith in
    let r : (num_at k s place * 16 + digit_value b) % 16 ≡ digit_value b = omega arith in
    let i : place + k < length s = hex_within s (place + k) (h k (omega arith)) in
    let l : k < length (drop place s) = simp length-drop (omega arith) in
    rw (d, r, hex_forth b (h k (omega arith)), num_forth k s place (λ j i. h j (omega arith)), take-suc (drop place s) k 0 l, get_or-drop)

pub numbers : Numbers
numbers = record {
  back = λ k v h. num_back k v (hex_digits k v) 0 h (λ j i. ap (λ (n : ℕ). get_or (hex_digits k v) n 0) (zero-add j));
  forth = num_forth;
}

-- two numbers and LF, stored one behind the other
pub line_put : (l : List ℕ) (place i x j y r₁ r₂ : ℕ) (l₁ l₂ : List ℕ)
    → (r₁ ≡ place + i) × (l₁ ≡ sets l place (hex_digits i x)) → (r₂ ≡ r₁ + j) × (l₂ ≡ sets l₁ r₁ (hex_digits j y))
    → set l₂ r₂ 10 ≡ sets l place (line_text (field i x ∷ field j y ∷ []))
unfolding line_text
line_put l place i x j y r₁ r₂ l₁ l₂ e f =
    let t : List ℕ = hex_digits j y ++ (10 ∷ []) in
    let s : line_text (field i x ∷ field j y ∷ []) ≡ hex_digits i x ++ t = simp (append_assoc, append-nil) in
    let a : sets l place (hex_digits i x ++ t) ≡ sets l₁ r₁ t = hex_then i x t l place ∙ sym (λ k. sets (e.1 k) (e.0 k) t) in
    let d : sets l₁ r₁ t ≡ set l₂ r₂ 10 = hex_then j y (10 ∷ []) l₁ r₁ ∙ sym (λ k. set (f.1 k) (f.0 k) 10) in
    sym (ap (sets l place) s ∙ a ∙ d)
