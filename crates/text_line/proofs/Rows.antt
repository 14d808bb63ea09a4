-- Digits in a row, and the lines that they make. Assumes nothing.
use mathlib.Core.Path.{◌≡◌, refl, ap, sym, ◌∙◌}
use mathlib.Core.List.{List}
use mathlib.Core.Bool.{Bool, true, false, cond, ◌&&◌}
use mathlib.Core.Logic.{⊎_elim}
use Prim.Native.Nat.{ℕ, zero, suc, ◌+◌, ◌-◌, ◌%◌, ◌≤◌, ◌<◌, min}
use native.Mathlib.Omega.{arith}
use native.Mathlib.Nat.{add-zero}
use borrow.Author.Tests.{lt-ltb, le-ltb, le-leb, eq-eqb, leb-true, eqb-true}
use lib.Dec.{ltb, leb, eqb}
use lib.ListN.{length, get_or, get_or-eq_default}
use Rattle.text_line.specs.Hex.{is_hex, digits_at}
use Rattle.text_line.specs.Text.{line_of, line_at}
use Rattle.text_line.specs.declared.Line.TheVariants.{Digits, Bad, End}
use Rattle.text_line.proofs.Values.{lt_or_ge}

-- n digits in a row and then none
pub row_is : (m n : ℕ) (s : List ℕ) (place : ℕ) → n < m → ((j : ℕ) → j < n → is_hex (get_or s (place + j) 0) ≡ true) → is_hex (get_or s (place + n) 0) ≡ false → digits_at m s place ≡ n
unfolding digits_at
row_is zero n s place h p e = absurd (omega arith)
row_is (suc m) zero s place h p e = let x : place + 0 ≡ place = add-zero place in rw (rw x at e)
row_is (suc m) (suc n) s place h p e =
    let x : place + 0 ≡ place = add-zero place in
    let a : is_hex (get_or s place 0) ≡ true = rw x at (p 0 (omega arith)) in
    let q : (j : ℕ) → j < n → is_hex (get_or s (place + 1 + j) 0) ≡ true = λ j k. let y : place + 1 + j ≡ place + suc j = omega arith in rw y (p (suc j) (omega arith)) in
    let f : is_hex (get_or s (place + 1 + n) 0) ≡ false = let y : place + 1 + n ≡ place + suc n = omega arith in rw y e in
    rw (a, row_is m n s (place + 1) (omega arith) q f)

-- m digits in a row, and no more are counted
row_full : (m : ℕ) (s : List ℕ) (place : ℕ) → ((j : ℕ) → j < m → is_hex (get_or s (place + j) 0) ≡ true) → digits_at m s place ≡ m
unfolding digits_at
row_full zero s place p = refl
row_full (suc m) s place p =
    let x : place + 0 ≡ place = add-zero place in
    let a : is_hex (get_or s place 0) ≡ true = rw x at (p 0 (omega arith)) in
    let q : (j : ℕ) → j < m → is_hex (get_or s (place + 1 + j) 0) ≡ true = λ j k. let y : place + 1 + j ≡ place + suc j = omega arith in rw y (p (suc j) (omega arith)) in
    rw (a, row_full m s (place + 1) q)

-- past the end a text has no digit
past_hex : (s : List ℕ) (i : ℕ) → length s ≤ i → is_hex (get_or s i 0) ≡ false
unfolding is_hex
past_hex s i h = rw (get_or-eq_default s 0 h)

-- the bytes from a place up to i are digits
abbrev pub AllHex : List ℕ → ℕ → ℕ → Type 0
AllHex s place i = (k : ℕ) → place ≤ k → k < i → is_hex (get_or s k 0) ≡ true

pub row_stops : (s : List ℕ) (place i : ℕ) → place ≤ i → i < place + 29 → AllHex s place i → is_hex (get_or s i 0) ≡ false → i - place ≡ digits_at 29 s place
row_stops s place i h k a e =
    let x : place + (i - place) ≡ i = omega arith in
    sym (row_is 29 (i - place) s place (omega arith) (λ j l. a (place + j) (omega arith) (omega arith)) (rw x e))

pub row_ends : (s : List ℕ) (place end : ℕ) → end ≡ min (length s) (place + 29) → AllHex s place end → end - place ≡ digits_at 29 s place
row_ends s place end e a =
    ⊎_elim (λ (h : end < place + 29).
    ⊎_elim (λ (k : end < place). let x : end - place ≡ 0 = omega arith in rw x (sym (row_is 29 0 s place (omega arith) (λ j l. absurd (omega arith)) (past_hex s (place + 0) (omega arith)))))
    (λ (k : place ≤ end). row_stops s place end k h a (past_hex s end (omega arith))) (lt_or_ge end place))
    (λ (h : place + 29 ≤ end). let x : end - place ≡ 29 = omega arith in rw x (sym (row_full 29 s place (λ j l. a (place + j) (omega arith) (omega arith))))) (lt_or_ge end (place + 29))

most_of : (b : Bool) (x m : ℕ) → x ≤ m → cond b (suc x) 0 ≤ suc m
most_of true x m h = omega arith
most_of false x m h = omega arith

pub row_most : (most : ℕ) (s : List ℕ) (place : ℕ) → digits_at most s place ≤ most
unfolding digits_at
row_most zero s place = omega arith
row_most (suc m) s place = most_of (is_hex (get_or s place 0)) (digits_at m s (place + 1)) m (row_most m s (place + 1))

pub never : {A : Type 0} → false ≡ true → A
never e = let z : ◌≡◌ {A = ℕ} 0 1 = cc in absurd (omega arith)

-- what was counted are digits
pub row_hex : (most : ℕ) (s : List ℕ) (place j : ℕ) → j < digits_at most s place → is_hex (get_or s (place + j) 0) ≡ true
unfolding digits_at
row_hex zero s place j h = absurd (omega arith)
row_hex (suc m) s place j h = by_first (is_hex (get_or s place 0)) refl (row_hex m s (place + 1)) j h
  where
    by_first : (b : Bool) → is_hex (get_or s place 0) ≡ b → ((j : ℕ) → j < digits_at m s (place + 1) → is_hex (get_or s (place + 1 + j) 0) ≡ true) → (j : ℕ) → j < cond b (suc (digits_at m s (place + 1))) 0 → is_hex (get_or s (place + j) 0) ≡ true
    by_first false e r j h = absurd (omega arith)
    by_first true e r zero h = let x : place + 0 ≡ place = add-zero place in rw x e
    by_first true e r (suc j) h = let y : place + suc j ≡ place + 1 + j = omega arith in rw y (r j (omega arith))

-- the line at a place, by the row of digits there and the byte behind it
module _ (s : List ℕ) (place n : ℕ) (e : n ≡ digits_at 29 s place) (h : place < length s) where
  pub line_whole : 2 ≤ n → n ≤ 28 → n % 2 ≡ 0 → get_or s (place + n) 0 ≡ 10 → Digits n ≡ line_at s place
  unfolding line_at
  line_whole g k o b = rw (← e) (simp (lt-ltb _ _ h, le-leb _ _ g, le-leb _ _ k, eq-eqb _ _ o, eq-eqb _ _ b))

pub line_end : (s : List ℕ) (place : ℕ) → length s ≤ place → End ≡ line_at s place
unfolding line_at
line_end s place h = simp (le-ltb _ _ h)

-- what a whole line says: the sentence, one part by one
pub record Whole (s : List ℕ) (place n : ℕ) : Type 0 where
  pub row : n ≡ digits_at 29 s place
  pub few : 2 ≤ n
  pub many : n ≤ 28
  pub even : n % 2 ≡ 0
  pub ended : get_or s (place + n) 0 ≡ 10
  pub inside : place + n < length s

and_true : (a b : Bool) → a && b ≡ true → (a ≡ true) × (b ≡ true)
and_true true b e = (refl, e)
and_true false b e = (e, never e)

-- a byte that is not 0 lies within the text
pub within : (s : List ℕ) (i x : ℕ) → get_or s i 0 ≡ suc x → i < length s
within s i x e = ⊎_elim (λ h. h) (λ h. absurd (omega (arith, get_or-eq_default s 0 h))) (lt_or_ge i (length s))

-- and so does a digit
pub hex_within : (s : List ℕ) (i : ℕ) → is_hex (get_or s i 0) ≡ true → i < length s
unfolding is_hex
hex_within s i e = ⊎_elim (λ h. h) (λ h. never (rw (get_or-eq_default s 0 h) at e)) (lt_or_ge i (length s))

module _ (s : List ℕ) (place n : ℕ) where
  abbrev m : ℕ
  m = digits_at 29 s place

  abbrev x : ℕ
  x = get_or s (place + m) 0

  inner : (t : Bool) → leb 2 m && (leb m 28 && (eqb (m % 2) 0 && eqb x 10)) ≡ t → cond t (Digits m) Bad ≡ Digits n → Whole s place n
  inner false e p = absurd (let z : ◌≡◌ {A = ℕ} 0 1 = cc in omega arith)
  inner true e p =
      let q : m ≡ n = cc in
      let a = and_true (leb 2 m) (leb m 28 && (eqb (m % 2) 0 && eqb x 10)) e in
      let b = and_true (leb m 28) (eqb (m % 2) 0 && eqb x 10) a.1 in
      let d = and_true (eqb (m % 2) 0) (eqb x 10) b.1 in
      let l : get_or s (place + n) 0 ≡ 10 = ap (λ (k : ℕ). get_or s (place + k) 0) (sym q) ∙ eqb-true _ _ d.1 in
      record {
        row = sym q;
        few = omega (arith, leb-true 2 m a.0, q);
        many = omega (arith, leb-true m 28 b.0, q);
        even = ap (λ (k : ℕ). k % 2) (sym q) ∙ eqb-true _ _ d.0;
        ended = l;
        inside = within s (place + n) 9 l;
      }

  outer : (t : Bool) → cond t (line_of m x) End ≡ Digits n → Whole s place n
  outer false p = absurd (let z : ◌≡◌ {A = ℕ} 0 1 = cc in omega arith)
  outer true p = inner _ refl p

  pub line_says : line_at s place ≡ Digits n → Whole s place n
  unfolding line_at
  line_says p = outer (ltb place (length s)) p

-- the end of the text, and no other place, has no line
pub end_says : (s : List ℕ) (place : ℕ) → line_at s place ≡ End → length s ≤ place
unfolding line_at
end_says s place p = ⊎_elim (λ h. absurd (not_inside (leb 2 (digits_at 29 s place) && (leb (digits_at 29 s place) 28 && (eqb (digits_at 29 s place % 2) 0 && eqb (get_or s (place + digits_at 29 s place) 0) 10))) (rw (lt-ltb place (length s) h) at p))) (λ h. h) (lt_or_ge place (length s))
  where
    not_inside : (b : Bool) → cond b (Digits (digits_at 29 s place)) Bad ≡ End → ⊥
    not_inside true e = let z : ◌≡◌ {A = ℕ} 0 1 = cc in omega arith
    not_inside false e = let z : ◌≡◌ {A = ℕ} 0 1 = cc in omega arith
