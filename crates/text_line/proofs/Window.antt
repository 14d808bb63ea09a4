-- A window on a longer text: what stands in front of it and behind it changes nothing. Assumes nothing.
use mathlib.Core.Path.{◌≡◌, refl, ap, sym, ◌∙◌}
use mathlib.Core.List.{List, ◌++◌}
use mathlib.Core.Logic.{⊎_elim}
use Prim.Native.Nat.{ℕ, zero, suc, ◌+◌, ◌≤◌, ◌<◌}
use native.Mathlib.Omega.{arith}
use native.Mathlib.Nat.{add-zero}
use borrow.Author.Tests.{lt-ltb, le-ltb}
use lib.Dec.{ltb}
use lib.ListN.{length, get_or, length-append, get_or-append}
use lib.Seq.{get_or-append-add}
use Rattle.text_line.specs.Hex.{digits_at, num_at}
use Rattle.text_line.specs.Text.{line_at}
use Rattle.text_line.specs.Laws.{Windows}
use Rattle.text_line.proofs.Values.{lt_or_ge}
use Rattle.text_line.proofs.Rows.{row_most}

-- two texts read alike, m bytes from a place on
abbrev pub ReadAlike : List ℕ → List ℕ → ℕ → ℕ → ℕ → Type 0
ReadAlike s t a b m = (j : ℕ) → j < m → get_or s (a + j) 0 ≡ get_or t (b + j) 0

module _ (s t : List ℕ) (a b : ℕ) where
  pub num_alike : (k o : ℕ) → ReadAlike s t a b (o + k) → num_at k s (a + o) ≡ num_at k t (b + o)
  unfolding num_at
  num_alike zero o h = refl
  num_alike (suc k) o h =
      let e : get_or s (a + (o + k)) 0 ≡ get_or t (b + (o + k)) 0 = h (o + k) (omega arith) in
      let x : a + o + k ≡ a + (o + k) = omega arith in
      let y : b + o + k ≡ b + (o + k) = omega arith in
      rw (x, y, e, num_alike k o (λ j i. h j (omega arith)))

  row_alike : (m o : ℕ) → ReadAlike s t a b (o + m) → digits_at m s (a + o) ≡ digits_at m t (b + o)
  unfolding digits_at
  row_alike zero o h = refl
  row_alike (suc m) o h =
      let e : get_or s (a + o) 0 ≡ get_or t (b + o) 0 = h o (omega arith) in
      let x : a + o + 1 ≡ a + (o + 1) = omega arith in
      let y : b + o + 1 ≡ b + (o + 1) = omega arith in
      rw (e, x, y, row_alike m (o + 1) (λ j i. h j (omega arith)))

  -- 29 bytes: a 29th digit is one too many, whatever comes behind it
  pub line_alike : ReadAlike s t a b 29 → ltb a (length s) ≡ ltb b (length t) → line_at s a ≡ line_at t b
  unfolding line_at
  line_alike h l =
      let r : digits_at 29 s a ≡ digits_at 29 t b = ap (digits_at 29 s) (sym (add-zero a)) ∙ row_alike 29 0 (λ j i. h j (omega arith)) ∙ ap (digits_at 29 t) (add-zero b) in
      rw (l, r)
      (⊎_elim (λ k. let e : get_or s (a + digits_at 29 t b) 0 ≡ get_or t (b + digits_at 29 t b) 0 = h (digits_at 29 t b) k in rw e)
      (λ k. let e : digits_at 29 t b ≡ 29 = omega (arith, row_most 29 t b) in rw e) (lt_or_ge (digits_at 29 t b) 29))

-- a text in front of the window: everything is found as far behind it
module _ (p s : List ℕ) (place : ℕ) where
  pub alike_behind : (m : ℕ) → ReadAlike (p ++ s) s (length p + place) place m
  alike_behind m j i = let e : length p + place + j ≡ length p + (place + j) = omega arith in rw e (get_or-append-add p s (place + j) 0)

  same_end : ltb (length p + place) (length (p ++ s)) ≡ ltb place (length s)
  same_end =
      ⊎_elim (λ h. lt-ltb (length p + place) (length (p ++ s)) (omega (arith, length-append p s)) ∙ sym (lt-ltb place (length s) h))
      (λ h. le-ltb (length p + place) (length (p ++ s)) (omega (arith, length-append p s)) ∙ sym (le-ltb place (length s) h)) (lt_or_ge place (length s))

  pub line_behind : line_at (p ++ s) (length p + place) ≡ line_at s place
  line_behind = line_alike (p ++ s) s (length p + place) place (alike_behind 29) same_end

-- a text behind the window: 29 bytes of the window decide
module _ (s t : List ℕ) (place : ℕ) where
  pub alike_ahead : (m : ℕ) → place + m ≤ length s → ReadAlike (s ++ t) s place place m
  alike_ahead m h j i = get_or-append s t 0 (place + j) (omega arith)

  pub line_ahead : place + 29 ≤ length s → line_at (s ++ t) place ≡ line_at s place
  line_ahead h =
      line_alike (s ++ t) s place place (alike_ahead 29 h)
      (lt-ltb place (length (s ++ t)) (omega (arith, length-append s t)) ∙ sym (lt-ltb place (length s) (omega arith)))

pub windows : Windows
windows = record { ahead = line_ahead; behind = λ s t place. line_behind s t place }
