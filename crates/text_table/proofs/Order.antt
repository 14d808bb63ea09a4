-- The frames of a table from a place on, and that what comes next walks along them. Assumes nothing.
use mathlib.Core.Path.{◌≡◌, refl, ap, sym, ◌∙◌}
use mathlib.Core.List.{List, [], ◌∷◌, ◌++◌, append_assoc, append-nil}
use mathlib.Core.Logic.{⊎_elim}
use Prim.Native.Nat.{ℕ, zero, suc, ◌+◌, ◌-◌, ◌≤◌, ◌<◌}
use native.Mathlib.Omega.{arith}
use native.Mathlib.Nat.{add-zero, zero-add, sub-zero}
use native.Mathlib.Numerals.{add-one}
use borrow.Author.Tests.{lt-ltb, le-ltb}
use Rattle.text_line.proofs.Values.{lt_or_ge}
use Rattle.table.specs.First.{row}
use Rattle.table.specs.Words.{symbol_count, production_count, child_count, defined}
use Rattle.table.specs.Judge.{Frame, header, symbol, production, equation, part_of, frames}
use Rattle.table.specs.Same.{Has}
use Rattle.text_frame.specs.Text.{text_of}
use Rattle.text_table.specs.Text.{shown, texts}
use Rattle.text_frame.specs.Walk.{after_part, seek_from, next_of}
use Rattle.text_table.specs.Inner.Putting.{text_at}
use Rattle.text_frame.specs.declared.Expected.{Expected}
use Rattle.text_frame.specs.declared.Expected.TheVariants.{AtHeader, AtSymbol, AtProduction, AtEquation, Ended}

-- the lists of i to i + n - 1, one behind the other
unfoldable pub rows : {A : Type 0} → (ℕ → List A) → ℕ → ℕ → List A
rows f i zero = []
rows f i (suc n) = f i ++ rows f (i + 1) n

row_rows : {A : Type 0} (f : ℕ → List A) (i n : ℕ) → row f (i + n) ≡ row f i ++ rows f i n
unfolding row rows
row_rows f i zero = rw add-zero (sym (append-nil (row f i)))
row_rows f i (suc n) =
    let e : i + suc n ≡ i + 1 + n = omega arith in
    let d : row f (i + 1) ≡ row f i ++ f i = rw add-one in
    rw (e, row_rows f (i + 1) n, d) (append_assoc (row f i) (f i) (rows f (i + 1) n))

pub row_all : {A : Type 0} (f : ℕ → List A) (n : ℕ) → row f n ≡ rows f 0 n
unfolding row
row_all f n = ap (row f) (sym (zero-add n)) ∙ row_rows f 0 n

-- one more of n - i
pub rows_more : {A : Type 0} (f : ℕ → List A) (i n : ℕ) → i < n → rows f i (n - i) ≡ f i ++ rows f (i + 1) (n - (i + 1))
unfolding rows
rows_more f i n h = let e : n - i ≡ suc (n - (i + 1)) = omega arith in rw e

pub rows_none : {A : Type 0} (f : ℕ → List A) (i n : ℕ) → n ≤ i → rows f i (n - i) ≡ []
unfolding rows
rows_none f i n h = let e : n - i ≡ 0 = omega arith in rw e

abbrev pub symbol_row : ℕ → List Frame
symbol_row s = symbol s ∷ []

abbrev pub equation_row : ℕ → ℕ → ℕ → List Frame
equation_row p q k = equation p q k ∷ []

abbrev pub position_row : List ℕ → ℕ → ℕ → List Frame
position_row t p q = row (equation_row p q) (defined t p q)

-- the productions behind production p
abbrev pub behind : List ℕ → ℕ → List Frame
behind t p = rows (part_of t) (p + 1) (production_count t - (p + 1))

-- the frames from an expected one on
unfoldable pub rest_of : List ℕ → Expected → List Frame
rest_of t AtHeader = frames t
rest_of t (AtSymbol s) = rows symbol_row s (symbol_count t - s) ++ rows (part_of t) 0 (production_count t)
rest_of t (AtProduction p) = rows (part_of t) p (production_count t - p)
rest_of t (AtEquation p q k) = rows (equation_row p q) k (defined t p q - k) ++ (rows (position_row t p) (q + 1) (child_count t p - q) ++ behind t p)
rest_of t Ended = []

-- the expected frame is one of the table
abbrev pub Valid : List ℕ → Expected → Type 0
Valid t AtHeader = Unit {0}
Valid t (AtSymbol s) = s < symbol_count t
Valid t (AtProduction p) = p < production_count t
Valid t (AtEquation p q k) = Has t p q k
Valid t Ended = Unit {0}

module _ (t : List ℕ) (p : ℕ) where
  after_rest : rest_of t (after_part t p) ≡ behind t p
  unfolding rest_of
  after_rest =
      ⊎_elim (λ h. rw (lt-ltb (p + 1) (production_count t) h)) (λ h. rw (le-ltb (p + 1) (production_count t) h) (sym (rows_none (part_of t) (p + 1) (production_count t) h)))
      (lt_or_ge (p + 1) (production_count t))

  after_valid : Valid t (after_part t p)
  after_valid = ⊎_elim (λ h. rw (lt-ltb (p + 1) (production_count t) h) h) (λ h. rw (le-ltb (p + 1) (production_count t) h) tt) (lt_or_ge (p + 1) (production_count t))

  seek_rest : (n q : ℕ) → q + n ≡ suc (child_count t p) → rest_of t (seek_from n t p q) ≡ rows (position_row t p) q n ++ behind t p
  unfolding seek_from row rows rest_of
  seek_rest zero q e = after_rest
  seek_rest (suc n) q e =
      ⊎_elim
      (λ h. let m : n ≡ child_count t p - q = omega arith in
      rw (lt-ltb 0 (defined t p q) h, append_assoc, row_all (equation_row p q) (defined t p q), sub-zero, m))
      (λ h. let z : defined t p q ≡ 0 = omega arith in let m : q + 1 + n ≡ suc (child_count t p) = omega arith in rw (le-ltb 0 (defined t p q) h) (rw z (seek_rest n (q + 1) m)))
      (lt_or_ge 0 (defined t p q))

  seek_valid : (n q : ℕ) → p < production_count t → q + n ≡ suc (child_count t p) → Valid t (seek_from n t p q)
  unfolding seek_from
  seek_valid zero q b e = after_valid
  seek_valid (suc n) q b e =
      ⊎_elim (λ h. rw (lt-ltb 0 (defined t p q) h) (record { production = b; position = omega arith; set = h })) (λ h. rw (le-ltb 0 (defined t p q) h) (seek_valid n (q + 1) b (omega arith)))
      (lt_or_ge 0 (defined t p q))

module _ (t : List ℕ) (symbols : 1 ≤ symbol_count t) (productions : 1 ≤ production_count t) where
  pub next_valid : (x : Expected) → Valid t x → Valid t (next_of t x)
  unfolding next_of
  next_valid AtHeader v = symbols
  next_valid (AtSymbol s) v = ⊎_elim (λ h. rw (lt-ltb (s + 1) (symbol_count t) h) h) (λ h. rw (le-ltb (s + 1) (symbol_count t) h) productions) (lt_or_ge (s + 1) (symbol_count t))
  next_valid (AtProduction p) v = seek_valid t p (suc (child_count t p)) 0 v (omega arith)
  next_valid (AtEquation p q k) v =
      ⊎_elim (λ h. rw (lt-ltb (k + 1) (defined t p q) h) (record { production = v.production; position = v.position; set = h }))
      (λ h. rw (le-ltb (k + 1) (defined t p q) h) (seek_valid t p (child_count t p - q) (q + 1) v.production (omega (arith, v.position))))
      (lt_or_ge (k + 1) (defined t p q))
  next_valid Ended v = tt

-- the expected frame, and then those from the next one on; at the end there are none
abbrev pub entries : Expected → List Frame
entries AtHeader = header ∷ []
entries (AtSymbol s) = symbol s ∷ []
entries (AtProduction p) = production p ∷ []
entries (AtEquation p q k) = equation p q k ∷ []
entries Ended = []

pub rest_next : (t : List ℕ) (x : Expected) → Valid t x → rest_of t x ≡ entries x ++ rest_of t (next_of t x)
unfolding next_of rest_of frames part_of
rest_next t AtHeader v = rw (row_all symbol_row (symbol_count t), row_all (part_of t) (production_count t), sub-zero)
rest_next t (AtSymbol s) v =
    rw (rows_more symbol_row s (symbol_count t) v)
    (⊎_elim (λ h. rw (lt-ltb (s + 1) (symbol_count t) h)) (λ h. rw (le-ltb (s + 1) (symbol_count t) h, rows_none symbol_row (s + 1) (symbol_count t) h, sub-zero)) (lt_or_ge (s + 1) (symbol_count t)))
rest_next t (AtProduction p) v =
    rw (rows_more (part_of t) p (production_count t) v, seek_rest t p (suc (child_count t p)) 0 (omega arith), row_all (position_row t p) (suc (child_count t p)))
rest_next t (AtEquation p q k) v =
    rw (rows_more (equation_row p q) k (defined t p q) v.set)
    (⊎_elim (λ h. rw (lt-ltb (k + 1) (defined t p q) h))
    (λ h. rw (le-ltb (k + 1) (defined t p q) h, rows_none (equation_row p q) (k + 1) (defined t p q) h, seek_rest t p (child_count t p - q) (q + 1) (omega (arith, v.position))))
    (lt_or_ge (k + 1) (defined t p q)))
rest_next t Ended v = refl

pub texts_append : (t : List ℕ) (xs ys : List Frame) → texts t (xs ++ ys) ≡ texts t xs ++ texts t ys
unfolding texts
texts_append t [] ys = refl
texts_append t (x ∷ xs) ys = rw (texts_append t xs ys) (sym (append_assoc (text_of (shown t x)) (texts t xs) (texts t ys)))

-- the same of the text
entry_text : (t : List ℕ) (x : Expected) → texts t (entries x) ≡ text_at t x
unfolding texts text_at
entry_text t AtHeader = append-nil (text_at t AtHeader)
entry_text t (AtSymbol s) = append-nil (text_at t (AtSymbol s))
entry_text t (AtProduction p) = append-nil (text_at t (AtProduction p))
entry_text t (AtEquation p q k) = append-nil (text_at t (AtEquation p q k))
entry_text t Ended = refl

pub text_next : (t : List ℕ) (x : Expected) → Valid t x → texts t (rest_of t x) ≡ text_at t x ++ texts t (rest_of t (next_of t x))
text_next t x v = ap (texts t) (rest_next t x v) ∙ texts_append t (entries x) (rest_of t (next_of t x)) ∙ ap (λ (l : List ℕ). l ++ texts t (rest_of t (next_of t x))) (entry_text t x)
