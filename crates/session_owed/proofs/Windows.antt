-- One whole line in front of any text: its frame is found without the text behind it, and the text goes on behind it. Assumes nothing.
use mathlib.Core.Path.{◌≡◌, refl, ap, sym, ◌∙◌}
use mathlib.Core.Bool.{Bool, true, false, cond}
use mathlib.Core.List.{List, ◌++◌}
use mathlib.Core.Logic.{⊎_elim}
use Prim.Native.Nat.{ℕ, zero, suc, ◌+◌, ◌-◌, ◌*◌, ◌≤◌, ◌<◌}
use native.Mathlib.Omega.{arith}
use native.Mathlib.Nat.{add-zero, zero-add}
use borrow.Author.Tests.{lt-ltb, eqb-true, ltb-true, ltb-false}
use lib.Dec.{ltb, eqb}
use lib.ListN.{length, get_or, length-append, get_or-append}
use Rattle.refusal.specs.declared.Refusal.TheVariants as why
use Rattle.text_line.specs.Hex.{is_hex, digits_at, num_at}
use Rattle.text_line.specs.Text.{line_at}
use Rattle.text_line.specs.declared.Line.{Line}
use Rattle.text_line.specs.declared.Line.TheVariants.{Digits, Bad, End}
use Rattle.text_line.proofs.Values.{lt_or_ge}
use Rattle.text_line.proofs.Window.{ReadAlike, num_alike, line_ahead}
use Rattle.text_line.proofs.Rows.{line_says, end_says}
use Rattle.text_frame.specs.Frames.{wrong_length, sized, child_at, header_of, symbol_of, production_of, equation_of, node_of, load_of, replace_of, corrections_of, correction_of, kind_of, frame_of, step_of, frame_at, line_after}
use Rattle.text_frame.specs.Text.{type_of}
use Rattle.text_frame.proofs.Exactly.{never_over}
use Rattle.text_frame.specs.declared.Frame.{Frame}
use Rattle.text_frame.specs.declared.Frame.TheVariants.{Rule, Refused, Over}
use Rattle.text_frame.specs.declared.Rule.TheVariants.{Production}
use Rattle.session_owed.specs.Owed.{Begun, Whole}

-- ---- rows of digits

-- two texts that read alike up to a byte that is no digit have the same row of digits there
module _ (s t : List ℕ) where
  -- what is said of a row of m digits at the most
  abbrev Row : ℕ → ℕ → ℕ → Type 0
  Row m a b = (k : ℕ) → ReadAlike s t a b (k + 1) → is_hex (get_or s (a + k) 0) ≡ false → k < m → (digits_at m s a ≡ digits_at m t b) × (digits_at m s a ≤ k)

  row_on : (m a b : ℕ) → Row m (a + 1) (b + 1) → is_hex (get_or s a 0) ≡ true → (k : ℕ) → ReadAlike s t a b (k + 1) → is_hex (get_or s (a + k) 0) ≡ false → k < suc m
      → (suc (digits_at m s (a + 1)) ≡ suc (digits_at m t (b + 1))) × (suc (digits_at m s (a + 1)) ≤ k)
  row_on m a b rest f zero h e l =
      absurd (let x : a + 0 ≡ a = add-zero a in let g : is_hex (get_or s a 0) ≡ false = rw x at e in let z : ◌≡◌ {A = Bool} true false = sym f ∙ g in let y : ◌≡◌ {A = ℕ} 0 1 = cc in omega arith)
  row_on m a b rest f (suc k) h e l =
      let g : is_hex (get_or s (a + 1 + k) 0) ≡ false = let x : a + 1 + k ≡ a + suc k = omega arith in rw x e in
      let r = rest k (λ j i. let x : a + 1 + j ≡ a + suc j = omega arith in let y : b + 1 + j ≡ b + suc j = omega arith in rw (x, y) (h (suc j) (omega arith))) g (omega arith) in
      (ap suc r.0, omega (arith, r.1))

  row_same : (m a b : ℕ) → Row m a b
  unfolding digits_at
  row_same zero a b k h e l = absurd (omega arith)
  row_same (suc m) a b k h e l = by_first (is_hex (get_or s a 0)) refl (row_same m (a + 1) (b + 1))
    where
      first : get_or s a 0 ≡ get_or t b 0
      first = let x : a + 0 ≡ a = add-zero a in let y : b + 0 ≡ b = add-zero b in rw (x, y) at (h 0 (omega arith))

      by_first : (x : Bool) → is_hex (get_or s a 0) ≡ x → Row m (a + 1) (b + 1)
          → (cond (is_hex (get_or s a 0)) (suc (digits_at m s (a + 1))) 0 ≡ cond (is_hex (get_or t b 0)) (suc (digits_at m t (b + 1))) 0) × (cond (is_hex (get_or s a 0)) (suc (digits_at m s (a + 1))) 0 ≤ k)
      by_first false f rest = let g : is_hex (get_or t b 0) ≡ false = ap is_hex (sym first) ∙ f in rw (f, g) (refl, omega arith)
      by_first true f rest = let g : is_hex (get_or t b 0) ≡ true = ap is_hex (sym first) ∙ f in rw (f, g) (row_on m a b rest f k h e l)

no_digit : is_hex 10 ≡ false
unfolding is_hex
no_digit = refl

-- ---- the line

module _ (w u : List ℕ) (h : Whole w) where
  short_line : length w < 29 → line_at (w ++ u) 0 ≡ line_at w 0
  unfolding line_at
  short_line l =
      let k : ℕ = length w - 1 in
      let z : 0 + k ≡ k = zero-add k in
      let some : 0 < length w = h.some in
      let at : (j : ℕ) → j < length w → get_or w (0 + j) 0 ≡ get_or (w ++ u) (0 + j) 0 = λ j i. let y : 0 + j ≡ j = zero-add j in rw y (sym (get_or-append w u 0 j i)) in
      let e : is_hex (get_or w (0 + k) 0) ≡ false = rw (z, h.ends l) no_digit in
      let r = row_same w (w ++ u) 29 0 0 k (λ j i. at j (omega arith)) e (omega arith) in
      let d : ℕ = digits_at 29 w 0 in
      let f : get_or w (0 + d) 0 ≡ get_or (w ++ u) (0 + d) 0 = at d (omega (arith, r.1)) in
      let a : 0 < length (w ++ u) = omega (arith, length-append w u) in
      rw (lt-ltb 0 (length w) some, lt-ltb 0 (length (w ++ u)) a, ← r.0, ← f)

  line_first : line_at (w ++ u) 0 ≡ line_at w 0
  line_first = ⊎_elim short_line (λ l. line_ahead w u 0 (omega arith)) (lt_or_ge (length w) 29)

-- its LF is its last byte
line_length : (w : List ℕ) (n : ℕ) → Whole w → line_at w 0 ≡ Digits n → n + 1 ≡ length w
line_length w n h e =
    let s = line_says w 0 n e in
    let z : 0 + n ≡ n = zero-add n in
    let f : get_or w n 0 ≡ 10 = rw z at s.ended in
    ⊎_elim (λ l. absurd (h.no_end n l f)) (λ l. omega (arith, s.inside)) (lt_or_ge (n + 1) (length w))

-- ---- the frame: of a line of n digits no byte behind them counts

module _ (s t : List ℕ) (a b n line : ℕ) (h : ReadAlike s t a b n) where
  num : (k o : ℕ) → o + k ≤ n → num_at k s (a + o) ≡ num_at k t (b + o)
  num k o i = num_alike s t a b k o (λ j l. h j (omega arith))

  either : (asked : ℕ) (f g : Frame) → (n ≡ asked → f ≡ g) → sized n asked line f ≡ sized n asked line g
  either asked f g e = by_test_lem (eqb n asked) refl
    where
      by_test_lem : (x : Bool) → eqb n asked ≡ x → cond x f (wrong_length line) ≡ cond x g (wrong_length line)
      by_test_lem true q = e (eqb-true n asked q)
      by_test_lem false q = refl

  header_same : header_of s a n line ≡ header_of t b n line
  unfolding header_of
  header_same = either 6 _ _ (λ e. rw (num 2 2 (omega arith), num 2 4 (omega arith)))

  symbol_same : symbol_of s a n line ≡ symbol_of t b n line
  unfolding symbol_of
  symbol_same = either 6 _ _ (λ e. rw (num 2 2 (omega arith), num 2 4 (omega arith)))

  equation_same : equation_of s a n line ≡ equation_of t b n line
  unfolding equation_of
  equation_same = either 28 _ _ (λ e. rw (num 2 2 (omega arith), num 2 4 (omega arith), num 2 6 (omega arith), num 2 8 (omega arith), num 2 10 (omega arith), num 16 12 (omega arith)))

  node_same : node_of s a n line ≡ node_of t b n line
  unfolding node_of
  node_same = either 20 _ _ (λ e. rw (num 2 2 (omega arith), num 16 4 (omega arith)))

  load_same : load_of s a n line ≡ load_of t b n line
  unfolding load_of
  load_same = either 6 _ _ (λ e. rw (num 4 2 (omega arith)))

  replace_same : replace_of s a n line ≡ replace_of t b n line
  unfolding replace_of
  replace_same = either 10 _ _ (λ e. rw (num 4 2 (omega arith), num 4 6 (omega arith)))

  corrections_same : corrections_of s a n line ≡ corrections_of t b n line
  unfolding corrections_of
  corrections_same = either 4 _ _ (λ e. rw (num 2 2 (omega arith)))

  correction_same : correction_of s a n line ≡ correction_of t b n line
  unfolding correction_of
  correction_same = either 10 _ _ (λ e. rw (num 4 2 (omega arith), num 4 6 (omega arith)))

  child_same : (c j : ℕ) → n ≡ 6 + 2 * c → child_at s a c j ≡ child_at t b c j
  child_same c j e = by_test_lem (ltb j c) refl
    where
      by_test_lem : (x : Bool) → ltb j c ≡ x → cond x (num_at 2 s (a + (6 + 2 * j))) 0 ≡ cond x (num_at 2 t (b + (6 + 2 * j))) 0
      by_test_lem true q = num 2 (6 + 2 * j) (omega (arith, ltb-true j c q))
      by_test_lem false q = refl

  abbrev made : List ℕ → ℕ → ℕ → Frame
  made x p c = Rule (Production (num_at 2 x (p + 2)) c (record { one = child_at x p c 0; two = child_at x p c 1; three = child_at x p c 2; four = child_at x p c 3 }))

  made_same : (c : ℕ) → n ≡ 6 + 2 * c → made s a c ≡ made t b c
  made_same c e =
      let l = num 2 2 (omega arith) in
      let c0 = child_same c 0 e in
      let c1 = child_same c 1 e in
      let c2 = child_same c 2 e in
      let c3 = child_same c 3 e in
      λ i. Rule (Production (l i) c (record { one = c0 i; two = c1 i; three = c2 i; four = c3 i }))

  production_same : production_of s a n line ≡ production_of t b n line
  unfolding production_of
  production_same = by_test_lem (ltb n 6) refl
    where
      of : List ℕ → ℕ → ℕ → Frame
      of x p c = sized n (6 + 2 * c) line (made x p c)

      by_test_lem : (x : Bool) → ltb n 6 ≡ x → cond x (wrong_length line) (of s a (num_at 2 s (a + 4))) ≡ cond x (wrong_length line) (of t b (num_at 2 t (b + 4)))
      by_test_lem true q = refl
      by_test_lem false q =
          let c : num_at 2 s (a + 4) ≡ num_at 2 t (b + 4) = num 2 4 (omega (arith, ltb-false n 6 q)) in
          ap (of s a) c ∙ either (6 + 2 * num_at 2 t (b + 4)) _ _ (made_same (num_at 2 t (b + 4)))

  frame_same : 2 ≤ n → frame_of s a n line ≡ frame_of t b n line
  unfolding frame_of kind_of
  frame_same two =
      let e : num_at 2 s a ≡ num_at 2 t b = ap (num_at 2 s) (sym (add-zero a)) ∙ num 2 0 (omega arith) ∙ ap (num_at 2 t) (add-zero b) in
      rw (e, header_same, symbol_same, production_same, equation_same, node_same, load_same, replace_same, corrections_same, correction_same)

-- ---- what a whole line is

-- its frame, whatever text stands behind it; and where the frame has a type the text goes on behind the line
pub record Front (w : List ℕ) (line : ℕ) (f : Frame) : Type 0 where
  pub frame : (u : List ℕ) → (frame_at (w ++ u) 0 line).frame ≡ f
  pub place : 0 < type_of f → (u : List ℕ) → (frame_at (w ++ u) 0 line).place ≡ length w + 0
  pub next : 0 < type_of f → (u : List ℕ) → (frame_at (w ++ u) 0 line).line ≡ line_after line
  pub some : f ≡ Over → ⊥

pub front : (w : List ℕ) (line : ℕ) → Whole w → Front w line (frame_at w 0 line).frame
unfolding frame_at
front w line h = by_line (line_at w 0) refl
  where
    by_line : (l : Line) → line_at w 0 ≡ l → Front w line (step_of w 0 line l).frame
    by_line (Digits n) e =
        let s = line_says w 0 n e in
        let k : 0 + (n + 1) ≡ length w + 0 = omega (arith, line_length w n h e) in
        let g : (u : List ℕ) → line_at (w ++ u) 0 ≡ Digits n = λ u. line_first w u h ∙ e in
        record {
          frame = λ u. rw (g u) (frame_same (w ++ u) w 0 0 n line (λ j i. let y : 0 + j ≡ j = zero-add j in rw y (get_or-append w u 0 j (omega arith))) s.few);
          place = λ y u. rw (g u) k;
          next = λ y u. rw (g u);
          some = never_over w 0 n line;
        }
    by_line Bad e = record {
      frame = λ u. let g : line_at (w ++ u) 0 ≡ Bad = line_first w u h ∙ e in rw g;
      place = λ y. absurd (omega arith);
      next = λ y. absurd (omega arith);
      some = λ x. let z : ◌≡◌ {A = ℕ} 0 1 = cc in omega arith;
    }
    by_line End e = absurd (omega (arith, end_says w 0 e, h.some))

-- ---- what a line is that has only begun

pub begun : (w : List ℕ) (line : ℕ) → Begun w → 0 < length w → (frame_at w 0 line).frame ≡ Refused why.Line line
unfolding frame_at
begun w line h some = by_line (line_at w 0) refl
  where
    by_line : (l : Line) → line_at w 0 ≡ l → (step_of w 0 line (line_at w 0)).frame ≡ Refused why.Line line
    by_line (Digits n) e =
        let s = line_says w 0 n e in
        let z : 0 + n ≡ n = zero-add n in
        let f : get_or w n 0 ≡ 10 = rw z at s.ended in
        absurd (h.no_end n (omega (arith, s.inside)) f)
    by_line Bad e = rw e
    by_line End e = absurd (omega (arith, end_says w 0 e))
