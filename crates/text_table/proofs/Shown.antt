-- The line of each frame of a table, as the two numbers that are written. Assumes nothing.
use mathlib.Core.Path.{◌≡◌, ap, sym, ◌∙◌}
use mathlib.Core.List.{List, [], ◌∷◌}
use Prim.Native.Nat.{ℕ, zero, suc, ◌+◌, ◌*◌, ◌/◌, ◌%◌, ◌≤◌}
use native.Mathlib.Omega.{arith}
use lib.ListN.{get_or}
use Rattle.text_line.specs.Text.{Field, field, byte, eight, line_text}
use Rattle.text_line.proofs.Fields.{peel, peel_second}
use Rattle.table.specs.Words.{symbol_count, production_count, synthesized, inherited, left_of, child_count, child_of, head_at, constant_at}
use Rattle.table.specs.Equations.{op_number, a_field, b_field, argument}
use Rattle.table.specs.Judge.{header, symbol, production}
use Rattle.text_frame.specs.Text.{fields_of, text_of}
use Rattle.text_table.specs.Text.{shown}
use Rattle.text_table.specs.Inner.Putting.{reached_of, equation_text}

pub header_shown : (t : List ℕ) → line_text (field 2 1 ∷ field 4 (get_or t 0 0) ∷ []) ≡ text_of (shown t header)
unfolding text_of shown fields_of symbol_count production_count
header_shown t = peel_second (byte 1) 2 (get_or t 0 0) []

pub symbol_shown : (t : List ℕ) (s : ℕ) → line_text (field 2 2 ∷ field 4 (get_or t (1 + s) 0) ∷ []) ≡ text_of (shown t (symbol s))
unfolding text_of shown fields_of synthesized inherited
symbol_shown t s = peel_second (byte 2) 2 (get_or t (1 + s) 0) []

-- an equation: its head's five bytes behind the type's
module _ (t : List ℕ) (rule : ℕ) (known : op_number (head_at t rule) ≤ 9) where
  abbrev h : ℕ
  h = head_at t rule

  abbrev v : ℕ
  v = 4398046511104 + h

  pub equation_shown : line_text (field 12 v ∷ field 16 (constant_at t rule) ∷ []) ≡ equation_text t rule
  unfolding equation_text text_of fields_of op_number a_field b_field argument
  equation_shown =
      let k : h / 4294967296 ≤ 9 = known in
      let e0 : v / 256 / 256 / 256 / 256 / 256 ≡ 4 = omega arith in
      let e1 : v / 256 / 256 / 256 / 256 % 256 ≡ h / 4294967296 = omega arith in
      let e2 : v / 256 / 256 / 256 % 256 ≡ h / 65536 % 65536 / 256 = omega arith in
      let e3 : v / 256 / 256 % 256 ≡ h / 65536 % 65536 % 256 = omega arith in
      let e4 : v / 256 % 256 ≡ h % 65536 / 256 = omega arith in
      let e5 : v % 256 ≡ h % 65536 % 256 = omega arith in
      let c : Field = eight (constant_at t rule) in
      peel 10 v (c ∷ []) ∙ peel 8 (v / 256) (byte (v % 256) ∷ c ∷ []) ∙ peel 6 (v / 256 / 256) (byte (v / 256 % 256) ∷ byte (v % 256) ∷ c ∷ [])
      ∙ peel 4 (v / 256 / 256 / 256) (byte (v / 256 / 256 % 256) ∷ byte (v / 256 % 256) ∷ byte (v % 256) ∷ c ∷ [])
      ∙ peel 2 (v / 256 / 256 / 256 / 256) (byte (v / 256 / 256 / 256 % 256) ∷ byte (v / 256 / 256 % 256) ∷ byte (v / 256 % 256) ∷ byte (v % 256) ∷ c ∷ [])
      ∙ (λ i. line_text (byte (e0 i) ∷ byte (e1 i) ∷ byte (e2 i) ∷ byte (e3 i) ∷ byte (e4 i) ∷ byte (e5 i) ∷ c ∷ []))

-- a production: the bytes of its children, one by one from the last
module _ (t : List ℕ) (p : ℕ) where
  abbrev w : ℕ
  w = get_or t (33 + p) 0

  -- the left symbol and the child count
  front : (fs : List Field) → line_text (field 2 3 ∷ field 4 (w / 4294967296) ∷ fs) ≡ line_text (byte 3 ∷ byte (w / 1099511627776) ∷ byte (w / 4294967296 % 256) ∷ fs)
  front fs =
      let e : w / 4294967296 / 256 ≡ w / 1099511627776 = omega arith in
      peel_second (byte 3) 2 (w / 4294967296) fs ∙ ap (λ (x : ℕ). line_text (byte 3 ∷ byte x ∷ byte (w / 4294967296 % 256) ∷ fs)) e

  one_child : (fs : List Field) → line_text (field 2 3 ∷ field 6 (w / 16777216) ∷ fs) ≡ line_text (byte 3 ∷ byte (w / 1099511627776) ∷ byte (w / 4294967296 % 256) ∷ byte (w / 16777216 % 256) ∷ fs)
  one_child fs =
      let e : w / 16777216 / 256 ≡ w / 4294967296 = omega arith in
      peel_second (byte 3) 4 (w / 16777216) fs ∙ ap (λ (x : ℕ). line_text (byte 3 ∷ field 4 x ∷ byte (w / 16777216 % 256) ∷ fs)) e ∙ front (byte (w / 16777216 % 256) ∷ fs)

  two_children : (fs : List Field) → line_text (field 2 3 ∷ field 8 (w / 65536) ∷ fs)
      ≡ line_text (byte 3 ∷ byte (w / 1099511627776) ∷ byte (w / 4294967296 % 256) ∷ byte (w / 16777216 % 256) ∷ byte (w / 65536 % 256) ∷ fs)
  two_children fs =
      let e : w / 65536 / 256 ≡ w / 16777216 = omega arith in
      peel_second (byte 3) 6 (w / 65536) fs ∙ ap (λ (x : ℕ). line_text (byte 3 ∷ field 6 x ∷ byte (w / 65536 % 256) ∷ fs)) e ∙ one_child (byte (w / 65536 % 256) ∷ fs)

  three_children : (fs : List Field) → line_text (field 2 3 ∷ field 10 (w / 256) ∷ fs)
      ≡ line_text (byte 3 ∷ byte (w / 1099511627776) ∷ byte (w / 4294967296 % 256) ∷ byte (w / 16777216 % 256) ∷ byte (w / 65536 % 256) ∷ byte (w / 256 % 256) ∷ fs)
  three_children fs =
      let e : w / 256 / 256 ≡ w / 65536 = omega arith in
      peel_second (byte 3) 8 (w / 256) fs ∙ ap (λ (x : ℕ). line_text (byte 3 ∷ field 8 x ∷ byte (w / 256 % 256) ∷ fs)) e ∙ two_children (byte (w / 256 % 256) ∷ fs)

  pub production_shown : (n : ℕ) → child_count t p ≡ n → n ≤ 4 → line_text (field 2 3 ∷ field (4 + 2 * n) (reached_of w n) ∷ []) ≡ text_of (shown t (production p))
  unfolding text_of shown fields_of left_of child_count child_of reached_of
  production_shown zero e h = rw e (front [] ∙ ap (λ (x : ℕ). line_text (byte 3 ∷ byte (w / 1099511627776) ∷ byte x ∷ [])) e)
  production_shown (suc zero) e h = rw e (one_child [] ∙ ap (λ (x : ℕ). line_text (byte 3 ∷ byte (w / 1099511627776) ∷ byte x ∷ byte (w / 16777216 % 256) ∷ [])) e)
  production_shown (suc (suc zero)) e h =
      rw e (two_children [] ∙ ap (λ (x : ℕ). line_text (byte 3 ∷ byte (w / 1099511627776) ∷ byte x ∷ byte (w / 16777216 % 256) ∷ byte (w / 65536 % 256) ∷ [])) e)
  production_shown (suc (suc (suc zero))) e h =
      rw e (three_children [] ∙ ap (λ (x : ℕ). line_text (byte 3 ∷ byte (w / 1099511627776) ∷ byte x ∷ byte (w / 16777216 % 256) ∷ byte (w / 65536 % 256) ∷ byte (w / 256 % 256) ∷ [])) e)
  production_shown (suc (suc (suc (suc zero)))) e h =
      let d : w / 1 ≡ w = omega arith in
      rw e (ap (λ (x : ℕ). line_text (field 2 3 ∷ field 12 x ∷ [])) d ∙ peel_second (byte 3) 10 w [] ∙ three_children (byte (w % 256) ∷ [])
      ∙ ap (λ (x : ℕ). line_text (byte 3 ∷ byte (w / 1099511627776) ∷ byte x ∷ byte (w / 16777216 % 256) ∷ byte (w / 65536 % 256) ∷ byte (w / 256 % 256) ∷ byte (w % 256) ∷ [])) e
      ∙ ap (λ (x : ℕ). line_text (byte 3 ∷ byte (w / 1099511627776) ∷ byte 4 ∷ byte (w / 16777216 % 256) ∷ byte (w / 65536 % 256) ∷ byte (w / 256 % 256) ∷ byte (x % 256) ∷ [])) (sym d))
  production_shown (suc (suc (suc (suc (suc n))))) e h = absurd (omega arith)
