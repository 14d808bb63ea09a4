-- Two tables whose frames show the same are the same table. Assumes nothing.
use mathlib.Core.Path.{◌≡◌, refl, ap, sym, ◌∙◌}
use mathlib.Core.List.{List, [], ◌∷◌, ◌++◌}
use mathlib.Core.Bool.{cond}
use mathlib.Core.Logic.{⊎_elim}
use Prim.Native.Nat.{ℕ, zero, suc, ◌+◌, ◌-◌, ◌/◌, ◌%◌, ◌≤◌, ◌<◌}
use native.Mathlib.Omega.{arith}
use borrow.Author.Tests.{lt-ltb}
use lib.Dec.{ltb}
use Rattle.text_line.proofs.Values.{lt_or_ge}
use Rattle.sets.specs.declared.Argument.{Argument}
use Rattle.table.specs.First.{row}
use Rattle.table.specs.Words.{symbol_count, production_count, synthesized, inherited, left_of, child_of, child_count, symbol_at, defined, rule_of, head_at, constant_at}
use Rattle.table.specs.Equations.{op_number, a_field, b_field, argument}
use Rattle.table.specs.Judge.{Frame, symbol, equation, part_of, frames, judge_table}
use Rattle.table.specs.Same.{Has, Same}
use Rattle.table.proofs.Sound.{sound}
use Rattle.table.proofs.Same.{defined_same}
use Rattle.text_table.specs.Text.{child_in, shown}
use Rattle.text_frame.specs.Walk.{seek_from, next_of}
use Rattle.text_frame.specs.declared.Children.{Children}
use Rattle.text_frame.specs.declared.Frame.TheVariants.{Rule}
use Rattle.text_frame.specs.declared.Rule.TheVariants.{Header, Symbol, Production, Equation}
use Rattle.text_frame.specs.declared.Expected.{Expected}
use Rattle.text_frame.specs.declared.Expected.TheVariants.{AtHeader, AtSymbol, AtProduction, AtEquation, Ended}
use Rattle.text_table.proofs.Order.{Valid}

-- each frame of a list shows the same in both
abbrev pub ShownAlike : List ℕ → List ℕ → List Frame → Type 0
ShownAlike t u [] = Unit {0}
ShownAlike t u (x ∷ xs) = (shown u x ≡ shown t x) × ShownAlike t u xs

module _ (t u : List ℕ) where
  alike_parts : (xs ys : List Frame) → ShownAlike t u (xs ++ ys) → ShownAlike t u xs × ShownAlike t u ys
  alike_parts [] ys a = (tt, a)
  alike_parts (x ∷ xs) ys a = let w = alike_parts xs ys a.1 in ((a.0, w.0), w.1)

  alike_row : (f : ℕ → List Frame) (n i : ℕ) → i < n → ShownAlike t u (row f n) → ShownAlike t u (f i)
  unfolding row
  alike_row f zero i h a = absurd (omega arith)
  alike_row f (suc n) i h a =
      let w = alike_parts (row f n) (f n) a in
      ⊎_elim (λ (k : i < n). alike_row f n i k w.0) (λ (k : n ≤ i). let e : i ≡ n = omega arith in rw e w.1) (lt_or_ge i n)

-- the fields that two frames share
field_one : (a b c d : ℕ) → Rule (Header a b) ≡ Rule (Header c d) → (a ≡ c) × (b ≡ d)
field_one a b c d e = (cc, cc)

field_two : (a b c d : ℕ) → Rule (Symbol a b) ≡ Rule (Symbol c d) → (a ≡ c) × (b ≡ d)
field_two a b c d e = (cc, cc)

record Produced (a b c d : ℕ) (k l : Children) : Type 0 where
  pub left : a ≡ c
  pub count : b ≡ d
  pub kids : k ≡ l

produced : (a b c d : ℕ) (k l : Children) → Rule (Production a b k) ≡ Rule (Production c d l) → Produced a b c d k l
produced a b c d k l e = record { left = cc; count = cc; kids = cc }

record Equated (o q : ℕ) (a b x y : Argument) (c d : ℕ) : Type 0 where
  pub op : o ≡ q
  pub first : a ≡ x
  pub second : b ≡ y
  pub constant : c ≡ d

equated : (o q : ℕ) (a b x y : Argument) (c d : ℕ) → Rule (Equation o a b c) ≡ Rule (Equation q x y d) → Equated o q a b x y c d
equated o q a b x y c d e = record { op = cc; first = cc; second = cc; constant = cc }

-- a head is its fields
low_high : (x y : ℕ) → x / 256 ≡ y / 256 → x % 256 ≡ y % 256 → x ≡ y
low_high x y a b = omega arith

halves : (x y : ℕ) → x / 65536 ≡ y / 65536 → x % 65536 ≡ y % 65536 → x ≡ y
halves x y a b = omega arith

twice : (x : ℕ) → x / 65536 / 65536 ≡ x / 4294967296
twice x = omega arith

arguments : (x y : ℕ) → argument x ≡ argument y → x ≡ y
unfolding argument
arguments x y e = low_high x y (ap (λ (a : Argument). a.position) e) (ap (λ (a : Argument). a.index) e)

heads : (g h : ℕ) → op_number g ≡ op_number h → argument (a_field g) ≡ argument (a_field h) → argument (b_field g) ≡ argument (b_field h) → g ≡ h
unfolding op_number a_field b_field
heads g h o a b =
    halves g h (halves (g / 65536) (h / 65536) (twice g ∙ o ∙ sym (twice h)) (arguments (g / 65536 % 65536) (h / 65536 % 65536) a)) (arguments (g % 65536) (h % 65536) b)

kid_of : (k n m v w : ℕ) → k < n → m ≡ n → cond (ltb k m) v 0 ≡ cond (ltb k n) w 0 → v ≡ w
kid_of k n m v w h e d =
    let p : k < m = omega arith in
    let x : cond (ltb k m) v 0 ≡ v = rw (lt-ltb k m p) in
    let y : cond (ltb k n) w 0 ≡ w = rw (lt-ltb k n h) in
    sym x ∙ d ∙ y

module _ (t u : List ℕ) (j : judge_table t ≡ 0) (a : ShownAlike t u (frames t)) where
  tops : (symbol_count u ≡ symbol_count t) × (production_count u ≡ production_count t)
  unfolding frames shown
  tops = field_one (symbol_count u) (production_count u) (symbol_count t) (production_count t) a.0

  rows : ShownAlike t u (row (λ (s : ℕ). symbol s ∷ []) (symbol_count t)) × ShownAlike t u (row (part_of t) (production_count t))
  unfolding frames
  rows = alike_parts t u (row (λ (s : ℕ). symbol s ∷ []) (symbol_count t)) (row (part_of t) (production_count t)) a.1

  of_symbol : (s : ℕ) → s < symbol_count t → (synthesized u s ≡ synthesized t s) × (inherited u s ≡ inherited t s)
  unfolding shown
  of_symbol s h = field_two (synthesized u s) (inherited u s) (synthesized t s) (inherited t s) (alike_row t u (λ (s : ℕ). symbol s ∷ []) (symbol_count t) s h rows.0).0

  abbrev kids_of : List ℕ → ℕ → Children
  kids_of v p = record { one = child_in v p 0; two = child_in v p 1; three = child_in v p 2; four = child_in v p 3 }

  of_part : (p : ℕ) → p < production_count t → ShownAlike t u (part_of t p)
  of_part p h = alike_row t u (part_of t) (production_count t) p h rows.1

  of_production : (p : ℕ) → p < production_count t → Produced (left_of u p) (child_count u p) (left_of t p) (child_count t p) (kids_of u p) (kids_of t p)
  unfolding part_of shown
  of_production p h = produced (left_of u p) (child_count u p) (left_of t p) (child_count t p) (kids_of u p) (kids_of t p) (of_part p h).0

  of_kid : (p k : ℕ) → p < production_count t → k < child_count t p → child_of u p k ≡ child_of t p k
  of_kid p zero h l = let r = of_production p h in kid_of 0 (child_count t p) (child_count u p) (child_of u p 0) (child_of t p 0) l r.count (ap (λ (c : Children). c.one) r.kids)
  of_kid p (suc zero) h l = let r = of_production p h in kid_of 1 (child_count t p) (child_count u p) (child_of u p 1) (child_of t p 1) l r.count (ap (λ (c : Children). c.two) r.kids)
  of_kid p (suc (suc zero)) h l = let r = of_production p h in kid_of 2 (child_count t p) (child_count u p) (child_of u p 2) (child_of t p 2) l r.count (ap (λ (c : Children). c.three) r.kids)
  of_kid p (suc (suc (suc zero))) h l = let r = of_production p h in kid_of 3 (child_count t p) (child_count u p) (child_of u p 3) (child_of t p 3) l r.count (ap (λ (c : Children). c.four) r.kids)
  of_kid p (suc (suc (suc (suc k)))) h l = absurd (let n = (sound t j).children p h in omega arith)

  of_place : (p q : ℕ) → p < production_count t → q ≤ child_count t p → symbol_at t p q ≡ symbol_at u p q
  of_place p zero h l = sym (of_production p h).left
  of_place p (suc k) h l = sym (of_kid p k h l)

  of_equation : (p q k : ℕ) → Has t p q k
      → Equated (op_number (head_at u (rule_of p q k))) (op_number (head_at t (rule_of p q k))) (argument (a_field (head_at u (rule_of p q k)))) (argument (b_field (head_at u (rule_of p q k))))
      (argument (a_field (head_at t (rule_of p q k)))) (argument (b_field (head_at t (rule_of p q k)))) (constant_at u (rule_of p q k)) (constant_at t (rule_of p q k))
  unfolding part_of shown
  of_equation p q k h =
      let at : ℕ → List Frame = λ (q : ℕ). row (λ (k : ℕ). equation p q k ∷ []) (defined t p q) in
      let n : q < suc (child_count t p) = omega (arith, h.position) in
      let r = alike_row t u at (suc (child_count t p)) q n (of_part p h.production).1 in
      let e = (alike_row t u (λ (k : ℕ). equation p q k ∷ []) (defined t p q) k h.set r).0 in
      equated _ _ _ _ _ _ _ _ e

  pub same_of : Same t u
  same_of = record {
    symbols = sym tops.0;
    productions = sym tops.1;
    synthesized = λ s h. sym (of_symbol s h).0;
    inherited = λ s h. sym (of_symbol s h).1;
    children = λ p h. sym (of_production p h).count;
    symbol = of_place;
    head = λ p q k h. let e = of_equation p q k h in sym (heads (head_at u (rule_of p q k)) (head_at t (rule_of p q k)) e.op e.first e.second);
    constant = λ p q k h. sym (of_equation p q k h).constant;
  }

-- in the same table the same comes next
module _ (t u : List ℕ) (j : judge_table t ≡ 0) (e : Same t u) where
  sizes : (p q : ℕ) → p < production_count t → q ≤ child_count t p → defined t p q ≡ defined u p q
  sizes = defined_same t u e (sound t j)

  pub valid_same : (x : Expected) → Valid t x → Valid u x
  valid_same AtHeader v = tt
  valid_same (AtSymbol s) v = omega (arith, e.symbols)
  valid_same (AtProduction p) v = omega (arith, e.productions)
  valid_same (AtEquation p q k) v = record {
    production = omega (arith, v.production, e.productions);
    position = omega (arith, v.position, e.children p v.production);
    set = omega (arith, v.set, sizes p q v.production v.position);
  }
  valid_same Ended v = tt

  seek_same : (p : ℕ) → p < production_count t → (n q : ℕ) → q + n ≡ suc (child_count t p) → seek_from n t p q ≡ seek_from n u p q
  unfolding seek_from
  seek_same p h zero q d = rw e.productions
  seek_same p h (suc n) q d = rw (sizes p q h (omega arith), seek_same p h n (q + 1) (omega arith))

  pub next_same : (x : Expected) → Valid t x → next_of t x ≡ next_of u x
  unfolding next_of
  next_same AtHeader v = refl
  next_same (AtSymbol s) v = rw e.symbols
  next_same (AtProduction p) v = seek_same p v (suc (child_count t p)) 0 (omega arith) ∙ ap (λ (n : ℕ). seek_from (suc n) u p 0) (e.children p v)
  next_same (AtEquation p q k) v =
      rw (seek_same p v.production (child_count t p - q) (q + 1) (omega (arith, v.position)), sizes p q v.production v.position, e.children p v.production)
  next_same Ended v = refl
