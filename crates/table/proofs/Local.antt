-- A frame's number depends on the words of that frame and of those before it: what a reader writes behind them does not matter. Assumes nothing.
use Prim.Native.Nat.{ℕ, zero, suc, ◌+◌, ◌/◌, ◌%◌, ◌<◌}
use mathlib.Core.Path.{◌≡◌, refl, ap, ◌∙◌}
use mathlib.Core.Bool.{Bool, true, false, ◌&&◌}
use mathlib.Core.List.{List}
use native.Mathlib.Omega.{arith}
use borrow.Author.Tests.{leb-true}
use lib.Dec.{leb}
use lib.ListN.{get_or}
use Rattle.table.specs.First.{some_below}
use Rattle.table.specs.Words.{symbol_count, production_count, synthesized, inherited, left_of, child_of, child_count, symbol_at, has_set, occurs, rule_of, head_at, constant_at}
use Rattle.table.specs.Equations.{op_number, a_field, b_field, uses_a, uses_b}
use Rattle.table.specs.Judge.{header, symbol, production, equation, foreign_at, misnamed, refusal_at}
use Rattle.table.specs.Shape.{Shaped}
use Rattle.table.specs.Inner.Local.{Local}

some_same : (f g : ℕ → Bool) (n : ℕ) → ((i : ℕ) → i < n → f i ≡ g i) → some_below f n ≡ some_below g n
unfolding some_below
some_same f g zero h = refl
some_same f g (suc n) h =
    let a = some_same f g n (λ i l. h i (omega arith)) in
    let b = h n (omega arith) in rw (a, b)

module _ (t u : List ℕ) where
  count_word : get_or t 0 0 ≡ get_or u 0 0 → symbol_count t ≡ symbol_count u
  unfolding symbol_count
  count_word e = rw e

  child_word : (p : ℕ) → get_or t (33 + p) 0 ≡ get_or u (33 + p) 0 → child_count t p ≡ child_count u p
  unfolding child_count
  child_word p e = rw e

  symbol_word : (p : ℕ) → get_or t (33 + p) 0 ≡ get_or u (33 + p) 0 → (q : ℕ) → symbol_at t p q ≡ symbol_at u p q
  unfolding left_of child_of
  symbol_word p e zero = rw e
  symbol_word p e (suc k) = rw e

  pub header_local : get_or t 0 0 ≡ get_or u 0 0 → refusal_at t header ≡ refusal_at u header
  unfolding refusal_at symbol_count production_count
  header_local e = rw e

  pub symbol_local : (s : ℕ) → get_or t (1 + s) 0 ≡ get_or u (1 + s) 0 → refusal_at t (symbol s) ≡ refusal_at u (symbol s)
  unfolding refusal_at synthesized inherited
  symbol_local s e = rw e

  pub production_local : (p : ℕ) → get_or t 0 0 ≡ get_or u 0 0 → get_or t (33 + p) 0 ≡ get_or u (33 + p) 0 → refusal_at t (production p) ≡ refusal_at u (production p)
  unfolding refusal_at
  production_local p e w =
      let c = child_word p w in
      let s = some_same (foreign_at t p) (foreign_at u p) (suc (child_count t p)) (λ q l. let a = count_word e in let b = symbol_word p w q in rw (a, b)) in
      rw (s, c)

  module _ (p : ℕ) (h : Shaped t p) (w : get_or t (33 + p) 0 ≡ get_or u (33 + p) 0) (y : (s : ℕ) → s < 32 → get_or t (1 + s) 0 ≡ get_or u (1 + s) 0) where
    set_local : (s i : ℕ) → s < 32 → has_set t s i ≡ has_set u s i
    unfolding has_set synthesized inherited
    set_local s i l = let e = y s l in rw e

    occurs_by : (q i : ℕ) (b : Bool) → leb q (child_count t p) ≡ b → (b && has_set t (symbol_at t p q) i) ≡ (b && has_set u (symbol_at u p q) i)
    occurs_by q i true e = set_local (symbol_at t p q) i (h.small q (leb-true q (child_count t p) e)) ∙ ap (λ (s : ℕ). has_set u s i) (symbol_word p w q)
    occurs_by q i false e = refl

    pub occurs_local : (q i : ℕ) → occurs t p q i ≡ occurs u p q i
    unfolding occurs
    occurs_local q i = let c = child_word p w in occurs_by q i (leb q (child_count t p)) refl ∙ rw c

    misnamed_local : (used : Bool) (x : ℕ) → misnamed t p used x ≡ misnamed u p used x
    unfolding misnamed
    misnamed_local used x = let e = occurs_local (x / 256) (x % 256) in rw e

    pub equation_local : (q k : ℕ) → head_at t (rule_of p q k) ≡ head_at u (rule_of p q k) → constant_at t (rule_of p q k) ≡ constant_at u (rule_of p q k)
        → refusal_at t (equation p q k) ≡ refusal_at u (equation p q k)
    unfolding refusal_at
    equation_local q k a b =
        let m = misnamed_local (uses_a (op_number (head_at u (rule_of p q k)))) (a_field (head_at u (rule_of p q k))) in
        let n = misnamed_local (uses_b (op_number (head_at u (rule_of p q k)))) (b_field (head_at u (rule_of p q k))) in
        rw (a, b, m, n)

pub local : Local
local = record { header = header_local; symbol = symbol_local; production = production_local; equation = equation_local }
