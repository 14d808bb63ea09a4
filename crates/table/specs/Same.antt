-- When two lists of words are one table. Assumes nothing.
use Rattle.std.specs.Prelude.{ℕ, ◌≤◌, ◌<◌, ◌≡◌, List}
use Rattle.table.specs.Words.{symbol_count, production_count, synthesized, inherited, child_count, symbol_at, defined, rule_of, head_at, constant_at}

-- 2.5: the table has the equation k of position q of production p
pub record Has (t : List ℕ) (p q k : ℕ) : Type 0 where
  pub production : p < production_count t
  pub position : q ≤ child_count t p
  pub set : k < defined t p q

-- 2.9: t and u are one table: wherever the counts come to, they say the same
pub record Same (t u : List ℕ) : Type 0 where
  pub symbols : symbol_count t ≡ symbol_count u
  pub productions : production_count t ≡ production_count u
  pub synthesized : (s : ℕ) → s < symbol_count t → synthesized t s ≡ synthesized u s
  pub inherited : (s : ℕ) → s < symbol_count t → inherited t s ≡ inherited u s
  pub children : (p : ℕ) → p < production_count t → child_count t p ≡ child_count u p
  pub symbol : (p q : ℕ) → p < production_count t → q ≤ child_count t p → symbol_at t p q ≡ symbol_at u p q
  pub head : (p q k : ℕ) → Has t p q k → head_at t (rule_of p q k) ≡ head_at u (rule_of p q k)
  pub constant : (p q k : ℕ) → Has t p q k → constant_at t (rule_of p q k) ≡ constant_at u (rule_of p q k)
