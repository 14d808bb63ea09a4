-- What a sound table is, in numbers: none of the conditions of 1 to 5 holds anywhere. Assumes nothing.
use Rattle.std.specs.Prelude.{ℕ, ◌/◌, ◌%◌, ◌≤◌, ◌<◌, ◌≡◌, true, false, ◌↔◌, List}
use Rattle.table.specs.Words.{symbol_count, production_count, synthesized, inherited, child_count, symbol_at, occurs, rule_of, head_at, constant_at}
use Rattle.table.specs.Equations.{op_number, a_field, b_field, uses_a, uses_b, uses_c}
use Rattle.table.specs.Judge.{judge_table}
use Rattle.table.specs.Same.{Has}

-- 3.4, 3.6: a known operation, nothing in the fields that it leaves unused, and for operation 7 a c of at most 56
pub record Formed (h constant : ℕ) : Type 0 where
  pub known : op_number h ≤ 9
  pub a : uses_a (op_number h) ≡ false → a_field h ≡ 0
  pub b : uses_b (op_number h) ≡ false → b_field h ≡ 0
  pub c : uses_c (op_number h) ≡ false → constant ≡ 0
  pub few : op_number h ≡ 7 → constant ≤ 56

-- 2.7: every argument that is used is declared
pub record Named (t : List ℕ) (p h : ℕ) : Type 0 where
  pub a : uses_a (op_number h) ≡ true → occurs t p (a_field h / 256) (a_field h % 256) ≡ true
  pub b : uses_b (op_number h) ≡ true → occurs t p (b_field h / 256) (b_field h % 256) ≡ true

-- 14.1 to 14.5: none of the conditions holds, as numbers
pub record Sound (t : List ℕ) : Type 0 where
  -- 14.1: every count within its limits
  pub symbols : (1 ≤ symbol_count t) × (symbol_count t ≤ 32)
  pub productions : (1 ≤ production_count t) × (production_count t ≤ 64)
  pub sets : (s : ℕ) → s < symbol_count t → (synthesized t s ≤ 4) × (inherited t s ≤ 4)
  pub children : (p : ℕ) → p < production_count t → child_count t p ≤ 4
  -- 14.2: every symbol exists
  pub below : (p q : ℕ) → p < production_count t → q ≤ child_count t p → symbol_at t p q < symbol_count t
  -- 14.3: symbol 0 inherits nothing
  pub start : inherited t 0 ≡ 0
  -- 14.4: every equation is well formed
  pub formed : (p q k : ℕ) → Has t p q k → Formed (head_at t (rule_of p q k)) (constant_at t (rule_of p q k))
  -- 14.5: every argument is declared
  pub named : (p q k : ℕ) → Has t p q k → Named t p (head_at t (rule_of p q k))

-- 15.2: a table is judged sound exactly when it is
abbrev pub SoundExactly : Type 0
SoundExactly = (t : List ℕ) → (judge_table t ≡ 0) ↔ Sound t
