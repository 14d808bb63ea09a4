-- What a judged table gives to those who use it. Assumes nothing.
use Rattle.std.specs.Prelude.{ℕ, suc, ◌%◌, ◌≤◌, ◌<◌, ◌≡◌, true}
use mathlib.Core.List.{List, Memᴰ}
use Rattle.sets.specs.Arguments.{arguments_of}
use Rattle.sets.specs.declared.Argument.{Argument}
use Rattle.table.specs.Words.{symbol_count, production_count, synthesized, inherited, left_of, child_of, child_count, symbol_at, has_set, occurs, rule_of}
use Rattle.table.specs.Equations.{equation_at}
use Rattle.table.specs.Judge.{judge_table}
use Rattle.table.specs.Same.{Has, Same}

-- 2.1 to 2.4: the counts of a table within their limits, its symbols among those it has, and no inherited set at symbol 0
pub record Limits (t : List ℕ) : Type 0 where
  pub symbols : symbol_count t ≤ 32
  pub productions : production_count t ≤ 64
  pub arity : (p : ℕ) → p < production_count t → child_count t p ≤ 4
  pub small : (p q : ℕ) → p < production_count t → q ≤ child_count t p → symbol_at t p q < symbol_count t
  pub start : inherited t 0 ≡ 0
  pub synthesized : (s : ℕ) → s < symbol_count t → synthesized t s ≤ 4
  pub inherited : (s : ℕ) → s < symbol_count t → inherited t s ≤ 4

-- 2.1 to 2.4: every judged table keeps to them
abbrev pub LimitsHold : Type 0
LimitsHold = (t : List ℕ) → judge_table t ≡ 0 → Limits t

-- 2.7: each argument of an equation that a judged table has is an occurrence of its production
abbrev pub ArgumentsDeclared : Type 0
ArgumentsDeclared = (t : List ℕ) → judge_table t ≡ 0 → (p q k : ℕ) → Has t p q k
    → (x : Argument) → Memᴰ x (arguments_of (equation_at t (rule_of p q k)).op) → occurs t p x.position x.index ≡ true

-- 2.5: each synthesized set of a left symbol has its equation, at position 0
abbrev pub HasLeft : Type 0
HasLeft = (t : List ℕ) → judge_table t ≡ 0 → (p i : ℕ) → p < production_count t → i < 4 → has_set t (left_of t p) i ≡ true → Has t p 0 (i % 4)

-- 2.5: and each inherited set of a child has one, at the child's position
abbrev pub HasChild : Type 0
HasChild = (t : List ℕ) → judge_table t ≡ 0 → (p k i : ℕ) → p < production_count t → k < child_count t p → 4 ≤ i → has_set t (child_of t p k) i ≡ true → Has t p (suc k) (i % 4)

-- 2.9: of two lists of words that are the same table one is as sound as the other, with the same equations
pub record SameTable (t u : List ℕ) : Type 0 where
  pub sound : judge_table u ≡ 0
  pub equation : (p q k : ℕ) → Has t p q k → equation_at t (rule_of p q k) ≡ equation_at u (rule_of p q k)

-- 2.9: that is so of any two
abbrev pub SameJudged : Type 0
SameJudged = (t u : List ℕ) → Same t u → judge_table t ≡ 0 → SameTable t u
