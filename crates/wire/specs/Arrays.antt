-- What the wiring holds for each slot of the tree: its two arguments, its defining node and its rule. Assumes nothing.
use Rattle.std.specs.Prelude.{cond, List, map, ◌≡◌, ℕ, ◌*◌, length, get_or}
use Rattle.circles.specs.Ranked.{up_from}
use Rattle.circles.specs.Arrays.{over}
use Rattle.wire.specs.Instances.{declared, place_of, rule_at, args_at}
use Rattle.circles.specs.Marks.{not_declared, no_slot}

-- 5.1: the first and the second argument: 65535 where there is none, 65534 where the slot is not declared
unfoldable pub first_at : List ℕ → List ℕ → ℕ → ℕ
first_at t ns x = cond (declared t ns x) (get_or (args_at t ns x) 0 no_slot) not_declared

unfoldable pub second_at : List ℕ → List ℕ → ℕ → ℕ
second_at t ns x = cond (declared t ns x) (get_or (args_at t ns x) 1 no_slot) not_declared

-- 4.7: the defining node and the rule; 0 where the slot is not declared
unfoldable pub left_at : List ℕ → List ℕ → ℕ → ℕ
left_at t ns x = cond (declared t ns x) (place_of t ns x).node 0

unfoldable pub rule_in : List ℕ → List ℕ → ℕ → ℕ
rule_in t ns x = cond (declared t ns x) (rule_at t ns x) 0

-- f of every slot of a tree
abbrev pub by_slot : List ℕ → (ℕ → ℕ) → List ℕ
by_slot ns f = map f (up_from 0 (8 * length ns))

-- what is written: the four arrays have these in front, and behind what they had
pub record Wired (t ns a₀ b₀ left₀ rule₀ a b left rule : List ℕ) : Type 0 where
  pub firsts : a ≡ over (by_slot ns (first_at t ns)) a₀
  pub seconds : b ≡ over (by_slot ns (second_at t ns)) b₀
  pub lefts : left ≡ over (by_slot ns (left_at t ns)) left₀
  pub rules : rule ≡ over (by_slot ns (rule_in t ns)) rule₀
