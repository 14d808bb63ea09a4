-- The ends of subtrees, written into a list. Assumes nothing.
use Rattle.std.specs.Prelude.{ℕ, ◌≤◌, ◌<◌, ◌≡◌, List, length, get_or}
use Rattle.tree.specs.Tree.{span_end}

-- every node's production number is one that a table can have
pub record Numbers (ns : List ℕ) : Type 0 where
  pub number : (n : ℕ) → n < length ns → get_or ns n 0 < 64

-- from node `from` on, `ends` has the ends
abbrev pub Ended : List ℕ → List ℕ → ℕ → List ℕ → Type 0
Ended t ns from ends = (n : ℕ) → from ≤ n → n < length ns → get_or ends n 0 ≡ span_end t ns n

-- `after` has every node's end, and behind the nodes what `before` had
pub record Spans (t ns before after : List ℕ) : Type 0 where
  pub long : length after ≡ length before
  pub nodes : Ended t ns 0 after
  pub others : (n : ℕ) → length ns ≤ n → get_or after n 0 ≡ get_or before n 0
