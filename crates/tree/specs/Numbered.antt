-- What the inner functions are told of a tree. Assumes nothing.
use Rattle.std.specs.Prelude.{ℕ, ◌<◌, List, length, get_or}
use Rattle.table.specs.Words.{production_count}

-- 14.6: no node has a production number that is too high
pub record Numbered (t ns : List ℕ) : Type 0 where
  pub below : (i : ℕ) → i < length ns → get_or ns i 0 < production_count t
