-- Of all that a call on a table's text could answer and leave, no two fit what it says. Assumes nothing.
use Rattle.std.specs.Prelude.{List, ℕ, Result}
use Rattle.refusal.specs.Only.{Only, After}
use Rattle.refusal.specs.declared.Refusal.{Refusal}
use Rattle.text_frame.specs.declared.Misread.{Misread}
use Rattle.text_table.specs.Calls.{WriteTableSays, ReadTableSays}
use Rattle.text_table.specs.declared.ReadTable.{ReadTable}

-- 23.9: the statement of each call leaves nothing open
pub record TextsOne : Type 0 where
  pub write_table : (t buffer : List ℕ) → Only (λ (x : After (Result ℕ Refusal) (List ℕ)). WriteTableSays t buffer x.answer x.found)
  pub read_table : (s : List ℕ) (place line : ℕ) (words : List ℕ) → Only (λ (x : After (Result ReadTable Misread) (List ℕ)). ReadTableSays s place line words x.answer x.found)
