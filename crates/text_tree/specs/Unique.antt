-- Of all that a call on a tree's text could answer and leave, no two fit what it says. Assumes nothing.
use Rattle.std.specs.Prelude.{List, ℕ, Result}
use Rattle.refusal.specs.Only.{Only, After}
use Rattle.refusal.specs.declared.Refusal.{Refusal}
use Rattle.text_frame.specs.declared.Misread.{Misread}
use Rattle.text_tree.specs.Calls.{WriteTreeSays, ReadTreeSays}
use Rattle.text_tree.specs.declared.ReadTree.{ReadTree}

-- 23.9: the statement of each call leaves nothing open
pub record TreesOne : Type 0 where
  pub write_tree : (t ns owns buffer : List ℕ) → Only (λ (x : After (Result ℕ Refusal) (List ℕ)). WriteTreeSays t ns owns buffer x.answer x.found)
  pub read_tree : (t s : List ℕ) (place line : ℕ) (ns owns : List ℕ)
      → Only (λ (x : After (Result ReadTree Misread) (After (List ℕ) (List ℕ))). ReadTreeSays t s place line ns owns x.answer x.found.answer x.found.found)
