-- Of all that a call on a piece could answer and leave, no two fit what it says: behind `Only` stands the contract of `feed` as the code has it. Assumes nothing.
use Rattle.std.specs.Prelude.{List, ℕ, Result}
use Rattle.refusal.specs.declared.Refusal.{Refusal}
use Rattle.refusal.specs.Only.{Only, After}
use Rattle.update.specs.Memories.{Memory}
use Rattle.session_memory.specs.declared.State.{State}
use Rattle.session_memory.specs.Suspended.{Suspended, suspended}
use Rattle.session_feed.specs.declared.Fed.{Fed}
use Rattle.session_feed.specs.Feeding.{FeedSays}

-- 20.3: the buffers that are lent besides the one that is printed into: a session but for its state, which is answered
pub record Lent : Type 0 where
  pub words : List ℕ
  pub window : List ℕ
  pub parts : List ℕ
  pub part_owns : List ℕ
  pub memory : Memory

abbrev pub desk_of : Lent → State → Suspended
desk_of b = suspended b.words b.window b.parts b.part_owns b.memory

-- 23.9: nothing is left open of the answer, with the state in it, of any buffer, or of the one that is printed into
abbrev pub FeedsOne : Type 0
FeedsOne = (d : Suspended) (piece : List ℕ) (from : ℕ) (out : List ℕ)
    → Only (λ (x : After (Result Fed Refusal) (After Lent (List ℕ))). FeedSays d piece from out (desk_of x.found.answer) x.found.found x.answer)
