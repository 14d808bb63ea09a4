-- Of all that the start of a session and the end of its input could answer and leave, no two fit what they say. Assumes nothing.
use Rattle.std.specs.Prelude.{List, ℕ, Result}
use Rattle.refusal.specs.Only.{Only, After}
use Rattle.refusal.specs.declared.Refusal.{Refusal}
use Rattle.session_memory.specs.declared.State.{State}
use Rattle.session_memory.specs.Suspended.{StartSays}
use Rattle.session_memory.specs.Ending.{FinishSays}

-- 23.9: the statement of each call leaves nothing open
pub record EndsOne : Type 0 where
  pub start : Only (λ (a : State). StartSays a)
  pub finish : (s : State) (out : List ℕ) → Only (λ (x : After (Result ℕ Refusal) (List ℕ)). FinishSays s out x.answer x.found)
