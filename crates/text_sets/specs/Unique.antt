-- Of all that a dump could answer and leave, no two fit what it says. Assumes nothing.
use Rattle.std.specs.Prelude.{List, ℕ, Result}
use Rattle.refusal.specs.Only.{Only, After}
use Rattle.update.specs.declared.Record.{Record}
use Rattle.update.specs.Memories.{Memory}
use Rattle.refusal.specs.declared.Refusal.{Refusal}
use Rattle.text_sets.specs.Calls.{DumpSays}

-- 23.9: the statement of the dump leaves nothing open
abbrev pub DumpsOne : Type 0
DumpsOne = (t : List ℕ) (m : Memory) (r : Record) (buffer : List ℕ) → Only (λ (x : After (Result ℕ Refusal) (List ℕ)). DumpSays t m r buffer x.answer x.found)
