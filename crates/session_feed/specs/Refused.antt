-- When a call refuses the memory that it is lent, number by number. Assumes nothing.
use Rattle.std.specs.Prelude.{List, ℕ, Result}
use Rattle.refusal.specs.declared.Refusal.{Refusal}
use Rattle.refusal.specs.Numbers.{verdict_of}
use Rattle.session_memory.specs.declared.State.{State}
use Rattle.session_memory.specs.Suspended.{Suspended}
use Rattle.session_memory.specs.Refused.{StateGives}
use Rattle.session_feed.specs.declared.Fed.{Fed}
use Rattle.session_feed.specs.Feeding.{FeedSays}

-- 23.10: an answer as a number: 0 where nothing is refused
abbrev pub fed_number : Result Fed Refusal → ℕ
fed_number = verdict_of

-- 20.9, 23.1: a call gives each number exactly when its condition holds and none before it, and takes the text exactly where none does
abbrev pub AllFeedGives : Type 0
AllFeedGives = (d : Suspended) (piece : List ℕ) (from : ℕ) (out : List ℕ) (d' : State → Suspended) (out' : List ℕ) (fed : Result Fed Refusal) → FeedSays d piece from out d' out' fed → StateGives d out (fed_number fed)
