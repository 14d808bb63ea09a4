-- A call's number is the state's. Assumes nothing.
use mathlib.Core.Path.{◌≡◌, subst}
use mathlib.Core.List.{List}
use Prim.Native.Nat.{ℕ}
use Rattle.std.specs.Prelude.{Result}
use Rattle.refusal.specs.declared.Refusal.{Refusal}
use Rattle.session_memory.specs.declared.State.{State}
use Rattle.session_memory.specs.Suspended.{Suspended}
use Rattle.session_memory.specs.Refusals.{state_refusal}
use Rattle.session_memory.specs.Refused.{StateGives}
use Rattle.session_memory.proofs.Refusing.{all_state_gives}
use Rattle.session_feed.specs.declared.Fed.{Fed}
use Rattle.session_feed.specs.Feeding.{FeedSays, takes, refuses}
use Rattle.session_feed.specs.Refused.{fed_number, AllFeedGives}

says_number : {d : Suspended} {piece : List ℕ} {from : ℕ} {out : List ℕ} {d' : State → Suspended} {out' : List ℕ} {fed : Result Fed Refusal} → FeedSays d piece from out d' out' fed → state_refusal d out ≡ fed_number fed
says_number (takes none fits feeds) = none
says_number (refuses number same out) = number

pub all_feed_gives : AllFeedGives
all_feed_gives d piece from out d' out' fed says = subst (λ (n : ℕ). StateGives d out n) (says_number says) (all_state_gives d out)
