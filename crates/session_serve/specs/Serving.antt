-- What the program hands from call to call, whatever was printed: the state and the memory that `feed` leaves. Assumes nothing.
use Rattle.std.specs.Prelude.{◌≡◌, List, ℕ, ◌≤◌, ◌<◌, length, take, Result, Ok, Option, IfSome}
use Rattle.refusal.specs.declared.Refusal.{Refusal}
use Rattle.session_memory.specs.declared.State.{State}
use Rattle.session_memory.specs.Suspended.{Suspended, suspended}
use Rattle.update.specs.Memories.{lent}
use Rattle.session_serve.specs.declared.Memory.{Memory}
use Rattle.session_feed.specs.declared.Fed.{Fed}
use Rattle.session_feed.specs.Feeding.{FeedSays}
use Rattle.session_feed.specs.Laws.{Again, Piece}

-- the session that the program's memory holds
abbrev pub session_in : Memory → State → Suspended
session_in m = suspended m.words m.window m.parts m.part_owns (lent m.held m.held_owns m.sets m.earlier)

-- 19.11: it goes on with what `feed` answered, or is over
abbrev pub Goes : Result Fed Refusal → Option Fed → Type 0
Goes fed r = IfSome r (λ f. fed ≡ Ok f)

-- the first n bytes of a buffer: it has as many, and they are n
abbrev pub IsPrefixLen : ℕ → List ℕ → Type 0
IsPrefixLen n xs = (n ≤ length xs) × (n ≡ length (take n xs))

-- 20.7: one call: what it leaves is what `feed` says
pub record Served (d : Suspended) (piece : List ℕ) (from : ℕ) (out : List ℕ) (d' : State → Suspended) (out' : List ℕ) (r : Option Fed) : Type 0 where
  pub fed : Result Fed Refusal
  pub says : FeedSays d piece from out d' out' fed
  pub goes : Goes fed r

-- 20.7: one piece: where the session goes on it is taken whole, from its start on, into the one buffer that is lent again and again
pub record PieceServed (d : Suspended) (out piece : List ℕ) (d' : State → Suspended) (out' : List ℕ) (r : Option State) : Type 0 where
  pub whole : IfSome r (λ s. (n : ℕ) × (text : List ℕ) × Piece Again d out piece 0 n text (d' s) out')

-- 19.11, 20.1: the next piece: the bytes that have come, one at least, at the start of the buffer that they are read into
pub record NextServed (d : Suspended) (out : List ℕ) (d' : State → Suspended) (out' buffer : List ℕ) (r : Option State) : Type 0 where
  pub count : ℕ
  pub some : IfSome r (λ s. 0 < count)
  pub within : count ≤ length buffer
  pub served : PieceServed d out (take count buffer) d' out' r
