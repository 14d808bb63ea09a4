-- However the bytes arrive: for every way of cutting a text into pieces, the pieces' outputs joined are the text's output, and there is always one.
-- Proved in proofs/Beginning, proofs/Cutting and proofs/Answering. Assumes nothing.
use Rattle.std.specs.Prelude.{◌≡◌, Bool, true, false, ◌↔◌, List, [], ◌∷◌, ◌++◌, ℕ, suc, ◌*◌, ◌≤◌, length, drop, replicate}
use Rattle.session.specs.Session.{session, own_memory}
use Rattle.session_owed.specs.declared.Awaited.TheVariants.{Table}
use Rattle.text_frame.specs.declared.Expected.TheVariants.{AtHeader}
use Rattle.session_memory.specs.Suspended.{out_room, Suspended, suspended, first_state, Fits, table_of, line_of, owed_for}
use Rattle.session_memory.specs.Ending.{last_text}
use Rattle.session_feed.specs.Feeding.{Feeds}
use Rattle.table.specs.Words.{table_words}
use Rattle.session_owed.specs.Owed.{owns_kept, parts_kept}
use Rattle.circles.specs.Arrays.{joined}

-- ---- the beginning

-- 20.4: a session that has read nothing
pub record Starts (d : Suspended) (out : List ℕ) : Type 0 where
  pub fits : Fits d out
  pub awaited : d.state.awaited ≡ Table AtHeader
  pub line : d.state.line ≡ 1
  pub empty : line_of d ≡ []
  pub words : table_of d ≡ replicate table_words 0
  pub memory : d.memory ≡ own_memory

-- 20.3, 20.4: what the program begins with: the first state, zeroed memory that is just long enough, and a zeroed buffer to print into
abbrev pub first_suspended : Suspended
first_suspended = suspended (replicate table_words 0) (replicate 29 0) (replicate parts_kept 0) (replicate owns_kept 0) own_memory first_state

unfoldable pub first_out : List ℕ
first_out = replicate out_room 0

-- 20.4: so that there is such a session
abbrev pub ProgramStarts : Type 0
ProgramStarts = Starts first_suspended first_out

-- ---- one call

-- an answer, and what it leaves
pub record Answered (d : Suspended) (piece : List ℕ) (from : ℕ) (out : List ℕ) : Type 0 where
  pub then : Suspended
  pub place : ℕ
  pub printed : ℕ
  pub more : Bool
  pub left : List ℕ
  pub feeds : Feeds d piece from out then place printed more left

-- 23.1: every state that a session comes to has one, for every piece and place, with any buffers that are long enough
abbrev pub AlwaysAnswered : Type 0
AlwaysAnswered = (d : Suspended) (piece : List ℕ) (from : ℕ) (out : List ℕ) → Fits d out → Answered d piece from out

-- ---- calls in a row

-- which buffer is lent to print into, where the last call left o: the program lends the same one again, another caller may lend any
abbrev pub Again : List ℕ → List ℕ → Type 0
Again o o' = o' ≡ o

-- 20.3: one that is long enough can always be lent
abbrev pub Lending : (List ℕ → List ℕ → Type 0) → Type 0
Lending Lends = (o : List ℕ) → out_room ≤ length o → (o' : List ℕ) × Lends o o' × (out_room ≤ length o')

module _ (Lends : List ℕ → List ℕ → Type 0) where
  -- 20.7: calls on one piece, each of which goes on where the last stopped: n of them, and all answer that there is more to do
  pub data Calls (d : Suspended) (out piece : List ℕ) (from : ℕ) : ℕ → List ℕ → Suspended → List ℕ → ℕ → Type 0 where
    none : Calls d out piece from 0 [] d out from
    more : {n : ℕ} {text : List ℕ} {e d' : Suspended} {o lent out' : List ℕ} {at place printed : ℕ} → Calls d out piece from n text e o at → Lends o lent
        → (f : Feeds e piece at lent d' place printed true out') → Calls d out piece from (suc n) (text ++ f.text) d' out' place

  -- 20.7: the whole piece from a place on: n such calls, and one that leaves nothing to do
  pub data Piece (d : Suspended) (out piece : List ℕ) (from : ℕ) : ℕ → List ℕ → Suspended → List ℕ → Type 0 where
    last : {n : ℕ} {text : List ℕ} {e d' : Suspended} {o lent out' : List ℕ} {at place printed : ℕ} → Calls d out piece from n text e o at → Lends o lent
        → (f : Feeds e piece at lent d' place printed false out') → Piece d out piece from n (text ++ f.text) d' out'

  -- 20.1: pieces in a row, and the end of the input
  pub data Pieces : Suspended → List ℕ → List (List ℕ) → List ℕ → Type 0 where
    ends : {d : Suspended} {out : List ℕ} → Pieces d out [] (last_text d.state)
    next : {d d' : Suspended} {out out' piece text rest : List ℕ} {n : ℕ} {pieces : List (List ℕ)} → Piece d out piece 0 n text d' out' → Pieces d' out' pieces rest
        → Pieces d out (piece ∷ pieces) (text ++ rest)

-- 20.7: a call that leaves something to do has printed more than 36,864 bytes of what is owed: so many of them there are at the most
abbrev pub CallsEnd : Type 1
CallsEnd = (Lends : List ℕ → List ℕ → Type 0) (d : Suspended) (out piece : List ℕ) (from n : ℕ) (text : List ℕ) (d' : Suspended) (out' : List ℕ) (place : ℕ)
    → Calls Lends d out piece from n text d' out' place → 36865 * n ≤ length (owed_for d (drop from piece))

-- 20.7: so each piece comes to its end, behind so many calls at the most
pub record Ended (Lends : List ℕ → List ℕ → Type 0) (d : Suspended) (out piece : List ℕ) (from : ℕ) : Type 0 where
  pub again : ℕ
  pub text : List ℕ
  pub then : Suspended
  pub left : List ℕ
  pub taken : Piece Lends d out piece from again text then left
  pub few : 36865 * again ≤ length (owed_for d (drop from piece))

-- 20.7: whatever buffers are lent
abbrev pub PieceEnds : Type 1
PieceEnds = (Lends : List ℕ → List ℕ → Type 0) → Lending Lends → (d : Suspended) (out piece : List ℕ) (from : ℕ) → Fits d out → Ended Lends d out piece from

-- ---- pieces in a row

-- 20.1, 23.17: whatever buffers are lent, every output is the session's
abbrev pub HoweverCut : Type 1
HoweverCut = (Lends : List ℕ → List ℕ → Type 0) (d : Suspended) (out : List ℕ) (pieces : List (List ℕ)) (text : List ℕ) → Starts d out → Pieces Lends d out pieces text
    → text ≡ session (joined pieces)

-- 20.1, 23.17: and where buffers can be lent, the session's output is the output
abbrev pub AlwaysCut : Type 1
AlwaysCut = (Lends : List ℕ → List ℕ → Type 0) → Lending Lends → (d : Suspended) (out : List ℕ) (pieces : List (List ℕ)) → Starts d out
    → Pieces Lends d out pieces (session (joined pieces))

-- 20.1, 23.17: the program, which lends one buffer again and again: for every list of pieces there is an output, the session's and no other
abbrev pub EveryCutting : Type 0
EveryCutting = (pieces : List (List ℕ)) (text : List ℕ) → Pieces Again first_suspended first_out pieces text ↔ (text ≡ session (joined pieces))
