-- A call with nothing left open: its turns one by one, what each prints and leaves, and where the call stops. That no second way fits: specs/Unique. Assumes nothing.
use Rattle.std.specs.Prelude.{◌≡◌, Bool, true, false, List, ℕ, ◌+◌, ◌-◌, length, take}
use Rattle.std.proofs.lemmas.List.Edits.{sets}
use Rattle.text_frame.specs.Frames.{frame_at, line_after}
use Rattle.session_owed.specs.Hearing.{Heard, hearing, Spacious}
use Rattle.session_rounds.specs.Telling.{Worked, steps_within}
use Rattle.session_owed.specs.declared.Awaited.{Awaited}
use Rattle.session_owed.specs.declared.Awaited.TheVariants.{Table, Command, Naming, Nodes, Working, Stopped}
use Rattle.session_memory.specs.Suspended.{Suspended, suspended, table_of}
use Rattle.session_memory.specs.Gathering.{Gathers}

-- between two turns: the session, how far the piece is taken, the buffer, and how much of it is printed
pub record Moment : Type 0 where
  pub here : Suspended
  pub place : ℕ
  pub out : List ℕ
  pub printed : ℕ

abbrev pub moment : Suspended → ℕ → List ℕ → ℕ → Moment
moment d place out printed = record { here = d; place = place; out = out; printed = printed }

-- 20.7: the words of a suspended session may be more than a table's, and a call runs on the table's alone
abbrev pub moment_of : Suspended → ℕ → List ℕ → ℕ → Moment
moment_of d = moment (suspended (table_of d) d.window d.parts d.part_owns d.memory d.state)

module _ (p : Moment) where
  -- a text behind what is printed already, and the session then
  abbrev pub printing : List ℕ → ℕ → Suspended → Moment
  printing text place d = moment d place (sets p.out p.printed text) (p.printed + length text)

  -- 20.6: an update's rounds, as many as the buffer has room for
  abbrev pub rounds_then : ℕ → Worked
  rounds_then turns = steps_within turns (length p.out - p.printed) p.here.words p.here.state.«record» p.here.memory

  abbrev pub after_rounds : Worked → Moment
  after_rounds w =
      printing w.text p.place
      (suspended p.here.words p.here.window p.here.parts p.here.part_owns w.memory
      (record { awaited = w.awaited; begun = p.here.state.begun; line = p.here.state.line; «record» = w.next }))

  -- 20.6: n bytes of a line stand in the window w, and it is not decided yet
  abbrev pub after_bytes : ℕ → ℕ → List ℕ → Moment
  after_bytes n place w =
      moment
      (suspended p.here.words w p.here.parts p.here.part_owns p.here.memory
      (record { awaited = p.here.state.awaited; begun = n; line = p.here.state.line; «record» = p.here.state.«record» }))
      place p.out p.printed

  -- 20.5: or it is, and is heard
  abbrev pub heard_then : ℕ → List ℕ → Heard
  heard_then n w =
      hearing p.here.state.awaited (frame_at (take n w) 0 p.here.state.line).frame p.here.state.line p.here.words p.here.parts p.here.part_owns
      p.here.memory p.here.state.«record»

  abbrev pub after_line : ℕ → List ℕ → Heard → Moment
  after_line place w h =
      printing h.text place
      (suspended h.words w h.parts h.part_owns h.memory (record { awaited = h.awaited; begun = 0; line = line_after p.here.state.line; «record» = h.next }))

-- 20.2: no line is waited for
abbrev pub silent : Awaited → Bool
silent (Table x) = false
silent Command = false
silent (Naming count taken command) = false
silent (Nodes coming count taken command) = false
silent (Working turns) = true
silent Stopped = true

-- 20.6: a turn, and whether there is more to do behind it
pub data Goes (piece : List ℕ) (p q : Moment) : Bool → Type 0 where
  over : p.here.state.awaited ≡ Stopped → q ≡ p → Goes piece p q false
  works : (turns : ℕ) → p.here.state.awaited ≡ Working turns → q ≡ after_rounds p (rounds_then p turns) → Goes piece p q true
  waits : (n place : ℕ) (w : List ℕ) → silent p.here.state.awaited ≡ false → Gathers piece p.place p.here.window p.here.state.begun n place false w
      → q ≡ after_bytes p n place w → Goes piece p q false
  hears : (n place : ℕ) (w : List ℕ) → silent p.here.state.awaited ≡ false → Gathers piece p.place p.here.window p.here.state.begun n place true w
      → q ≡ after_line p place w (heard_then p n w) → Goes piece p q true

-- 20.6, 20.7: turns in a row, while what a line can print has room and there is more to do; `more` says which of the two is not so
pub data Runs (piece : List ℕ) : Moment → Moment → Bool → Type 0 where
  full : {p q : Moment} → (Spacious p.out p.printed → ⊥) → q ≡ p → Runs piece p q true
  last : {p q : Moment} → Spacious p.out p.printed → Goes piece p q false → Runs piece p q false
  on : {p q r : Moment} {more : Bool} → Spacious p.out p.printed → Goes piece p q true → Runs piece q r more → Runs piece p r more
