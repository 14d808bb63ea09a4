-- The turns of a call: a line of the piece or some rounds, from one state of the session to the next. Assumes nothing.
use Rattle.std.specs.Prelude.{◌≡◌, Bool, true, false, List, ◌++◌, ℕ, ◌+◌, ◌*◌, ◌-◌, ◌≤◌, ◌<◌, length, drop}
use Rattle.std.proofs.lemmas.List.Edits.{sets}
use Rattle.session_owed.specs.Laws.{listens}
use Rattle.session_owed.specs.declared.Awaited.{Awaited}
use Rattle.session_owed.specs.declared.Awaited.TheVariants.{Table, Command, Naming, Nodes, Working, Stopped}
use Rattle.session_memory.specs.Suspended.{Suspended, Fits, owed_for}
use Rattle.session_feed.specs.Running.{moment, Goes}
use Rattle.table.specs.Words.{table_words}

-- a session whose words are a table's and no more
pub record Ready (d : Suspended) (out : List ℕ) : Type 0 where
  pub fits : Fits d out
  pub size : length d.words ≡ table_words

-- no buffer has become longer or shorter
pub record Sized (d d' : Suspended) : Type 0 where
  pub window : length d'.window ≡ length d.window
  pub parts : length d'.parts ≡ length d.parts
  pub part_owns : length d'.part_owns ≡ length d.part_owns
  pub productions : length d'.memory.productions ≡ length d.memory.productions
  pub owns : length d'.memory.owns ≡ length d.memory.owns
  pub sets_size : length d'.memory.sets ≡ length d.memory.sets
  pub earlier : length d'.memory.earlier ≡ length d.memory.earlier

-- 20.1: what was owed is what is printed and what is owed then: the text stands in the buffer from `printed` on
pub record Fares (d : Suspended) (piece : List ℕ) (from : ℕ) (out : List ℕ) (printed : ℕ) (d' : Suspended) (place : ℕ) (out' : List ℕ) (printed' : ℕ) : Type 0 where
  pub text : List ℕ
  pub ready : Ready d' out'
  pub paid : (u : List ℕ) → owed_for d (drop from piece ++ u) ≡ text ++ owed_for d' (drop place piece ++ u)
  pub shown : out' ≡ sets out printed text
  pub next : printed' ≡ printed + length text
  pub within : printed' ≤ length out'

-- what is left to do falls with each turn: bytes of the piece, rounds, room
abbrev pub at_work : Awaited → ℕ
at_work (Table x) = 0
at_work Command = 0
at_work (Naming count taken command) = 0
at_work (Nodes coming count taken command) = 0
at_work (Working turns) = 1
at_work Stopped = 0

abbrev pub to_do : Suspended → List ℕ → ℕ → List ℕ → ℕ → ℕ
to_do d piece place out printed = 2 * (length piece - place) + at_work d.state.awaited + (length out - printed)

pub record Turns (d : Suspended) (piece : List ℕ) (from : ℕ) (out : List ℕ) (printed : ℕ) (d' : Suspended) (place : ℕ) (out' : List ℕ) (printed' : ℕ) (more : Bool) : Type 0 where
  pub fares : Fares d piece from out printed d' place out' printed'
  pub goes : Goes piece (moment d from out printed) (moment d' place out' printed') more
  pub falls : more ≡ true → to_do d' piece place out' printed' < to_do d piece from out printed
  pub idle : more ≡ false → listens d'.state.awaited ≡ true
  pub used : more ≡ false → (d'.state.awaited ≡ Stopped → ⊥) → length piece ≤ place
