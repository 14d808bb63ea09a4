-- A piece of a session's text: what is taken of it, and what is printed. Assumes nothing.
use Rattle.std.specs.Prelude.{◌≡◌, Bool, true, false, List, ◌++◌, ℕ, ◌≤◌, ◌<◌, length, drop, Result, Ok, Err}
use Rattle.std.proofs.lemmas.List.Edits.{sets}
use Rattle.refusal.specs.declared.Refusal.{Refusal}
use Rattle.refusal.specs.Numbers.{number_of}
use Rattle.session_owed.specs.Laws.{listens}
use Rattle.session_owed.specs.declared.Awaited.TheVariants.{Stopped}
use Rattle.session_memory.specs.declared.State.{State}
use Rattle.session_memory.specs.Suspended.{Suspended, Fits, owed_for}
use Rattle.session_memory.specs.Refusals.{state_refusal}
use Rattle.session_feed.specs.Running.{moment_of, Runs}
use Rattle.session_feed.specs.declared.Fed.{Fed}
use Rattle.table.specs.Words.{table_words}

-- ---- a call: from place `from` of the piece on

-- 20.6, 20.7: what it takes, prints and leaves
pub record Feeds (d : Suspended) (piece : List ℕ) (from : ℕ) (out : List ℕ) (d' : Suspended) (place printed : ℕ) (more : Bool) (out' : List ℕ) : Type 0 where
  pub text : List ℕ
  pub fits : Fits d' out'
  -- 20.1: what was owed is what is printed and what is owed then, whatever text follows the piece
  pub paid : (u : List ℕ) → owed_for d (drop from piece ++ u) ≡ text ++ owed_for d' (drop place piece ++ u)
  -- the text stands at the start of the buffer
  pub shown : out' ≡ sets out 0 text
  pub length_of : printed ≡ length text
  pub within : printed ≤ length out'
  -- nothing is left to do: the piece is used up, or the session is over
  pub idle : more ≡ false → listens d'.state.awaited ≡ true
  pub used : more ≡ false → (d'.state.awaited ≡ Stopped → ⊥) → length piece ≤ place
  -- or much was printed, and the buffer has to be emptied first
  pub full : more ≡ true → 36864 < printed
  -- nothing of it is left open: these are the turns of the call, and no word behind the table's is changed
  pub runs : Runs piece (moment_of d from out 0) (moment_of d' place out' printed) more
  pub words_rest : drop table_words d'.words ≡ drop table_words d.words

-- 20.7: an answer
abbrev pub fed_to : State → ℕ → ℕ → Bool → Fed
fed_to s place printed more = record { state = s; place = place; printed = printed; more = more }

-- 20.6, 20.7, 20.9: the answer for any state and any memory: where it is no session's, that is refused by its number, and nothing is changed
pub data FeedSays (d : Suspended) (piece : List ℕ) (from : ℕ) (out : List ℕ) (d' : State → Suspended) (out' : List ℕ) : Result Fed Refusal → Type 0 where
  takes : {s : State} {place printed : ℕ} {more : Bool} → state_refusal d out ≡ 0 → Fits d out → Feeds d piece from out (d' s) place printed more out' → FeedSays d piece from out d' out' (Ok (fed_to s place printed more))
  refuses : {q : Refusal} → state_refusal d out ≡ number_of q → d' d.state ≡ d → out' ≡ out → FeedSays d piece from out d' out' (Err q)
