-- Refused by the number of the state and its memory; else the turns run on a copy of the table, which is copied back. Assumes nothing.
use Rattle.session_feed.proofs.Faring.{copy_number, none_of, fits_of, ready_of, copied_back}
use Rattle.refusal.proofs.Distinct.{handed}
use Rattle.session_memory.proofs.Deciding.{tested_not}
use Rattle.session_memory.proofs.Refusing.{given_short}
use Rattle.std.proofs.Common.{◌≡◌, ℕ, Bool, List, ◌++◌, drop, rules}
use Rattle.session_memory.specs.declared.State.{State}
use Rattle.session_feed.specs.Feeding.{Feeds}
use Rattle.session_memory.specs.Suspended.{Suspended, suspended, Wide}
use Rattle.update.specs.Memories.{lent}
use Rattle.session_feed.specs.Feeding.{takes, refuses}
use mathlib.Core.Bool.{not}
use mathlib.Core.Path.{refl, ap, sym, ◌∙◌}
use Rattle.session_feed.proofs.feeding.feed.Goals as goal
use Rattle.session_feed.proofs.feeding.feed.Goals.{Else-is_narrow}

-- where the buffers have passed
wide : (e : Else-is_narrow) → let a = e.args in Wide a.words.now a.window.now a.parts.now a.part_owns.now (lent a.held.now a.held_owns.now a.sets.now a.earlier.now) a.out.now
wide e = e.is_narrow.ensures.yes (ap not e.if-is_narrow.false)

-- the buffers are what the call has left in them
module _ {d : Suspended} {piece : List ℕ} {from : ℕ} {out words : List ℕ} {w w' ps ps' os os' h h' ho ho' s s' e e' : List ℕ} {state : State} {place printed : ℕ} {more : Bool} {out' : List ℕ} where
  landed : w' ≡ w → ps' ≡ ps → os' ≡ os → h' ≡ h → ho' ≡ ho → s' ≡ s → e' ≡ e → Feeds d piece from out (suspended words w ps os (lent h ho s e) state) place printed more out'
      → Feeds d piece from out (suspended words w' ps' os' (lent h' ho' s' e') state) place printed more out'
  landed a b c f g i j x = rw (a, b, c, f, g, i, j) x

pub returns-then-is_narrow : goal.returns-then-is_narrow
returns-then-is_narrow c =
    let a = c.args in
    refuses (given_short (suspended a.words.now a.window.now a.parts.now a.part_owns.now (lent a.held.now a.held_owns.now a.sets.now a.earlier.now) a.state) a.out.now (tested_not c.is_narrow.ensures (ap not c.if-is_narrow.true))) refl refl

pub feed_sound-fed-requires : goal.feed_sound-fed-requires
feed_sound-fed-requires c =
    let a = c.args in
    ready_of a.words.now _ a.window.now a.parts.now a.part_owns.now (lent a.held.now a.held_owns.now a.sets.now a.earlier.now) a.state a.out.now c.copy_in.ensures (wide (goal.at.feed_sound-fed-requires c).Else-is_narrow) (sym c.in_ok-judge_state.ensures)

pub returns : goal.returns
returns c =
    let a = c.args in
    let copy = c.copy_in.ensures in
    let settled = sym c.in_ok-judge_state.ensures in
    let fed = c.feed_sound-fed.ensures in
    let w = wide (goal.at.returns c).Else-is_narrow in
    takes (none_of a.words.now _ a.window.now a.parts.now a.part_owns.now (lent a.held.now a.held_owns.now a.sets.now a.earlier.now) a.state a.out.now copy w settled) (fits_of a.words.now _ a.window.now a.parts.now a.part_owns.now (lent a.held.now a.held_owns.now a.sets.now a.earlier.now) a.state a.out.now copy w settled) (landed (search rules) (search rules) (search rules) (search rules) (search rules) (search rules) (search rules) (copied_back a.words.now _ a.window.now a.parts.now a.part_owns.now (lent a.held.now a.held_owns.now a.sets.now a.earlier.now) a.state a.out.now copy w settled a.piece.now a.from _ _ _ _ _ _ _ _ _ _ _ fed.feeds.1 (c.copy_out.ensures ∙ ap (λ (t : List ℕ). t ++ drop 2657 a.words.now) (search rules)) fed.feeds.0))

pub returns-in_err-judge_state : goal.returns-in_err-judge_state
returns-in_err-judge_state c =
    let a = c.args in
    let w = wide (goal.at.returns-in_err-judge_state c).Else-is_narrow in
    rw (handed _ _ c.from_residual.ensures.1)
    (refuses (copy_number a.words.now _ a.window.now a.parts.now a.part_owns.now (lent a.held.now a.held_owns.now a.sets.now a.earlier.now) a.state a.out.now c.copy_in.ensures w ∙ sym c.in_err-judge_state.ensures) refl refl)
