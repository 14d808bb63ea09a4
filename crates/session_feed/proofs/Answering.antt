-- A call always has an answer: bytes that decide a line or use the piece up, the turn that follows, and turns in a row until there is nothing left to do or no room. Assumes nothing.
use mathlib.Core.Path.{◌≡◌, refl, sym, ◌∙◌}
use mathlib.Core.Bool.{Bool, true, false}
use mathlib.Core.List.{List, ◌++◌}
use mathlib.Core.Logic.{⊎_elim}
use Prim.Native.Nat.{ℕ, zero, suc, ◌+◌, ◌-◌, ◌≤◌, ◌<◌}
use native.Mathlib.Omega.{arith}
use lib.ListN.{length, take, drop}
use lib.Seq.{sets}
use Rattle.text_line.proofs.Values.{lt_or_ge}
use Rattle.text_frame.specs.Frames.{frame_at, line_after}
use Rattle.session_owed.specs.Hearing.{Heard, hearing, Spacious}
use Rattle.session_owed.specs.declared.Awaited.{Awaited}
use Rattle.session_owed.specs.declared.Awaited.TheVariants.{Table, Command, Naming, Nodes, Working, Stopped}
use Rattle.session_rounds.specs.Telling.{Worked, steps_within}
use Rattle.session_memory.specs.Suspended.{Suspended, suspended}
use Rattle.session_memory.specs.Gathering.{Gathers}
use Rattle.session_memory.specs.Refusals.{settled_order}
use Rattle.session_memory.proofs.Bytes.{always_gathers}
use Rattle.session_memory.proofs.Refusing.{all_state_gives}
use Rattle.session_feed.specs.Running.{silent, moment}
use Rattle.session_feed.specs.Feeding.{Feeds}
use Rattle.session_feed.specs.Inner.Faring.{Ready, Fares, to_do, Turns}
use Rattle.session_feed.specs.Laws.{Answered, AlwaysAnswered}
use Rattle.session_feed.proofs.Faring.{fares_none, fares_on, Since, since_first, since_on, since_last, since_full, fed_all, fed_full, line_waits, line_heard, rounds_told, over, copy_number, ready_of, copied_back}
use Rattle.refusal.specs.Orders.{refusal_by}

-- ---- a turn

record Turned (d : Suspended) (piece : List ℕ) (from : ℕ) (out : List ℕ) (printed : ℕ) : Type 0 where
  then : Suspended
  place : ℕ
  left : List ℕ
  next : ℕ
  more : Bool
  turns : Turns d piece from out printed then place left next more

turned_by : {d then : Suspended} {piece : List ℕ} {from place : ℕ} {out left : List ℕ} {printed next : ℕ} {more : Bool} → Turns d piece from out printed then place left next more
    → Turned d piece from out printed
turned_by {then = then} {place = place} {left = left} {next = next} {more = more} t = record { then = then; place = place; left = left; next = next; more = more; turns = t }

module _ (d : Suspended) (piece : List ℕ) (from : ℕ) (out : List ℕ) (printed : ℕ) (ready : Ready d out) (space : Spacious out printed) where
  -- bytes that wait for more, or make a line that is heard
  gathered : (n place : ℕ) (whole : Bool) (w : List ℕ) → Gathers piece from d.window d.state.begun n place whole w → length w ≡ length d.window → silent d.state.awaited ≡ false
      → Turned d piece from out printed
  gathered n place false w g size on =
      turned_by (line_waits d.words d.window d.parts d.part_owns d.memory d.state piece from out printed ready space w n place false g size refl on)
  gathered n place true w g size on =
      let s = d.state in
      let h : Heard = hearing s.awaited (frame_at (take n w) 0 s.line).frame s.line d.words d.parts d.part_owns d.memory s.«record» in
      turned_by
      (line_heard d.words d.window d.parts d.part_owns d.memory s piece from out printed ready space w n place true g size
      (record { awaited = h.awaited; «record» = h.next; printed = printed + length h.text }) (sets out printed h.text) h.words h.parts h.part_owns h.memory
      (record { awaited = refl; next = refl; place = refl; shown = refl; words_then = refl; parts_then = refl; owns_then = refl; memory = refl }) (line_after s.line) refl refl on)

  listened : silent d.state.awaited ≡ false → Turned d piece from out printed
  listened on =
      let g = always_gathers piece from d.window d.state.begun ready.fits.wide.window_room ready.fits.begun ready.fits.line in
      gathered g.count g.place g.whole g.then g.gathers g.size on

  -- rounds, as many as have room
  worked : (turns : ℕ) → d.state.awaited ≡ Working turns → Turned d piece from out printed
  worked turns e =
      let w : Worked = steps_within turns (length out - printed) d.words d.state.«record» d.memory in
      turned_by
      (rounds_told d.words d.window d.parts d.part_owns d.memory d.state piece from out printed ready space turns e
      (record { awaited = w.awaited; «record» = w.next; printed = printed + length w.text }) w.memory (sets out printed w.text)
      (record { text = w.text; exactly = refl; shown = refl; place = refl }))

  turned : (awaited : Awaited) → d.state.awaited ≡ awaited → Turned d piece from out printed
  turned (Table x) e = listened (rw e)
  turned Command e = listened (rw e)
  turned (Naming count taken line) e = listened (rw e)
  turned (Nodes coming count taken line) e = listened (rw e)
  turned (Working turns) e = worked turns e
  turned Stopped e = turned_by (over d.words d.window d.parts d.part_owns d.memory d.state piece from out printed ready space e)

-- ---- turns in a row, while what is left to do falls

abbrev answered_by : {d then : Suspended} {piece : List ℕ} {from place printed : ℕ} {out left : List ℕ} {more : Bool} → Feeds d piece from out then place printed more left → Answered d piece from out
answered_by {then = then} {place = place} {printed = printed} {left = left} {more = more} f = record { then = then; place = place; printed = printed; more = more; left = left; feeds = f }

-- an answer over the words of a table and no more
record Alone (d : Suspended) (piece : List ℕ) (from : ℕ) (out : List ℕ) : Type 0 where
  answered : Answered d piece from out
  size : length answered.then.words ≡ 2657

module _ (d : Suspended) (piece : List ℕ) (from : ℕ) (out : List ℕ) where
  -- so far
  record Come (e : Suspended) (at : ℕ) (o : List ℕ) (printed : ℕ) : Type 0 where
    fares : Fares d piece from out 0 e at o printed
    since : Since d piece from out (moment e at o printed)

  module _ (e : Suspended) (at : ℕ) (o : List ℕ) (printed : ℕ) (c : Come e at o printed) where
    no_room : length o < printed + 94208 → Alone d piece from out
    no_room h =
        let k : printed + 94208 ≤ length o → ⊥ = λ l. omega arith in
        record { answered = answered_by (fed_full c.fares c.since.size (since_full c.since k) k); size = c.fares.ready.size }

    -- a turn, and those that follow while there is more to do
    turn_then : Spacious o printed → (e' : Suspended) (place : ℕ) (o' : List ℕ) (printed' : ℕ) (more : Bool) → Turns e piece at o printed e' place o' printed' more
        → (to_do e' piece place o' printed' < to_do e piece at o printed → Come e' place o' printed' → Alone d piece from out) → Alone d piece from out
    turn_then space e' place o' printed' true t go = go (t.falls refl) (record { fares = fares_on c.fares t.fares; since = since_on c.since space t refl })
    turn_then space e' place o' printed' false t go =
        let g = fares_on c.fares t.fares in
        record { answered = answered_by (fed_all g c.since.size (since_last c.since space t refl) (t.idle refl) (t.used refl)); size = g.ready.size }

  run_from : (k : ℕ) (e : Suspended) (at : ℕ) (o : List ℕ) (printed : ℕ) → to_do e piece at o printed ≤ k → Come e at o printed → Alone d piece from out
  run_from zero e at o printed l c = no_room e at o printed c (omega arith)
  run_from (suc k) e at o printed l c =
      ⊎_elim (λ (h : length o < printed + 94208). no_room e at o printed c h)
      (λ (h : printed + 94208 ≤ length o).
      let space : Spacious o printed = record { room = h } in
      let t = turned e piece at o printed c.fares.ready space e.state.awaited refl in
      turn_then e at o printed c space t.then t.place t.left t.next t.more t.turns (λ less next. run_from k t.then t.place t.left t.next (omega arith) next))
      (lt_or_ge (length o) (printed + 94208))

  run : Ready d out → Alone d piece from out
  run h = run_from (to_do d piece from out 0) d from out 0 (omega arith) (record { fares = fares_none d piece from out 0 h (omega arith); since = since_first d piece from out h })

-- ---- a call runs on a copy of the table's words

pub always_answered : AlwaysAnswered
always_answered d piece from out fits =
    let w = d.words in
    let wide = fits.wide in
    let judged : refusal_by (settled_order d.state (take 2657 d.words) d.window d.part_owns d.memory) ≡ 0 =
    sym (copy_number w (take 2657 w) d.window d.parts d.part_owns d.memory d.state out refl wide) ∙ (all_state_gives d out).fits.1 fits in
    let ready = ready_of w (take 2657 w) d.window d.parts d.part_owns d.memory d.state out refl wide judged in
    let r = run (suspended (take 2657 w) d.window d.parts d.part_owns d.memory d.state) piece from out ready in
    let a = r.answered in
    let e = a.then in
    answered_by
    (copied_back w (take 2657 w) d.window d.parts d.part_owns d.memory d.state out refl wide judged piece from (e.words ++ drop 2657 w) e.words e.window e.parts
    e.part_owns e.memory e.state a.place a.printed a.more a.left r.size refl a.feeds)
