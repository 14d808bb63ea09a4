-- From one state of a session to the next: bytes that are gathered, a line that is heard, rounds that are told; and turns in a row. Assumes nothing.
use mathlib.Core.Path.{◌≡◌, refl, ap, sym, ◌∙◌, subst}
use mathlib.Core.Bool.{Bool, true, false, true≢false, cond}
use mathlib.Core.List.{List, [], ◌∷◌, ◌++◌, append-nil, append_assoc}
use Prim.Native.Nat.{ℕ, suc, ◌+◌, ◌-◌, ◌≤◌, ◌<◌}
use native.Mathlib.Omega.{arith}
use native.Mathlib.Nat.{lt_of_not-le}
use types.Run.{OneOf, miss}
use denote.Enum.Declared.{tag_of}
use lib.ListN.{length, take, drop, length-take, length-drop, length-append, take-append-drop, drop_of_length-le}
use lib.Seq.{sets, length-sets, length-take-le, take_all, take_at, drop_at, drop-drop}
use Rattle.text_line.proofs.Out.{sets_append}
use Rattle.update.specs.declared.Record.{Record}
use Rattle.update.specs.Memories.{Memory}
use Rattle.text_frame.specs.Frames.{frame_at, line_after}
use Rattle.text_frame.specs.declared.Frame.{Frame}
use Rattle.session.specs.Session as session
use Rattle.session.specs.Session.{steps_told, text_before}
use Rattle.session_owed.specs.Owed.{owed, onward, Sound}
use Rattle.session_owed.specs.Hearing.{Heard, hearing, Hears, Spacious}
use Rattle.session_rounds.specs.Telling.{Worked, Rests, ended, full, RoundsPaid, RoundsTold}
use Rattle.session_rounds.proofs.Paying.{rounds_pay}
use Rattle.session_owed.specs.Laws.{listens, Pays}
use Rattle.session_owed.specs.declared.Awaited.{Awaited}
use Rattle.session_owed.specs.declared.Awaited.TheVariants.{Table, Command, Naming, Nodes, Working, Stopped}
use Rattle.session_owed.specs.declared.Told.{Told}
use Rattle.session_owed.specs.contracts.Awaited as M
use Rattle.session_owed.proofs.Owing.{line_pays}
use Rattle.session_memory.specs.declared.State.{State}
use Rattle.session_memory.specs.Suspended.{Suspended, suspended, table_of, line_of, owed_for, Wide, Fits}
use Rattle.session_memory.specs.Refusals.{settled_order, state_refusal}
use Rattle.session_feed.specs.Feeding.{Feeds}
use Rattle.session_memory.specs.Gathering.{Gathers}
use Rattle.session_memory.proofs.Refusing.{given_wide, all_state_gives}
use Rattle.session_feed.proofs.Bounds.{Modest, heard_modest}
use Rattle.session_feed.specs.Running as running
use Rattle.session_feed.specs.Running.{Moment, silent, moment, moment_of, after_rounds, Goes, Runs}
use Rattle.session_feed.specs.Inner.Faring.{Ready, Sized, Fares, at_work, to_do, Turns}
use Rattle.refusal.specs.Orders.{refusal_by}

-- ---- turns in a row

pub fares_none : (d : Suspended) (piece : List ℕ) (from : ℕ) (out : List ℕ) (printed : ℕ) → Ready d out → printed ≤ length out → Fares d piece from out printed d from out printed
fares_none d piece from out printed h k = record { text = []; ready = h; paid = λ u. refl; shown = refl; next = omega arith; within = k }

module _ {d e f : Suspended} {piece : List ℕ} {a b c : ℕ} {out out' out'' : List ℕ} {i j k : ℕ} where
  pub fares_on : Fares d piece a out i e b out' j → Fares e piece b out' j f c out'' k → Fares d piece a out i f c out'' k
  fares_on x y = record {
    text = x.text ++ y.text;
    ready = y.ready;
    paid = λ u. x.paid u ∙ ap (λ (l : List ℕ). x.text ++ l) (y.paid u) ∙ sym (append_assoc x.text y.text (owed_for f (drop c piece ++ u)));
    shown = y.shown ∙ (λ n. sets (x.shown n) (x.next n) y.text) ∙ sym (sets_append x.text y.text out i);
    next = omega (arith, x.next, y.next, length-append x.text y.text);
    within = y.within;
  }

-- ---- a call's turns, one by one

-- from the call's start on, whatever turns follow
pub record Since (d : Suspended) (piece : List ℕ) (from : ℕ) (out : List ℕ) (p : Moment) : Type 0 where
  pub size : length d.words ≡ 2657
  pub onto : (q : Moment) (more : Bool) → Runs piece p q more → Runs piece (moment d from out 0) q more

pub since_first : (d : Suspended) (piece : List ℕ) (from : ℕ) (out : List ℕ) → Ready d out → Since d piece from out (moment d from out 0)
since_first d piece from out h = record { size = h.size; onto = λ q more x. x }

module _ {d e e' : Suspended} {piece : List ℕ} {from a b printed printed' : ℕ} {out o o' : List ℕ} {more : Bool}
    (s : Since d piece from out (moment e a o printed)) (space : Spacious o printed) (t : Turns e piece a o printed e' b o' printed' more) where
  pub since_on : more ≡ true → Since d piece from out (moment e' b o' printed')
  since_on w = record { size = s.size; onto = λ q m x. s.onto q m (running.on space (subst (λ (k : Bool). Goes piece (moment e a o printed) (moment e' b o' printed') k) w t.goes) x) }

  pub since_last : more ≡ false → Runs piece (moment d from out 0) (moment e' b o' printed') false
  since_last w = s.onto _ _ (running.last space (subst (λ (k : Bool). Goes piece (moment e a o printed) (moment e' b o' printed') k) w t.goes))

pub since_full : {d e : Suspended} {piece : List ℕ} {from a printed : ℕ} {out o : List ℕ} → Since d piece from out (moment e a o printed) → (printed + 94208 ≤ length o → ⊥)
    → Runs piece (moment d from out 0) (moment e a o printed) true
since_full s h = s.onto _ _ (running.full (λ (k : Spacious _ _). h k.room) refl)

-- words that are a table's and no more
table_alone : (d : Suspended) (place : ℕ) (out : List ℕ) (printed : ℕ) → length d.words ≡ 2657 → moment d place out printed ≡ moment_of d place out printed
table_alone d place out printed e j = moment (suspended (sym (take_all 2657 d.words (omega arith)) j) d.window d.parts d.part_owns d.memory d.state) place out printed

module _ {d d' : Suspended} {piece : List ℕ} {from place printed : ℕ} {out out' : List ℕ} (x : Fares d piece from out 0 d' place out' printed) (size : length d.words ≡ 2657) where
  over_tables : (more : Bool) → Runs piece (moment d from out 0) (moment d' place out' printed) more → Runs piece (moment_of d from out 0) (moment_of d' place out' printed) more
  over_tables more r =
      subst (λ (p : Moment). Runs piece p (moment_of d' place out' printed) more) (table_alone d from out 0 size)
      (subst (λ (q : Moment). Runs piece (moment d from out 0) q more) (table_alone d' place out' printed x.ready.size) r)

  nothing_behind : drop 2657 d'.words ≡ drop 2657 d.words
  nothing_behind =
      let h : length d'.words ≤ 2657 = omega (arith, x.ready.size) in
      let k : length d.words ≤ 2657 = omega arith in
      drop_of_length-le d'.words h ∙ sym (drop_of_length-le d.words k)

  -- the last turn leaves nothing to do
  pub fed_all : Runs piece (moment d from out 0) (moment d' place out' printed) false → listens d'.state.awaited ≡ true → ((d'.state.awaited ≡ Stopped → ⊥) → length piece ≤ place) → Feeds d piece from out d' place printed false out'
  fed_all runs idle used = record {
    text = x.text;
    fits = x.ready.fits;
    paid = x.paid;
    shown = x.shown;
    length_of = omega (arith, x.next);
    within = x.within;
    idle = λ z. idle;
    used = λ z. used;
    full = λ z. absurd (true≢false (sym z));
    runs = over_tables false runs;
    words_rest = nothing_behind;
  }

  -- or what a line can print has no room
  pub fed_full : Runs piece (moment d from out 0) (moment d' place out' printed) true → (printed + 94208 ≤ length out' → ⊥) → Feeds d piece from out d' place printed true out'
  fed_full runs h = record {
    text = x.text;
    fits = x.ready.fits;
    paid = x.paid;
    shown = x.shown;
    length_of = omega (arith, x.next);
    within = x.within;
    idle = λ z. absurd (true≢false z);
    used = λ z. absurd (true≢false z);
    full = λ z. omega (arith, x.ready.fits.wide.print_room, lt_of_not-le h);
    runs = over_tables true runs;
    words_rest = nothing_behind;
  }

-- a call so far: it goes on, or its last turn has left nothing to do
pub record Gone (d : Suspended) (piece : List ℕ) (from : ℕ) (out : List ℕ) (d' : Suspended) (place : ℕ) (out' : List ℕ) (printed : ℕ) (more : Bool) : Type 0 where
  pub fares : Fares d piece from out 0 d' place out' printed
  pub since : more ≡ true → Since d piece from out (moment d' place out' printed)
  pub fed : more ≡ false → Feeds d piece from out d' place printed false out'

abbrev pub left_to_do : Suspended → List ℕ → ℕ → List ℕ → ℕ → Bool → ℕ
left_to_do d piece place out printed more = cond more (suc (to_do d piece place out printed)) 0

pub gone_first : (d : Suspended) (piece : List ℕ) (from : ℕ) (out : List ℕ) → Ready d out → Gone d piece from out d from out 0 true
gone_first d piece from out h = record { fares = fares_none d piece from out 0 h (omega arith); since = λ m. since_first d piece from out h; fed = λ m. absurd (true≢false m) }

module _ {d e e' : Suspended} {piece : List ℕ} {from a b printed printed' : ℕ} {out o o' : List ℕ} {more more' : Bool}
    (g : Gone d piece from out e a o printed more) (m : more ≡ true) where
  pub gone_on : Spacious o printed → Turns e piece a o printed e' b o' printed' more' → Gone d piece from out e' b o' printed' more'
  gone_on space t =
      let f = fares_on g.fares t.fares in
      let s = g.since m in
      record { fares = f; since = since_on s space t; fed = λ h. fed_all f s.size (since_last s space t h) (t.idle h) (t.used h) }

-- where what a line can print has no room
pub gone_full : {d e : Suspended} {piece : List ℕ} {from a printed : ℕ} {out o : List ℕ} {more : Bool} → Gone d piece from out e a o printed more → more ≡ true → (printed + 94208 ≤ length o → ⊥) → Feeds d piece from out e a printed true o
gone_full g m h = let s = g.since m in fed_full g.fares s.size (since_full s h) h

pub fares_out : {d d' : Suspended} {piece : List ℕ} {from place printed : ℕ} {out out' : List ℕ} → Fares d piece from out 0 d' place out' printed → length out' ≡ length out
fares_out {out = out} x = ap length x.shown ∙ length-sets out 0 x.text

-- ---- what is waited for

pub not_working : (awaited : Awaited) → OneOf (0 ∷ 1 ∷ 2 ∷ 3 ∷ 5 ∷ []) (tag_of M.the_type awaited) → listens awaited ≡ true
not_working (Table x) k = refl
not_working Command k = refl
not_working (Naming count taken line) k = refl
not_working (Nodes coming count taken line) k = refl
not_working (Working turns) k = absurd (miss (0 ∷ 1 ∷ 2 ∷ 3 ∷ 5 ∷ []) 4 tt k)
not_working Stopped k = refl

pub not_silent : (awaited : Awaited) → listens awaited ≡ true → (awaited ≡ Stopped → ⊥) → silent awaited ≡ false
not_silent (Table x) k h = refl
not_silent Command k h = refl
not_silent (Naming count taken line) k h = refl
not_silent (Nodes coming count taken line) k h = refl
not_silent (Working turns) k h = absurd (true≢false (sym k))
not_silent Stopped k h = absurd (h refl)

listening : (awaited : Awaited) → silent awaited ≡ false → listens awaited ≡ true
listening (Table x) k = refl
listening Command k = refl
listening (Naming count taken line) k = refl
listening (Nodes coming count taken line) k = refl
listening (Working turns) k = absurd (true≢false k)
listening Stopped k = absurd (true≢false k)

at_work_most : (awaited : Awaited) → at_work awaited ≤ 1
at_work_most (Table x) = omega arith
at_work_most Command = omega arith
at_work_most (Naming count taken line) = omega arith
at_work_most (Nodes coming count taken line) = omega arith
at_work_most (Working turns) = omega arith
at_work_most Stopped = omega arith

-- ---- the memory stays wide

still_wide : (d d' : Suspended) (out out' : List ℕ) → Wide d.words d.window d.parts d.part_owns d.memory out → length d'.words ≡ 2657 → Sized d d' → length out' ≡ length out
    → Wide d'.words d'.window d'.parts d'.part_owns d'.memory out'
still_wide d d' out out' w n k e = record {
  words_room = omega arith;
  window_room = omega (arith, w.window_room, k.window);
  parts_room = omega (arith, w.parts_room, k.parts);
  owns_room = omega (arith, w.owns_room, k.part_owns);
  room = record {
    productions = omega (arith, w.room.productions, k.productions);
    owns = omega (arith, w.room.owns, k.owns);
    sets = omega (arith, w.room.sets, k.sets_size);
    earlier = omega (arith, w.room.earlier, k.earlier);
  };
  print_room = omega (arith, w.print_room, e);
}

-- ---- from a state on: w the window, b the bytes of the begun line
module _ (t w ps os : List ℕ) (m : Memory) (s : State) (piece : List ℕ) (from : ℕ) (out : List ℕ) (printed : ℕ) (ready : Ready (suspended t w ps os m s) out) (space : Spacious out printed) where
  abbrev here : Suspended
  here = suspended t w ps os m s

  table_whole : table_of here ≡ t
  table_whole = take_all 2657 t (omega (arith, ready.size))

  pub sound_here : Sound s.awaited t os m s.«record»
  sound_here = rw (sym table_whole) ready.fits.sound

  -- bytes are gathered
  module _ (w' : List ℕ) (n place : ℕ) (whole : Bool) (g : Gathers piece from w s.begun n place whole w') (size : length w' ≡ length w) where
    gathered : (u : List ℕ) → line_of here ++ (drop from piece ++ u) ≡ take n w' ++ (drop place piece ++ u)
    gathered u =
        let k : from + (place - from) ≡ place = omega (arith, g.forward) in
        let e : drop (place - from) (drop from piece) ≡ drop place piece = drop-drop (place - from) from piece ∙ ap (λ (i : ℕ). drop i piece) k in
        let q : take (place - from) (drop from piece) ++ drop place piece ≡ drop from piece = ap (λ (l : List ℕ). take (place - from) (drop from piece) ++ l) (sym e) ∙ take-append-drop (place - from) (drop from piece) in
        ap (λ (l : List ℕ). line_of here ++ (l ++ u)) (sym q)
        ∙ ap (λ (l : List ℕ). line_of here ++ l) (append_assoc (take (place - from) (drop from piece)) (drop place piece) u)
        ∙ sym (append_assoc (line_of here) (take (place - from) (drop from piece)) (drop place piece ++ u))
        ∙ ap (λ (l : List ℕ). l ++ (drop place piece ++ u)) (sym g.taken)

    -- a line that is decided stands in the window
    pub reaches : whole ≡ true → n ≤ length w'
    reaches e =
        let k : length (take n w') ≡ length (take s.begun w) + length (take (place - from) (drop from piece)) = ap length g.taken ∙ length-append (take s.begun w) (take (place - from) (drop from piece)) in
        omega (arith, length-take n w', length-take s.begun w, length-take (place - from) (drop from piece), length-drop from piece, ready.fits.begun, ready.fits.wide.window_room, g.count, g.moved e)

    -- and the line is not decided yet
    abbrev begun_then : State
    begun_then = record { awaited = s.awaited; begun = n; line = s.line; «record» = s.«record» }

    pub line_waits : whole ≡ false → silent s.awaited ≡ false → Turns here piece from out printed (suspended t w' ps os m begun_then) place out printed false
    line_waits e on = record {
      fares = record {
        text = [];
        ready = record {
          fits = record {
            wide = still_wide here (suspended t w' ps os m begun_then) out out ready.fits.wide ready.size (record { window = size; parts = refl; part_owns = refl; productions = refl; owns = refl; sets_size = refl; earlier = refl }) refl;
            begun = omega (arith, (g.waits e).few, length-take n w', ready.fits.wide.window_room);
            line = g.waits e;
            sound = ready.fits.sound;
          };
          size = ready.size;
        };
        paid = λ u. ap (λ (l : List ℕ). owed s.awaited (table_of here) ps os m s.«record» s.line l) (gathered u);
        shown = refl;
        next = omega arith;
        within = omega (arith, space.room);
      };
      goes = running.waits n place w' on (subst (λ (b : Bool). Gathers piece from w s.begun n place b w') e g) refl;
      falls = λ z. absurd (true≢false (sym z));
      idle = λ z. listening s.awaited on;
      used = λ z h. omega (arith, g.used e);
    }

    -- or it is heard
    abbrev frame_of : Frame
    frame_of = (frame_at (take n w') 0 s.line).frame

    abbrev heard : Heard
    heard = hearing s.awaited frame_of s.line t ps os m s.«record»

    module _ (told : Told) (out' t' ps' os' : List ℕ) (m' : Memory) (h : Hears heard told printed out out' t' ps' os' m') (line' : ℕ) (e : line' ≡ line_after s.line) where
      abbrev after : Suspended
      after = suspended t' w' ps' os' m' (record { awaited = told.awaited; begun = 0; line = line'; «record» = told.«record» })

      module _ (yes : whole ≡ true) (on : silent s.awaited ≡ false) where
        pays : Pays s.awaited t ps os m s.«record» s.line (take n w') heard
        pays = line_pays s.awaited t ps os m s.«record» s.line (take n w') (listening s.awaited on) sound_here ready.fits.wide.room ready.fits.wide.parts_room ready.fits.wide.owns_room (g.decided yes)

        bounds : Modest t ps os m heard
        bounds = heard_modest s.awaited frame_of s.line t ps os m s.«record» sound_here

        size_after : length t' ≡ 2657
        size_after = ap length h.words_then ∙ bounds.words ∙ ready.size

        sized_after : Sized here after
        sized_after = record {
          window = size;
          parts = ap length h.parts_then ∙ bounds.parts;
          part_owns = ap length h.owns_then ∙ bounds.owns;
          productions = ap (λ (x : Memory). length x.productions) h.memory ∙ bounds.memory.productions;
          owns = ap (λ (x : Memory). length x.owns) h.memory ∙ bounds.memory.owns;
          sets_size = ap (λ (x : Memory). length x.sets) h.memory ∙ bounds.memory.sets;
          earlier = ap (λ (x : Memory). length x.earlier) h.memory ∙ bounds.memory.earlier;
        }

        table_after : table_of after ≡ heard.words
        table_after = take_all 2657 t' (omega (arith, size_after)) ∙ h.words_then

        out_after : length out' ≡ length out
        out_after = ap length h.shown ∙ length-sets out printed heard.text

        owed_after : (u : List ℕ) → owed_for after u ≡ owed heard.awaited heard.words heard.parts heard.part_owns heard.memory heard.next (line_after s.line) u
        owed_after u = rw (table_after, h.parts_then, h.owns_then, h.memory, h.next, h.awaited, e)

        then_heard : moment after place out' told.printed ≡ running.after_line (moment here from out printed) place w' heard
        then_heard j = moment (suspended (h.words_then j) w' (h.parts_then j) (h.owns_then j) (h.memory j) (record { awaited = h.awaited j; begun = 0; line = e j; «record» = h.next j })) place (h.shown j) (h.place j)

        pub line_heard : Turns here piece from out printed after place out' told.printed true
        line_heard = record {
          fares = record {
            text = heard.text;
            ready = record {
              fits = record {
                wide = still_wide here after out out' ready.fits.wide size_after sized_after out_after;
                begun = omega arith;
                line = record { few = omega arith; no_end = λ i z. absurd (omega arith) };
                sound = rw (table_after, h.owns_then, h.memory, h.next, h.awaited) pays.sound;
              };
              size = size_after;
            };
            paid = λ u.
                ap (λ (l : List ℕ). owed s.awaited (table_of here) ps os m s.«record» s.line l) (gathered u)
                ∙ ap (λ (l : List ℕ). owed s.awaited l ps os m s.«record» s.line (take n w' ++ (drop place piece ++ u))) table_whole
                ∙ pays.owing (drop place piece ++ u)
                ∙ ap (λ (l : List ℕ). heard.text ++ l) (sym (owed_after (drop place piece ++ u)));
            shown = h.shown;
            next = h.place;
            within = omega (arith, h.place, out_after, bounds.few, space.room);
          };
          goes = running.hears n place w' on (subst (λ (b : Bool). Gathers piece from w s.begun n place b w') yes g) then_heard;
          falls = λ z. omega (arith, g.moved yes, at_work_most told.awaited, out_after, h.place);
          idle = λ z. absurd (true≢false z);
          used = λ z. absurd (true≢false z);
        }

  -- some rounds: what is told then and what is left
  module _ (s' : List ℕ) (text : List ℕ) (free : ℕ) (m' : Memory) (r' : Record) where
    rounds_owed : {awaited : Awaited} {rest : session.Told} → Rests t m' r' free awaited rest → (turns : ℕ) → steps_told turns t s.«record» m ≡ text_before text rest
        → owed (Working turns) t ps os m s.«record» s.line s' ≡ text ++ owed awaited t ps os m' r' s.line s'
    unfolding owed
    rounds_owed (ended e k) turns q = rw (q, e) (ap (λ (l : List ℕ). l ++ onward s' t 0 s.line r' m') (append-nil text))
    rounds_owed (full left e k few) turns q = rw (q, e) (append_assoc text (steps_told (suc left) t r' m').text (onward s' t 0 s.line (steps_told (suc left) t r' m').next (steps_told (suc left) t r' m').memory))

  rounds_sound : {free : ℕ} {m' : Memory} {r' : Record} {awaited : Awaited} {rest : session.Told} → Rests t m' r' free awaited rest → Sound awaited t os m' r'
  rounds_sound (ended e k) = k
  rounds_sound (full left e k few) = k

  -- either the update is done with or the buffer is full
  rounds_less : {free : ℕ} {m' : Memory} {r' : Record} {awaited : Awaited} {rest : session.Told} → Rests t m' r' free awaited rest → (printed' : ℕ) → printed + 94208 ≤ length out → printed ≤ printed' → printed' + free ≡ length out
      → at_work awaited + (length out - printed') < 1 + (length out - printed)
  rounds_less (ended e k) printed' a b c = omega arith
  rounds_less (full left e k few) printed' a b c = omega arith

  module _ (turns : ℕ) (working : s.awaited ≡ Working turns) (told : Told) (m' : Memory) (out' : List ℕ) (h : RoundsTold t m s.«record» turns printed out told m' out') where
    abbrev then : Suspended
    then = suspended t w ps os m' (record { awaited = told.awaited; begun = s.begun; line = s.line; «record» = told.«record» })

    out_then : length out' ≡ length out
    out_then = ap length h.shown ∙ length-sets out printed h.text

    paid : RoundsPaid t m s.«record» turns (length out - printed) (record { text = h.text; awaited = told.awaited; next = told.«record»; memory = m' })
    paid = subst (λ (w : Worked). RoundsPaid t m s.«record» turns (length out - printed) w) h.exactly (rounds_pay t m s.«record» turns (length out - printed) (rw working at sound_here))

    sized_then : Sized here then
    sized_then = record {
      window = refl;
      parts = refl;
      part_owns = refl;
      productions = ap (λ (x : Memory). length x.productions) paid.kept;
      owns = ap (λ (x : Memory). length x.owns) paid.kept;
      sets_size = paid.size;
      earlier = ap (λ (x : Memory). length x.earlier) paid.kept;
    }

    at_work_lem : at_work s.awaited ≡ 1
    at_work_lem = rw working

    then_worked : moment then from out' told.printed ≡ after_rounds (moment here from out printed) (running.rounds_then (moment here from out printed) turns)
    then_worked =
        (λ j. moment then from (h.shown j) (h.place j))
        ∙ ap (after_rounds (moment here from out printed)) (sym h.exactly)

    pub rounds_told : Turns here piece from out printed then from out' told.printed true
    rounds_told = record {
      fares = record {
        text = h.text;
        ready = record {
          fits = record {
            wide = still_wide here then out out' ready.fits.wide ready.size sized_then out_then;
            begun = ready.fits.begun;
            line = ready.fits.line;
            sound = rw table_whole (rounds_sound paid.rests);
          };
          size = ready.size;
        };
        paid = λ u. rw (table_whole, working) (rounds_owed (line_of here ++ (drop from piece ++ u)) h.text (length out - printed - length h.text) m' told.«record» paid.rests turns paid.whole);
        shown = h.shown;
        next = h.place;
        within = omega (arith, h.place, paid.few, space.room, out_then);
      };
      goes = running.works turns working then_worked;
      falls = λ z. omega (arith, at_work_lem, out_then, rounds_less paid.rests told.printed space.room (omega (arith, h.place)) (omega (arith, h.place, paid.few, space.room)));
      idle = λ z. absurd (true≢false z);
      used = λ z. absurd (true≢false z);
    }

  -- nothing is done behind the end
  pub over : s.awaited ≡ Stopped → Turns here piece from out printed here from out printed false
  over e = record {
    fares = fares_none here piece from out printed ready (omega (arith, space.room));
    goes = running.over e refl;
    falls = λ z. absurd (true≢false (sym z));
    idle = λ z. rw e;
    used = λ z h. absurd (h e);
  }

-- ---- a call runs on a copy of the table's words
module _ (words t w ps os : List ℕ) (m : Memory) (s : State) (out : List ℕ) (copy : t ≡ take 2657 words) where
  -- what the copy is refused by is what the call is
  pub copy_number : Wide words w ps os m out → state_refusal (suspended words w ps os m s) out ≡ refusal_by (settled_order s t w os m)
  copy_number wide = given_wide (suspended words w ps os m s) out wide ∙ ap (λ (l : List ℕ). refusal_by (settled_order s l w os m)) (sym copy)

  module _ (wide : Wide words w ps os m out) (judged : refusal_by (settled_order s t w os m) ≡ 0) where
    copy_size : length t ≡ 2657
    copy_size = ap length copy ∙ length-take-le 2657 words wide.words_room

    copy_whole : take 2657 t ≡ t
    copy_whole = take_all 2657 t (omega (arith, copy_size))

    pub none_of : state_refusal (suspended words w ps os m s) out ≡ 0
    none_of = copy_number wide ∙ judged

    pub fits_of : Fits (suspended words w ps os m s) out
    fits_of = (all_state_gives (suspended words w ps os m s) out).fits.0 none_of

    pub ready_of : Ready (suspended t w ps os m s) out
    ready_of = record {
      fits = record {
        wide = record { words_room = omega (arith, copy_size); window_room = wide.window_room; parts_room = wide.parts_room; owns_room = wide.owns_room; room = wide.room; print_room = wide.print_room };
        begun = fits_of.begun;
        line = fits_of.line;
        sound = rw (copy_whole, copy) fits_of.sound;
      };
      size = copy_size;
    }

    module _ (piece : List ℕ) (from : ℕ) (words' t' w' ps' os' : List ℕ) (m' : Memory) (s' : State) (place printed : ℕ) (more : Bool) (out' : List ℕ) (size : length t' ≡ 2657) (back : words' ≡ t' ++ drop 2657 words) where
      back_table : take 2657 words' ≡ take 2657 t'
      back_table = ap (take 2657) back ∙ take_at t' (drop 2657 words) 2657 size ∙ sym (take_all 2657 t' (omega (arith, size)))

      same_table : take 2657 words ≡ take 2657 t
      same_table = sym copy ∙ sym copy_whole

      pub copied_back : Feeds (suspended t w ps os m s) piece from out (suspended t' w' ps' os' m' s') place printed more out'
          → Feeds (suspended words w ps os m s) piece from out (suspended words' w' ps' os' m' s') place printed more out'
      copied_back f = record {
        text = f.text;
        fits = record {
          wide = record { words_room = omega (arith, size, ap length back, length-append t' (drop 2657 words)); window_room = f.fits.wide.window_room; parts_room = f.fits.wide.parts_room; owns_room = f.fits.wide.owns_room; room = f.fits.wide.room; print_room = f.fits.wide.print_room };
          begun = f.fits.begun;
          line = f.fits.line;
          sound = rw back_table f.fits.sound;
        };
        paid = λ u. rw (same_table, back_table) (f.paid u);
        shown = f.shown;
        length_of = f.length_of;
        within = f.within;
        idle = f.idle;
        used = f.used;
        full = f.full;
        runs = rw (same_table, back_table) f.runs;
        words_rest = ap (drop 2657) back ∙ drop_at t' (drop 2657 words) 2657 size;
      }
