-- Calls in a row print what is owed, and end; pieces in a row print what the whole text does. Assumes nothing.
use mathlib.Core.Path.{◌≡◌, refl, ap, sym, ◌∙◌, subst}
use mathlib.Core.Bool.{Bool, true, false}
use mathlib.Core.List.{List, [], ◌∷◌, ◌++◌, append-nil, append_assoc}
use Prim.Native.Nat.{ℕ, zero, suc, ◌+◌, ◌*◌, ◌≤◌, ◌<◌}
use native.Mathlib.Omega.{arith}
use lib.ListN.{length, drop, length-take, length-append, drop_of_length-le}
use Rattle.session.specs.Session.{session}
use Rattle.session_owed.specs.Owed.{owed}
use Rattle.session_owed.specs.Laws.{listens, end_text}
use Rattle.session_owed.specs.declared.Awaited.{Awaited}
use Rattle.session_owed.specs.declared.Awaited.TheVariants.{Table, Command, Naming, Nodes, Working, Stopped}
use Rattle.session_owed.proofs.Ending.{end_pays, all_owed}
use Rattle.session_memory.specs.Suspended.{Suspended, Fits, table_of, line_of, owed_for}
use Rattle.session_memory.specs.Ending.{last_text}
use Rattle.session_feed.specs.Feeding.{Feeds}
use Rattle.session_feed.specs.Laws.{Starts, first_suspended, first_out, Again, Lending, Calls, none, more, Piece, last, Pieces, ends, next, CallsEnd, Ended, PieceEnds, HoweverCut, AlwaysCut, EveryCutting}
use Rattle.session_feed.proofs.Beginning.{program_starts}
use Rattle.session_feed.proofs.Answering.{always_answered}
use Rattle.circles.specs.Arrays.{joined}

-- a session between two pieces
record Rests (d : Suspended) : Type 0 where
  out : List ℕ
  fits : Fits d out
  idle : listens d.state.awaited ≡ true

-- behind the end nothing is owed, whatever text follows
module _ (d : Suspended) where
  owes_none : (s : List ℕ) → d.state.awaited ≡ Stopped → owed_for d s ≡ []
  unfolding owed
  owes_none s e = rw e

  -- where the session is over or the piece is used up, what is left of the piece is owed nothing
  used_up : (piece : List ℕ) (place : ℕ) → ((d.state.awaited ≡ Stopped → ⊥) → length piece ≤ place) → (awaited : Awaited) → d.state.awaited ≡ awaited
      → (u : List ℕ) → owed_for d (drop place piece ++ u) ≡ owed_for d u
  used_up piece place h (Table x) e u = rw (drop_of_length-le piece (h (λ o. let z : ◌≡◌ {A = ℕ} 0 1 = cc in omega arith)))
  used_up piece place h Command e u = rw (drop_of_length-le piece (h (λ o. let z : ◌≡◌ {A = ℕ} 0 1 = cc in omega arith)))
  used_up piece place h (Naming count taken line) e u = rw (drop_of_length-le piece (h (λ o. let z : ◌≡◌ {A = ℕ} 0 1 = cc in omega arith)))
  used_up piece place h (Nodes coming count taken line) e u = rw (drop_of_length-le piece (h (λ o. let z : ◌≡◌ {A = ℕ} 0 1 = cc in omega arith)))
  used_up piece place h (Working turns) e u = rw (drop_of_length-le piece (h (λ o. let z : ◌≡◌ {A = ℕ} 0 1 = cc in omega arith)))
  used_up piece place h Stopped e u = owes_none (drop place piece ++ u) e ∙ sym (owes_none u e)

module _ {Lends : List ℕ → List ℕ → Type 0} where
  -- ---- calls in a row

  module _ {d : Suspended} {out piece : List ℕ} {from : ℕ} where
    calls_pay : {n : ℕ} {text : List ℕ} {d' : Suspended} {out' : List ℕ} {place : ℕ} → Calls Lends d out piece from n text d' out' place
        → (u : List ℕ) → owed_for d (drop from piece ++ u) ≡ text ++ owed_for d' (drop place piece ++ u)
    calls_pay none u = refl
    calls_pay {d' = d'} {place = place} (more {text = text} c l f) u =
        calls_pay c u ∙ ap (λ (s : List ℕ). text ++ s) (f.paid u) ∙ sym (append_assoc text f.text (owed_for d' (drop place piece ++ u)))

    calls_long : {n : ℕ} {text : List ℕ} {d' : Suspended} {out' : List ℕ} {place : ℕ} → Calls Lends d out piece from n text d' out' place → 36865 * n ≤ length text
    calls_long none = omega arith
    calls_long (more {n = n} {text = text} c l f) = omega (arith, calls_long c, f.full refl, f.length_of, length-append text f.text)

    -- ---- one piece

    piece_fits : {n : ℕ} {text : List ℕ} {d' : Suspended} {out' : List ℕ} → Piece Lends d out piece from n text d' out' → Fits d' out'
    piece_fits (last c l f) = f.fits

    piece_rests : {n : ℕ} {text : List ℕ} {d' : Suspended} {out' : List ℕ} → Piece Lends d out piece from n text d' out' → Rests d'
    piece_rests {out' = out'} (last c l f) = record { out = out'; fits = f.fits; idle = f.idle refl }

    piece_pays : {n : ℕ} {text : List ℕ} {d' : Suspended} {out' : List ℕ} → Piece Lends d out piece from n text d' out'
        → (u : List ℕ) → owed_for d (drop from piece ++ u) ≡ text ++ owed_for d' u
    piece_pays {d' = d'} (last {text = text} {place = place} c l f) u =
        calls_pay c u
        ∙ ap (λ (s : List ℕ). text ++ s) (f.paid u ∙ ap (λ (s : List ℕ). f.text ++ s) (used_up d' piece place (f.used refl) d'.state.awaited refl u))
        ∙ sym (append_assoc text f.text (owed_for d' u))

pub calls_end : CallsEnd
calls_end Lends d out piece from n text d' out' place c =
    let e : owed_for d (drop from piece) ≡ text ++ owed_for d' (drop place piece ++ []) = ap (owed_for d) (sym (append-nil (drop from piece))) ∙ calls_pay c [] in
    omega (arith, calls_long c, ap length e, length-append text (owed_for d' (drop place piece ++ [])))

-- ---- a piece comes to its end

fits_lent : {d : Suspended} {out : List ℕ} (o : List ℕ) → Fits d out → 131072 ≤ length o → Fits d o
fits_lent o f h = record {
  wide = record { words_room = f.wide.words_room; window_room = f.wide.window_room; parts_room = f.wide.parts_room; owns_room = f.wide.owns_room; room = f.wide.room; print_room = h };
  begun = f.begun;
  line = f.line;
  sound = f.sound;
}

-- what is owed falls by what a call prints
pub owed_less : {e d' : Suspended} {piece : List ℕ} {at place printed : ℕ} {o o' : List ℕ} → Feeds e piece at o d' place printed true o'
    → 36865 + length (owed_for d' (drop place piece)) ≤ length (owed_for e (drop at piece))
owed_less {e = e} {d' = d'} {piece = piece} {at = at} {place = place} f =
    let p : owed_for e (drop at piece) ≡ f.text ++ owed_for d' (drop place piece) =
    ap (owed_for e) (sym (append-nil (drop at piece))) ∙ f.paid [] ∙ ap (λ (l : List ℕ). f.text ++ owed_for d' l) (append-nil (drop place piece)) in
    omega (arith, ap length p, length-append f.text (owed_for d' (drop place piece)), f.full refl, f.length_of)

module _ (Lends : List ℕ → List ℕ → Type 0) (lending : Lending Lends) (d : Suspended) (out piece : List ℕ) (from : ℕ) where
  -- calls so far, and the next: the last, or one more
  module _ {n : ℕ} {text : List ℕ} {e : Suspended} {o lent : List ℕ} {at : ℕ} (c : Calls Lends d out piece from n text e o at) (l : Lends o lent) where
    call_then : (d' : Suspended) (place printed : ℕ) (more : Bool) (o' : List ℕ) (f : Feeds e piece at lent d' place printed more o')
        → ((t : Feeds e piece at lent d' place printed true o') → Calls Lends d out piece from (suc n) (text ++ t.text) d' o' place → Ended Lends d out piece from) → Ended Lends d out piece from
    call_then d' place printed true o' f go = go f (more c l f)
    call_then d' place printed false o' f go =
        record { again = n; text = text ++ f.text; then = d'; left = o'; taken = last c l f; few = calls_end Lends d out piece from n text e o at c }

  ends_from : (k : ℕ) {n : ℕ} {text : List ℕ} (e : Suspended) (o : List ℕ) (at : ℕ) → length (owed_for e (drop at piece)) < k → Fits e o → Calls Lends d out piece from n text e o at
      → Ended Lends d out piece from
  ends_from zero e o at h f c = absurd (omega arith)
  ends_from (suc k) e o at h f c =
      let l = lending o f.wide.print_room in
      let a = always_answered e piece at l.0 (fits_lent l.0 f l.2) in
      call_then c l.1 a.then a.place a.printed a.more a.left a.feeds
      (λ t next. ends_from k a.then a.left a.place (omega (arith, owed_less t)) t.fits next)

pub piece_ends : PieceEnds
piece_ends Lends lending d out piece from fits = ends_from Lends lending d out piece from (suc (length (owed_for d (drop from piece)))) d out from (omega arith) fits none

-- ---- the end of the input

end_owed : (d : Suspended) → Rests d → owed_for d [] ≡ last_text d.state
end_owed d r =
    let n : length (line_of d) ≡ d.state.begun = length-take d.state.begun d.window ∙ omega (arith, r.fits.begun, r.fits.wide.window_room) in
    rw (append-nil (line_of d))
    (end_pays d.state.awaited (table_of d) d.parts d.part_owns d.memory d.state.«record» d.state.line (line_of d) r.idle r.fits.sound r.fits.line
    ∙ ap (λ (k : ℕ). end_text d.state.awaited k d.state.line) n)

-- ---- pieces in a row

pieces_pay : {Lends : List ℕ → List ℕ → Type 0} {d : Suspended} {out : List ℕ} {pieces : List (List ℕ)} {text : List ℕ} → Rests d → Pieces Lends d out pieces text
    → owed_for d (joined pieces) ≡ text
unfolding joined
pieces_pay {d = d} r ends = end_owed d r
pieces_pay r (next {text = text} {pieces = pieces} p q) = piece_pays p (joined pieces) ∙ ap (λ (l : List ℕ). text ++ l) (pieces_pay (piece_rests p) q)

starts_rests : {d : Suspended} {out : List ℕ} → Starts d out → Rests d
starts_rests {out = out} s = record { out = out; fits = s.fits; idle = rw s.awaited }

pub however_cut : HoweverCut
however_cut Lends d out pieces text s p =
    let first : owed_for d (joined pieces) ≡ session (joined pieces) = rw (s.awaited, s.line, s.empty, s.words, s.memory) (all_owed d.parts d.part_owns d.state.«record» (joined pieces)) in
    sym (pieces_pay (starts_rests s) p) ∙ first

-- ---- and there is an output

module _ (Lends : List ℕ → List ℕ → Type 0) (lending : Lending Lends) where
  some_output : (pieces : List (List ℕ)) (d : Suspended) (out : List ℕ) → Fits d out → (text : List ℕ) × Pieces Lends d out pieces text
  some_output [] d out fits = (last_text d.state, ends)
  some_output (piece ∷ pieces) d out fits =
      let p = piece_ends Lends lending d out piece 0 fits in
      let q = some_output pieces p.then p.left (piece_fits p.taken) in
      (p.text ++ q.0, next p.taken q.1)

pub always_cut : AlwaysCut
always_cut Lends lending d out pieces s =
    let p = some_output Lends lending pieces d out s.fits in
    subst (λ (l : List ℕ). Pieces Lends d out pieces l) (however_cut Lends d out pieces p.0 s p.1) p.1

lends_again : Lending Again
lends_again o h = (o, refl, h)

pub every_cutting : EveryCutting
every_cutting pieces text = (
  λ p. however_cut Again first_suspended first_out pieces text program_starts p,
  λ (e : text ≡ session (joined pieces)). subst (λ (l : List ℕ). Pieces Again first_suspended first_out pieces l) (sym e) (always_cut Again lends_again first_suspended first_out pieces program_starts),
)
