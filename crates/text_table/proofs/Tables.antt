-- A text that is read as a table is the table's text. Assumes nothing.
use mathlib.Core.Path.{◌≡◌, refl, ap, sym, ◌∙◌}
use mathlib.Core.List.{List, ◌++◌}
use mathlib.Core.Bool.{Bool, true, false, cond}
use Rattle.std.proofs.Common.{Result, Ok, Err}
use Prim.Native.Nat.{ℕ, zero, suc, ◌+◌}
use native.Mathlib.Omega.{arith}
use lib.Dec.{eqb}
use lib.ListN.{length, get_or, take, drop, replicate, length-append, length-replicate}
use Rattle.refusal.specs.declared.Refusal.{Refusal}
use Rattle.refusal.specs.declared.Refusal.TheVariants as why
use Rattle.table.specs.Judge.{refusal_at, judge_table}
use Rattle.text_frame.specs.Frames.{frame_at}
use Rattle.text_frame.specs.Text.{text_of, type_of}
use Rattle.text_table.specs.Text.{texts}
use Rattle.text_frame.specs.Walk.{entry_of, next_of, is_on, Ready}
use Rattle.text_table.specs.Inner.Putting.{text_at}
use Rattle.text_table.specs.Read.{type_at, word_of, constant_of, store, words_after, taken_at, Sofar}
use Rattle.text_table.specs.Reading.{Reading, done, stop, after, read_on, reading_at}
use Rattle.text_frame.specs.Laws.{Fits, Forth}
use Rattle.text_table.specs.Laws.{TableForthAll}
use Rattle.text_frame.specs.declared.Frame.{Frame}
use Rattle.text_frame.specs.declared.Expected.{Expected}
use Rattle.text_frame.specs.declared.Expected.TheVariants.{AtHeader, AtSymbol, AtProduction, AtEquation, Ended}
use Rattle.text_frame.specs.declared.Misread.{Misread}
use Rattle.text_table.proofs.Order.{rest_of, text_next}
use Rattle.text_table.proofs.Writing.{rest_text, rest_all}
use Rattle.text_table.proofs.Sofar.{led, stored, goes}
use Rattle.text_table.proofs.Readings.{store_length, words_length}
use Rattle.text_frame.proofs.Forth.{frame_forth}
use Rattle.text_frame.proofs.Bounds.{Bounded, bounded}
use Rattle.text_tree.proofs.Trees.{join_parts}
use Rattle.text_table.proofs.Kept.{Before, Through, before_through, through_next, placed_so, before_kept, WordsAt, stored_words, words_same, fits_of, shown_is, next_alike, valid_alike, ready_after}

-- what was read from an expected frame on: the words before it are kept, and its text is that of the table that came of it
pub record Rest (t : List ℕ) (x : Expected) (s : List ℕ) (place : ℕ) (u : List ℕ) (end : ℕ) : Type 0 where
  pub kept : (m : ℕ) → Before x m → get_or t m 0 ≡ get_or u m 0
  pub sound : judge_table u ≡ 0
  pub text : take (length (rest_text u x)) (drop place s) ≡ rest_text u x
  pub behind : end ≡ place + length (rest_text u x)
  pub size : length u ≡ length t

never_on : {A : Type 0} → true ≡ false → A
never_on e = let z : ◌≡◌ {A = ℕ} 0 1 = cc in absurd (omega arith)

-- at the end
ended : (t : List ℕ) (x : Expected) (s : List ℕ) (place : ℕ) → is_on x ≡ false → Sofar t x → Rest t x s place t place
unfolding rest_of texts
ended t AtHeader s place e f = never_on e
ended t (AtSymbol i) s place e f = never_on e
ended t (AtProduction p) s place e f = never_on e
ended t (AtEquation p q k) s place e f = never_on e
ended t Ended s place e f = record { kept = λ m b. refl; sound = f; text = refl; behind = omega arith; size = refl }

-- one frame, and then the rest
module _ (t : List ℕ) (x : Expected) (s : List ℕ) (place line : ℕ) (u : List ℕ) (end : ℕ) (len : length t ≡ 2657) (so : Sofar t x) where
  abbrev f : Frame
  f = (frame_at s place line).frame

  abbrev t' : List ℕ
  t' = store t x (word_of f) (constant_of f)

  core : eqb (type_of f) (type_at x) ≡ true → refusal_at t' (entry_of x) ≡ 0 → Rest t' (next_of t' x) s (frame_at s place line).place u end → Rest t x s place u end
  core ty z r =
      let ready : Ready t' x = ready_after t x (word_of f) (constant_of f) so z in
      let through : (m : ℕ) → Through x m → get_or t' m 0 ≡ get_or u m 0 = λ m b. r.kept m (through_next t' x m ready b) in
      let kept : (m : ℕ) → Before x m → get_or t m 0 ≡ get_or u m 0 = λ m b. before_kept t x (word_of f) (constant_of f) m (placed_so t x so) b ∙ through m (before_through x m b) in
      let own : WordsAt t' x (word_of f) (constant_of f) = stored_words t x (word_of f) (constant_of f) len (placed_so t x so) in
      let b : Bounded f = bounded s place line in
      let fits : Fits f = fits_of t' x f ty b own ready in
      let shown : text_at u x ≡ text_of f = shown_is u x f ty b (words_same t' u x (word_of f) (constant_of f) through own) in
      let next : next_of t' x ≡ next_of u x = next_alike t' u x ready through in
      let g : Forth s place line f = frame_forth s place line fits in
      let rest : List ℕ = rest_text u (next_of t' x) in
      let whole : rest_text u x ≡ text_of f ++ rest = text_next u x (valid_alike t u x so kept) ∙ (λ i. shown i ++ rest_text u (sym next i)) in
      let k : (frame_at s place line).place ≡ place + length (text_of f) = g.behind in
      let more : take (length rest) (drop (place + length (text_of f)) s) ≡ rest = rw k at r.text in
      record {
        kept = kept;
        sound = r.sound;
        text = rw whole (join_parts s (text_of f) rest place g.text more);
        behind = omega (arith, r.behind, k, ap length whole, length-append (text_of f) rest);
        size = r.size ∙ store_length t x (word_of f) (constant_of f);
      }

  one_frame : (y : Expected) → taken_at t x f line ≡ Ok y → Rest (words_after t x f) y s (frame_at s place line).place u end → Rest t x s place u end
  one_frame y h r =
      let l = led t x f line y h in
      let d : words_after t x f ≡ t' = stored t x f l.type in
      let e : y ≡ next_of t' x = l.next ∙ ap (λ (w : List ℕ). next_of w x) d in
      let r' : Rest t' y s (frame_at s place line).place u end = rw d at r in
      core l.type (rw d at l.sound) (same_end y (next_of t' x) e r')
    where
      same_end : (y z : Expected) → y ≡ z → Rest t' y s (frame_at s place line).place u end → Rest t' z s (frame_at s place line).place u end
      same_end y z e r = rw (sym e) r

  by_taken : (n next : ℕ) (k : Result Expected Misread) → taken_at t x f line ≡ k → after k (λ y. read_on n (words_after t x f) y s (frame_at s place line).place (frame_at s place line).line) ≡ done u end next
      → ((y : Expected) → taken_at t x f line ≡ Ok y → read_on n (words_after t x f) y s (frame_at s place line).place (frame_at s place line).line ≡ done u end next → Rest (words_after t x f) y s (frame_at s place line).place u end)
      → Rest t x s place u end
  by_taken n next (Ok y) h e again = one_frame y h (again y h e)
  by_taken n next (Err r) h e again = absurd (let z : ◌≡◌ {A = ℕ} 0 1 = cc in omega arith)

at_end : (t : List ℕ) (x : Expected) (s : List ℕ) (place line : ℕ) (u : List ℕ) (end next : ℕ) → is_on x ≡ false → Sofar t x → done t place line ≡ done u end next → Rest t x s place u end
at_end t x s place line u end next o so e =
    let a : u ≡ t = cc in
    let b : end ≡ place = cc in
    rw (a, b) (ended t x s place o so)

-- by whether a frame is expected
out_of : (t : List ℕ) (x : Expected) (s : List ℕ) (place line : ℕ) (u : List ℕ) (end next : ℕ) (r : Refusal) (b : Bool) → is_on x ≡ b → Sofar t x → cond b (stop r line) (done t place line) ≡ done u end next → Rest t x s place u end
out_of t x s place line u end next r true o so e = absurd (let z : ◌≡◌ {A = ℕ} 0 1 = cc in omega arith)
out_of t x s place line u end next r false o so e = at_end t x s place line u end next o so e

or_on : (t : List ℕ) (x : Expected) (s : List ℕ) (place line : ℕ) (u : List ℕ) (end next : ℕ) (g : Reading) (b : Bool) → is_on x ≡ b → Sofar t x → cond b g (done t place line) ≡ done u end next → (g ≡ done u end next → Rest t x s place u end) → Rest t x s place u end
or_on t x s place line u end next g true o so e go = go e
or_on t x s place line u end next g false o so e go = at_end t x s place line u end next o so e

pub forth : (n : ℕ) (t : List ℕ) (x : Expected) (s : List ℕ) (place line : ℕ) (u : List ℕ) (end next : ℕ) → length t ≡ 2657 → Sofar t x → read_on n t x s place line ≡ done u end next → Rest t x s place u end
unfolding read_on
forth zero t x s place line u end next len so e = out_of t x s place line u end next why.Frame (is_on x) refl so e
forth (suc n) t x s place line u end next len so e =
    let f : Frame = (frame_at s place line).frame in
    or_on t x s place line u end next _ (is_on x) refl so e
    (λ g. by_taken t x s place line u end len so n next (taken_at t x f line) refl g
    (λ y h k. forth n (words_after t x f) y s (frame_at s place line).place (frame_at s place line).line u end next (words_length t x f ∙ len) (goes t x f line y so h) k))

pub table_forth : TableForthAll
unfolding reading_at
table_forth s place line t end next e =
    let zeros : List ℕ = replicate 2657 0 in
    let l : length zeros ≡ 2657 = length-replicate {A = ℕ} 2657 0 in
    let r = forth (length s) zeros AtHeader s place line t end next l tt e in
    let a = rest_all t in
    record {
      text = rw a at r.text;
      behind = r.behind ∙ ap (λ (w : List ℕ). place + length w) a;
      sound = r.sound;
      size = r.size ∙ l;
    }
