-- A table is written, read and refused exactly when. Assumes nothing.
use mathlib.Core.Path.{◌≡◌, refl, ap, sym, ◌∙◌}
use mathlib.Core.Bool.{Bool, true, false, true≢false}
use mathlib.Core.List.{List}
use mathlib.Core.Logic.{inl, ⊎_elim}
use Rattle.std.proofs.Common.{Result, Err}
use Prim.Native.Nat.{ℕ, zero, suc, ◌+◌, ◌≤◌, ◌<◌}
use native.Mathlib.Omega.{arith}
use borrow.Author.Tests.{eq-eqb, ne_eqb, le-leb, lt-leb}
use lib.Dec.{eqb, lit≤}
use lib.ListN.{length, replicate}
use Rattle.refusal.specs.Numbers.{number_of}
use Rattle.refusal.specs.declared.Refusal.{Refusal}
use Rattle.refusal.specs.declared.Refusal.TheVariants as why
use Rattle.refusal.proofs.Distinct.{number_low}
use Rattle.table.specs.Judge.{refusal_at, judge_table}
use Rattle.table.specs.Sound.{Sound}
use Rattle.table.specs.Refused.{breaks, Refused}
use Rattle.table.proofs.Refused.{refused_exactly, five_numbers, frame_most, breaks_none, none_breaks, frame_lowest, lowest_frame}
use Rattle.table.proofs.Sound.{sound_exactly}
use Rattle.text_line.specs.Exactly.{NoLine}
use Rattle.text_line.proofs.Values.{lt_or_ge}
use Rattle.text_frame.specs.Frames.{line_after, frame_at}
use Rattle.text_frame.specs.Walk.{entry_of, next_of, is_on}
use Rattle.text_frame.specs.Exactly.{Fields, IsFrame, Astray, ended as text-ended}
use Rattle.text_frame.specs.declared.Frame.{Frame}
use Rattle.text_frame.specs.declared.Step.{Step}
use Rattle.text_frame.specs.declared.Expected.{Expected}
use Rattle.text_frame.specs.declared.Expected.TheVariants.{AtHeader, AtSymbol, AtProduction, AtEquation, Ended}
use Rattle.text_frame.proofs.Exactly.{Expects, bad, astray, there, Stray, refused as was-refused, ended, strange, expects, found_bad, found_there, found_stray, Grouped, a_rule, a_node, a_point, a_change, a_dump, grouped, grouped_type}
use Rattle.text_tree.specs.Written.{refusal_of}
use Rattle.text_tree.proofs.Numbers.{numbered}
use Rattle.text_tree.proofs.Refusing.{writes_exactly}
use Rattle.text_table.specs.Text.{table_text}
use Rattle.text_frame.specs.Text.{type_of}
use Rattle.text_table.specs.Read.{type_at, words_after, strange_at, judged_at, taken_at}
use Rattle.text_table.specs.Reading.{Reading, done, stop, after, read_on, reading_at, table_answer, memory_after}
use Rattle.text_table.specs.Refused.{WriteTableExactly, storing, ReadTo, begin, next, TableRead, all, by13, by14, by1to5, TableExactly, ReadsTable, stopped, by15, read, ReadTableExactly}
use Rattle.text_frame.specs.Calls.{misread}
use Rattle.text_frame.specs.declared.Misread.{Misread}
use Rattle.text_table.specs.declared.ReadTable.{ReadTable}
use Rattle.text_table.proofs.Taking.{no_type, never_ended, stopped_by, other_taken}
use Rattle.text_table.proofs.Readings.{read_turn, read_out, read_ends}

-- ---- writing

pub write_table_exactly : WriteTableExactly
write_table_exactly t buffer =
    writes_exactly (λ r. Refused t (number_of r)) (Sound t) buffer (table_text t) (judge_table t) (record {
      most = omega (arith, five_numbers t);
      refused = λ r. let x = refused_exactly t (number_of r) (number_low r) in (λ e. x.0 (sym e), λ w. sym (x.1 w));
      right = let x = sound_exactly t in (λ e. x.0 (sym e), λ w. sym (x.1 w));
    })

-- ---- one frame, by what stands there

type_of_lem : {s : List ℕ} {place : ℕ} {f : Frame} {type n : ℕ} → Fields s place f type n → type_of f ≡ type
type_of_lem w = grouped_type (grouped w)

-- a refusal and the text's end have no type that is expected
stray_type : {line : ℕ} {f : Frame} (x : Expected) → Stray line (type_at x) f → eqb (type_of f) (type_at x) ≡ false
stray_type x was-refused = no_type x 0 (inl (lit≤ tt))
stray_type x ended = no_type x 0 (inl (lit≤ tt))
stray_type x (strange w h) = ne_eqb _ (type_at x) (λ e. h (sym (type_of_lem w) ∙ e))

grouped_stops : {line type : ℕ} {f : Frame} → Grouped f type → strange_at f line ≡ misread why.Frame line
grouped_stops (a_rule r) = refl
grouped_stops (a_node p o) = refl
grouped_stops (a_point r n) = refl
grouped_stops (a_change c) = refl
grouped_stops a_dump = refl

stray_stops : {line expected : ℕ} {f : Frame} → Stray line expected f → strange_at f line ≡ misread why.Frame line
stray_stops was-refused = refl
stray_stops ended = refl
stray_stops (strange w h) = grouped_stops (grouped w)

-- where a frame stands, one is expected
on_there : {s : List ℕ} {at n type : ℕ} {f : Frame} (x : Expected) → type ≡ type_at x → Fields s at f type n → is_on x ≡ true
on_there AtHeader e w = refl
on_there (AtSymbol s) e w = refl
on_there (AtProduction p) e w = refl
on_there (AtEquation p q k) e w = refl
on_there {f = f} Ended e w = absurd (true≢false (sym (eq-eqb (type_of f) 256 (type_of_lem w ∙ e)) ∙ never_ended f))

module _ (s t : List ℕ) (x : Expected) (at l : ℕ) where
  abbrev found : Frame
  found = (frame_at s at l).frame

  taken_bad : NoLine s at → taken_at t x found l ≡ Err (misread why.Line l)
  taken_bad w = let e = ap (λ (r : Step). r.frame) (found_bad s at l w) in rw e (sym (other_taken t x _ l (no_type x 0 (inl (lit≤ tt)))))

  taken_stray : Astray s at (type_at x) → taken_at t x found l ≡ Err (misread why.Frame l)
  taken_stray w = let k = found_stray s at l (type_at x) w in sym (other_taken t x found l (stray_type x k)) ∙ ap Err (stray_stops k)

  module _ (f : Frame) (n : ℕ) (w : IsFrame s at f (type_at x) n) where
    there_is : frame_at s at l ≡ record { frame = f; place = at + (n + 1); line = line_after l }
    there_is = found_there s at l w

    words_there : words_after t x f ≡ storing t x f
    unfolding words_after
    words_there = rw (eq-eqb (type_of f) (type_at x) (type_of_lem w.fields))

    taken_there : taken_at t x f l ≡ judged_at (refusal_at (storing t x f) (entry_of x)) (next_of (storing t x f) x) l
    unfolding taken_at
    taken_there = rw (eq-eqb (type_of f) (type_at x) (type_of_lem w.fields), words_there)

    -- one frame of a reading
    reads_there : (m : ℕ) → read_on (suc m) t x s at l
        ≡ after (judged_at (refusal_at (storing t x f) (entry_of x)) (next_of (storing t x f) x) l) (λ y. read_on m (storing t x f) y s (at + (n + 1)) (line_after l))
    reads_there m =
        read_turn s t x at l (on_there x refl w.fields) m
        ∙ ap (λ (r : Step). after (taken_at t x r.frame l) (λ y. read_on m (words_after t x r.frame) y s r.place r.line)) there_is
        ∙ rw (taken_there, words_there)

    reads_on : (m : ℕ) → ((k : ℕ) → breaks (storing t x f) (entry_of x) k ≡ false) → read_on (suc m) t x s at l ≡ read_on m (storing t x f) (next_of (storing t x f) x) s (at + (n + 1)) (line_after l)
    reads_on m u = let z = none_breaks (storing t x f) (entry_of x) u in reads_there m ∙ rw z

    reads_by : (m : ℕ) (r : Refusal) → refusal_at (storing t x f) (entry_of x) ≡ number_of r → read_on (suc m) t x s at l ≡ stop r l
    reads_by m r e = reads_there m ∙ rw e (by_refusal r)
      where
        by_refusal : (r : Refusal) → after (judged_at (number_of r) (next_of (storing t x f) x) l) (λ y. read_on m (storing t x f) y s (at + (n + 1)) (line_after l)) ≡ stop r l
        by_refusal r = ap (λ (q : Result Expected Misread). after q (λ y. read_on m (storing t x f) y s (at + (n + 1)) (line_after l))) (sym (stopped_by r (next_of (storing t x f) x) l))

  stops_bad : (m : ℕ) → is_on x ≡ true → NoLine s at → read_on (suc m) t x s at l ≡ stop why.Line l
  stops_bad m o w = let e = taken_bad w in read_turn s t x at l o m ∙ rw e

  stops_stray : (m : ℕ) → length s ≤ at + m → is_on x ≡ true → Astray s at (type_at x) → read_on m t x s at l ≡ stop why.Frame l
  stops_stray zero h o w = read_out s t x at l o
  stops_stray (suc m) h o w = let e = taken_stray w in read_turn s t x at l o m ∙ rw e

-- ---- the walk

pub at_end : (x : Expected) → is_on x ≡ false → x ≡ Ended
at_end AtHeader e = absurd (true≢false e)
at_end (AtSymbol s) e = absurd (true≢false e)
at_end (AtProduction p) e = absurd (true≢false e)
at_end (AtEquation p q k) e = absurd (true≢false e)
at_end Ended e = refl

module _ (s : List ℕ) (place line : ℕ) where
  -- the frame that is expected stands there: it is refused, or the walk goes on behind it
  module _ (m : ℕ) (t : List ℕ) (x : Expected) (at l : ℕ) (c : ReadTo s place line t x at l) where
    abbrev Rest : Type 0
    Rest = (t : List ℕ) (x : Expected) (at l : ℕ) → ReadTo s place line t x at l → length s ≤ at + m → TableRead s place line (read_on m t x s at l)

    walk_frame : Rest → length s ≤ at + suc m → (f : Frame) (n : ℕ) → IsFrame s at f (type_at x) n → (k : ℕ) → refusal_at (storing t x f) (entry_of x) ≡ k → TableRead s place line (read_on (suc m) t x s at l)
    walk_frame go h f n w zero e =
        let u = breaks_none (storing t x f) (entry_of x) e in
        rw (reads_on s t x at l f n w m u) (go (storing t x f) (next_of (storing t x f) x) (at + (n + 1)) (line_after l) (next c w u) (omega arith))
    walk_frame go h f n w (suc k) e =
        let b : number_of (refusal_of (suc k)) ≡ suc k = numbered (suc k) (omega arith) (omega (arith, frame_most (storing t x f) (entry_of x))) in
        rw (reads_by s t x at l f n w m (refusal_of (suc k)) (e ∙ sym b)) (by1to5 {r = refusal_of (suc k)} c w (rw b (frame_lowest (storing t x f) (entry_of x) k e)))

    walk_on : Rest → length s ≤ at + suc m → is_on x ≡ true → Expects s at (type_at x) → TableRead s place line (read_on (suc m) t x s at l)
    walk_on go h o (bad w) = rw (stops_bad s t x at l m o w) (by13 c o w)
    walk_on go h o (astray w) = rw (stops_stray s t x at l (suc m) h o w) (by14 c o w)
    walk_on go h o (there f n w) = walk_frame go h f n w (refusal_at (storing t x f) (entry_of x)) refl

  ends : (m : ℕ) (t : List ℕ) (x : Expected) (at l : ℕ) → ReadTo s place line t x at l → is_on x ≡ false → TableRead s place line (read_on m t x s at l)
  ends m t x at l c o = rw (read_ends m s t x at l o) (all (rw (at_end x o) at c))

  -- a text has no more frames than bytes: m is enough for what is left of it
  walk_to : (m : ℕ) (t : List ℕ) (x : Expected) (at l : ℕ) → ReadTo s place line t x at l → length s ≤ at + m → TableRead s place line (read_on m t x s at l)
  walk_to zero t x at l c h = by (is_on x) refl
    where
      by : (b : Bool) → is_on x ≡ b → TableRead s place line (read_on 0 t x s at l)
      by true o = let w : Astray s at (type_at x) = text-ended (omega arith) in rw (stops_stray s t x at l 0 h o w) (by14 c o w)
      by false o = ends 0 t x at l c o
  walk_to (suc m) t x at l c h = by (walk_to m) (is_on x) refl
    where
      by : Rest m t x at l c → (b : Bool) → is_on x ≡ b → TableRead s place line (read_on (suc m) t x s at l)
      by go true o = walk_on m t x at l c go h o (expects s at l (type_at x))
      by go false o = ends (suc m) t x at l c o

  table_to : TableRead s place line (reading_at s place line)
  unfolding reading_at
  table_to = walk_to (length s) (replicate 2657 0) AtHeader place line begin (omega arith)

  -- where the walk comes to, the reading comes to
  record Reaches (t : List ℕ) (x : Expected) (at l : ℕ) : Type 0 where
    left : ℕ
    enough : length s ≤ at + left
    same : reading_at s place line ≡ read_on left t x s at l

  reach_next : (t : List ℕ) (x : Expected) (at l n : ℕ) (f : Frame) → IsFrame s at f (type_at x) n → ((k : ℕ) → breaks (storing t x f) (entry_of x) k ≡ false) → (m : ℕ) → length s ≤ at + m
      → reading_at s place line ≡ read_on m t x s at l → Reaches (storing t x f) (next_of (storing t x f) x) (at + (n + 1)) (line_after l)
  reach_next t x at l n f w u zero h e = absurd (omega (arith, w.line.inside))
  reach_next t x at l n f w u (suc m) h e = record { left = m; enough = omega arith; same = e ∙ reads_on s t x at l f n w m u }

  reaches : {t : List ℕ} {x : Expected} {at l : ℕ} → ReadTo s place line t x at l → Reaches t x at l
  unfolding reading_at
  reaches begin = record { left = length s; enough = omega arith; same = refl }
  reaches (next {t} {x} {at} {l} {n} {f} c w u) = let r = reaches c in reach_next t x at l n f w u r.left r.enough r.same

  inside : (at m : ℕ) → at < length s → length s ≤ at + m → (k : ℕ) × (m ≡ suc k)
  inside at zero h k = absurd (omega arith)
  inside at (suc m) h k = (m, refl)

  table_from : {x : Reading} → TableRead s place line x → x ≡ reading_at s place line
  table_from (all {t} {end} {next = behind} c) = let r = reaches c in sym (r.same ∙ read_ends r.left s t Ended end behind refl)
  table_from (by13 {t} {x} {at} {l} c o w) =
      let r = reaches c in
      let i = inside at r.left w.some r.enough in
      sym (r.same ∙ ap (λ (m : ℕ). read_on m t x s at l) i.1 ∙ stops_bad s t x at l i.0 o w)
  table_from (by14 {t} {x} {at} {l} c o w) = let r = reaches c in sym (r.same ∙ stops_stray s t x at l r.left r.enough o w)
  table_from (by1to5 {t} {x} {at} {l} {n} {f} {r = q} c w u) =
      let r = reaches c in
      let i = inside at r.left (omega (arith, w.line.inside)) r.enough in
      sym (r.same ∙ ap (λ (m : ℕ). read_on m t x s at l) i.1 ∙ reads_by s t x at l f n w i.0 q (lowest_frame (storing t x f) (entry_of x) (number_of q) u).0)

pub table_exactly : TableExactly
table_exactly s place line x = (λ e. rw e (table_to s place line), table_from s place line)

-- ---- into lent memory

module _ (s : List ℕ) (place line : ℕ) (words : List ℕ) where
  answers : (x : Reading) → TableRead s place line x → ReadsTable s place line words (table_answer x (length words) line) (memory_after x words)
  answers (done t end behind) w =
      ⊎_elim (λ (h : length words < 2657). rw (lt-leb 2657 (length words) h) (by15 w h))
      (λ (h : 2657 ≤ length words). rw (le-leb 2657 (length words) h) (read w h)) (lt_or_ge (length words) 2657)
  answers (stop r l) w = stopped w

  answers_from : {a : Result ReadTable Misread} {words' : List ℕ} → ReadsTable s place line words a words' → (a ≡ table_answer (reading_at s place line) (length words) line) × (words' ≡ memory_after (reading_at s place line) words)
  answers_from (stopped w) = rw (← (table_from s place line w)) (refl, refl)
  answers_from (by15 w h) = let k = lt-leb 2657 (length words) h in rw (← (table_from s place line w)) (rw k (refl, refl))
  answers_from (read w h) = let k = le-leb 2657 (length words) h in rw (← (table_from s place line w)) (rw k (refl, refl))

pub read_table_exactly : ReadTableExactly
read_table_exactly s place line words a words' = (λ e. rw (e.0, e.1) (answers s place line words (reading_at s place line) (table_to s place line)), answers_from s place line words)
