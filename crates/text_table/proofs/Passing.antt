-- From frame to frame: one that has a type moves on, at the end of the text there is none, and neither the end nor a broken line is a frame of a table.
-- Assumes nothing.
use mathlib.Core.Path.{◌≡◌, sym, ◌∙◌}
use mathlib.Core.Bool.{true}
use mathlib.Core.List.{List}
use mathlib.Core.Logic.{inl}
use Rattle.std.proofs.Common.{Ok, Err}
use Prim.Native.Nat.{ℕ, zero, suc, ◌≤◌, ◌<◌}
use native.Mathlib.Omega.{arith}
use borrow.Author.Tests.{eqb-true}
use lib.Dec.{lit≤}
use lib.ListN.{length}
use Rattle.refusal.specs.declared.Refusal.TheVariants as why
use Rattle.text_line.specs.Text.{line_at}
use Rattle.text_line.specs.declared.Line.{Line}
use Rattle.text_line.specs.declared.Line.TheVariants.{Digits, Bad, End}
use Rattle.text_line.proofs.Rows.{line_end}
use Rattle.text_frame.specs.Frames.{step_of, frame_at}
use Rattle.text_frame.specs.Walk.{is_on}
use Rattle.text_frame.specs.declared.Frame.{Frame}
use Rattle.text_frame.specs.declared.Frame.TheVariants.{Refused, Over}
use Rattle.text_frame.specs.declared.Expected.{Expected}
use Rattle.text_frame.specs.declared.Expected.TheVariants.{AtHeader, AtSymbol, AtProduction, AtEquation, Ended}
use Rattle.text_frame.specs.Text.{type_of}
use Rattle.text_table.specs.Read.{type_at, taken_at}
use Rattle.text_table.specs.Reading.{stop, read_on}
use Rattle.text_frame.specs.Calls.{misread}
use Rattle.text_table.proofs.Taking.{no_type}
use Rattle.text_table.proofs.Sofar.{led}
use Rattle.text_table.proofs.Readings.{read_out, read_turn}

pub frame_on : (s : List ℕ) (place line : ℕ) → 0 < type_of (frame_at s place line).frame → place < (frame_at s place line).place
unfolding frame_at
frame_on s place line h = by_line (line_at s place) h
  where
    by_line : (l : Line) → 0 < type_of (step_of s place line l).frame → place < (step_of s place line l).place
    by_line (Digits n) h = omega arith
    by_line Bad h = absurd (omega arith)
    by_line End h = absurd (omega arith)

pub none_left : (s : List ℕ) (place line : ℕ) → length s ≤ place → (frame_at s place line).frame ≡ Over
unfolding frame_at
none_left s place line h = let e : line_at s place ≡ End = sym (line_end s place h) in rw e

some_type : (x : Expected) → 0 < type_at x
some_type AtHeader = omega arith
some_type (AtSymbol s) = omega arith
some_type (AtProduction p) = omega arith
some_type (AtEquation p q k) = omega arith
some_type Ended = omega arith

pub over_taken : (t : List ℕ) (x : Expected) (line : ℕ) → taken_at t x Over line ≡ Err (misread why.Frame line)
unfolding taken_at
over_taken t x line = rw (no_type x 0 (inl (lit≤ tt)))

pub broken_taken : (t : List ℕ) (x : Expected) (line : ℕ) → taken_at t x (Refused why.Line line) line ≡ Err (misread why.Line line)
unfolding taken_at
broken_taken t x line = rw (no_type x 0 (inl (lit≤ tt)))

pub taken_type : (t : List ℕ) (x : Expected) (f : Frame) (line : ℕ) (y : Expected) → taken_at t x f line ≡ Ok y → 0 < type_of f
taken_type t x f line y h = let e = eqb-true (type_of f) (type_at x) (led t x f line y h).type in omega (arith, some_type x)

-- a table that the text ends in, with any number of turns left
pub read_over : (n : ℕ) (t : List ℕ) (x : Expected) (s : List ℕ) (place line : ℕ) → is_on x ≡ true → length s ≤ place → read_on n t x s place line ≡ stop why.Frame line
read_over zero t x s place line on l = read_out s t x place line on
read_over (suc n) t x s place line on l = read_turn s t x place line on n ∙ rw (none_left s place line l, over_taken t x line)
