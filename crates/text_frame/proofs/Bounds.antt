-- The fields of a frame that was read fit. Assumes nothing.
use mathlib.Core.Path.{◌≡◌}
use mathlib.Core.List.{List}
use mathlib.Core.Bool.{Bool, true, false, cond}
use Prim.Native.Nat.{ℕ, ◌+◌, ◌*◌, ◌^◌, ◌≤◌, ◌<◌}
use borrow.Author.Tests.{le-ltb}
use lib.Dec.{eqb, ltb, lit<}
use Rattle.text_line.specs.Hex.{num_at}
use Rattle.text_line.specs.Text.{line_at}
use Rattle.text_line.specs.declared.Line.{Line}
use Rattle.text_line.specs.declared.Line.TheVariants.{Digits, Bad, End}
use Rattle.text_line.proofs.Values.{num_small}
use Rattle.text_frame.specs.Frames.{header_of, symbol_of, production_of, equation_of, node_of, load_of, replace_of, dump_of, corrections_of, correction_of, kind_of, frame_of, step_of, frame_at, child_at}
use Rattle.text_frame.specs.Laws.{Kids}
use Rattle.text_frame.specs.declared.Frame.{Frame}
use Rattle.text_frame.specs.declared.Frame.TheVariants.{Rule, Node, Point, Change, Dump, Refused, Over}
use Rattle.text_frame.specs.declared.Rule.TheVariants.{Header, Symbol, Production, Equation}
use Rattle.text_frame.specs.declared.Change.TheVariants.{Load, Replace, Corrections}

abbrev pub Bounded : Frame → Type 0
Bounded (Rule (Header a b)) = (a < 2 ^ 8) × (b < 2 ^ 8)
Bounded (Rule (Symbol a b)) = (a < 2 ^ 8) × (b < 2 ^ 8)
Bounded (Rule (Production l n cs)) = (l < 2 ^ 8) × ((n < 2 ^ 8) × Kids n cs)
Bounded (Rule (Equation op a b c)) = (op < 2 ^ 8) × (((a.position < 2 ^ 8) × (a.index < 2 ^ 8)) × (((b.position < 2 ^ 8) × (b.index < 2 ^ 8)) × (c < 2 ^ 64)))
Bounded (Node p o) = (p < 2 ^ 8) × (o < 2 ^ 64)
Bounded (Change (Load n)) = n < 2 ^ 16
Bounded (Change (Replace r n)) = (r < 2 ^ 16) × (n < 2 ^ 16)
Bounded Dump = Unit {0}
Bounded (Change (Corrections n)) = n < 2 ^ 8
Bounded (Point r n) = (r < 2 ^ 16) × (n < 2 ^ 16)
Bounded (Refused r l) = Unit {0}
Bounded Over = Unit {0}

either : (b : Bool) (x y : Frame) → Bounded x → Bounded y → Bounded (cond b x y)
either true x y g h = g
either false x y g h = h

picked : (b : Bool) (v m : ℕ) → v < m → 0 < m → cond b v 0 < m
picked true v m h z = h
picked false v m h z = z

module _ (s : List ℕ) (place n line : ℕ) where
  small : (o : ℕ) → num_at 2 s (place + o) < 2 ^ 8
  small o = num_small 2 s (place + o)

  child_small : (c j : ℕ) → child_at s place c j < 2 ^ 8
  child_small c j = picked (ltb j c) (num_at 2 s (place + (6 + 2 * j))) (2 ^ 8) (small (6 + 2 * j)) (lit< tt)

  child_none : (c j : ℕ) → c ≤ j → child_at s place c j ≡ 0
  child_none c j h = rw (le-ltb j c h)

  kids : (c : ℕ) → Kids c (record { one = child_at s place c 0; two = child_at s place c 1; three = child_at s place c 2; four = child_at s place c 3 })
  kids c = record {
    one = child_small c 0;
    two = child_small c 1;
    three = child_small c 2;
    four = child_small c 3;
    none = child_none c 0;
    single = child_none c 1;
    double = child_none c 2;
    triple = child_none c 3;
  }

  bounded_of : Bounded (frame_of s place n line)
  unfolding frame_of kind_of header_of symbol_of production_of equation_of node_of load_of replace_of dump_of corrections_of correction_of
  bounded_of =
      let t : ℕ = num_at 2 s place in
      either (eqb t 1) _ _ (either (eqb n 6) _ _ (small 2, small 4) tt) (either (eqb t 2) _ _ (either (eqb n 6) _ _ (small 2, small 4) tt)
      (either (eqb t 3) _ _ (either (ltb n 6) _ _ tt (either (eqb n (6 + 2 * num_at 2 s (place + 4))) _ _ (small 2, (small 4, kids (num_at 2 s (place + 4)))) tt))
      (either (eqb t 4) _ _ (either (eqb n 28) _ _ (small 2, ((small 4, small 6), ((small 8, small 10), num_small 16 s (place + 12)))) tt)
      (either (eqb t 5) _ _ (either (eqb n 20) _ _ (num_small 2 s (place + 2), num_small 16 s (place + 4)) tt) (either (eqb t 6) _ _ (either (eqb n 6) _ _ (num_small 4 s (place + 2)) tt)
      (either (eqb t 7) _ _ (either (eqb n 10) _ _ (num_small 4 s (place + 2), num_small 4 s (place + 6)) tt) (either (eqb t 8) _ _ (either (eqb n 2) _ _ tt tt)
      (either (eqb t 9) _ _ (either (eqb n 4) _ _ (small 2) tt) (either (eqb t 11) _ _ (either (eqb n 10) _ _ (num_small 4 s (place + 2), num_small 4 s (place + 6)) tt) tt)))))))))

pub bounded : (s : List ℕ) (place line : ℕ) → Bounded (frame_at s place line).frame
unfolding frame_at
bounded s place line = by_line (line_at s place)
  where
    by_line : (l : Line) → Bounded (step_of s place line l).frame
    by_line (Digits n) = bounded_of s place n line
    by_line Bad = tt
    by_line End = tt
