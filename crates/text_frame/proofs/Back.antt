-- Windows on frames, and frames that are written and read back. Assumes nothing.
use mathlib.Core.Path.{◌≡◌, refl, ap, sym, ◌∙◌}
use mathlib.Core.List.{List, [], ◌∷◌, ◌++◌}
use Prim.Native.Nat.{ℕ, zero, suc, ◌+◌, ◌^◌, ◌≤◌, ◌<◌}
use native.Mathlib.Omega.{arith}
use native.Mathlib.Nat.{add-zero}
use lib.Dec.{lit<, lit≤}
use lib.ListN.{length}
use Rattle.text_line.specs.Hex.{num_at}
use Rattle.text_line.specs.Text.{byte, two, eight, line_at, line_text}
use Rattle.text_line.specs.declared.Line.{Line}
use Rattle.text_line.specs.declared.Line.TheVariants.{Digits, Bad, End}
use Rattle.text_line.proofs.Window.{ReadAlike, num_alike, alike_behind, alike_ahead, line_behind, line_ahead}
use Rattle.text_line.proofs.Fields.{line_back, line_length, field_back}
use Rattle.text_frame.specs.Frames.{header_of, symbol_of, production_of, equation_of, node_of, load_of, replace_of, dump_of, corrections_of, correction_of, kind_of, frame_of, step_of, frame_at, line_after, child_at}
use Rattle.text_frame.specs.Text.{fields_of, text_of}
use Rattle.text_frame.specs.Laws.{shifted, Windows, Kids, Back}
use Rattle.text_frame.specs.declared.Children.{Children}
use Rattle.text_frame.specs.declared.Frame.{Frame}
use Rattle.text_frame.specs.declared.Frame.TheVariants.{Rule, Node, Point, Change, Dump, Refused, Over}
use Rattle.text_frame.specs.declared.Rule.TheVariants.{Header, Symbol, Production, Equation}
use Rattle.text_frame.specs.declared.Change.TheVariants.{Load, Replace, Corrections}

-- two texts that read alike from two places on make the same frames there
module _ (s t : List ℕ) (a b : ℕ) where
  same : ReadAlike s t a b 28 → (k o : ℕ) → o + k ≤ 28 → num_at k s (a + o) ≡ num_at k t (b + o)
  same h k o i = num_alike s t a b k o (λ j l. h j (omega arith))

  frame_alike : (n line : ℕ) → ReadAlike s t a b 28 → frame_of s a n line ≡ frame_of t b n line
  unfolding frame_of kind_of header_of symbol_of production_of equation_of node_of load_of replace_of corrections_of correction_of
  frame_alike n line h =
      let e0 : num_at 2 s a ≡ num_at 2 t b = ap (num_at 2 s) (sym (add-zero a)) ∙ same h 2 0 (lit≤ tt) ∙ ap (num_at 2 t) (add-zero b) in
      simp (e0, same h 2 2 (lit≤ tt), same h 2 4 (lit≤ tt), same h 2 6 (lit≤ tt), same h 2 8 (lit≤ tt), same h 2 10 (lit≤ tt), same h 2 12 (lit≤ tt), same h 4 2 (lit≤ tt), same h 4 6 (lit≤ tt), same h 16 4 (lit≤ tt), same h 16 12 (lit≤ tt))

pub frame_ahead : (s t : List ℕ) (place line : ℕ) → place + 29 ≤ length s → frame_at (s ++ t) place line ≡ frame_at s place line
unfolding frame_at
frame_ahead s t place line h = rw (line_ahead s t place h) (by_line (line_at s place))
  where
    by_line : (l : Line) → step_of (s ++ t) place line l ≡ step_of s place line l
    by_line (Digits n) = ap (λ (f : Frame). record { frame = f; place = place + (n + 1); line = line_after line }) (frame_alike (s ++ t) s place place n line (λ j i. alike_ahead s t place 29 h j (omega arith)))
    by_line Bad = refl
    by_line End = refl

pub frame_behind : (s t : List ℕ) (place line : ℕ) → frame_at (s ++ t) (length s + place) line ≡ shifted (length s) (frame_at t place line)
unfolding frame_at
frame_behind s t place line = rw (line_behind s t place) (by_line (line_at t place))
  where
    by_line : (l : Line) → step_of (s ++ t) (length s + place) line l ≡ shifted (length s) (step_of t place line l)
    by_line (Digits n) =
        let p : length s + place + (n + 1) ≡ length s + (place + (n + 1)) = omega arith in
        let f = frame_alike (s ++ t) t (length s + place) place n line (alike_behind s t place 28) in
        λ i. record { frame = f i; place = p i; line = line_after line }
    by_line Bad = refl
    by_line End = refl

pub windows : Windows
windows = record { ahead = frame_ahead; behind = frame_behind }

header_back : (a b : ℕ) → a < 2 ^ 8 → b < 2 ^ 8 → (rest : List ℕ) (line : ℕ) → frame_at (text_of (Rule (Header a b)) ++ rest) 0 line ≡ record { frame = Rule (Header a b); place = length (text_of (Rule (Header a b))); line = line_after line }
unfolding frame_at frame_of kind_of header_of text_of fields_of
header_back a b h k rest line =
    let w = line_length (fields_of (Rule (Header a b))) in
    rw (line_back (fields_of (Rule (Header a b))) rest (lit≤ tt) (lit≤ tt) refl, w)
    (simp (
      field_back ([]) (byte 1) (byte a ∷ byte b ∷ []) rest (lit< tt),
      field_back (byte 1 ∷ []) (byte a) (byte b ∷ []) rest h,
      field_back (byte 1 ∷ byte a ∷ []) (byte b) ([]) rest k,
    ))

symbol_back : (a b : ℕ) → a < 2 ^ 8 → b < 2 ^ 8 → (rest : List ℕ) (line : ℕ) → frame_at (text_of (Rule (Symbol a b)) ++ rest) 0 line ≡ record { frame = Rule (Symbol a b); place = length (text_of (Rule (Symbol a b))); line = line_after line }
unfolding frame_at frame_of kind_of symbol_of text_of fields_of
symbol_back a b h k rest line =
    let w = line_length (fields_of (Rule (Symbol a b))) in
    rw (line_back (fields_of (Rule (Symbol a b))) rest (lit≤ tt) (lit≤ tt) refl, w)
    (simp (
      field_back ([]) (byte 2) (byte a ∷ byte b ∷ []) rest (lit< tt),
      field_back (byte 2 ∷ []) (byte a) (byte b ∷ []) rest h,
      field_back (byte 2 ∷ byte a ∷ []) (byte b) ([]) rest k,
    ))

node_back : (p o : ℕ) → p < 2 ^ 8 → o < 2 ^ 64 → (rest : List ℕ) (line : ℕ) → frame_at (text_of (Node p o) ++ rest) 0 line ≡ record { frame = Node p o; place = length (text_of (Node p o)); line = line_after line }
unfolding frame_at frame_of kind_of node_of text_of fields_of
node_back p o h k rest line =
    let w = line_length (fields_of (Node p o)) in
    rw (line_back (fields_of (Node p o)) rest (lit≤ tt) (lit≤ tt) refl, w)
    (simp (
      field_back ([]) (byte 5) (byte p ∷ eight o ∷ []) rest (lit< tt),
      field_back (byte 5 ∷ []) (byte p) (eight o ∷ []) rest h,
      field_back (byte 5 ∷ byte p ∷ []) (eight o) ([]) rest k,
    ))

load_back : (n : ℕ) → n < 2 ^ 16 → (rest : List ℕ) (line : ℕ) → frame_at (text_of (Change (Load n)) ++ rest) 0 line ≡ record { frame = Change (Load n); place = length (text_of (Change (Load n))); line = line_after line }
unfolding frame_at frame_of kind_of load_of text_of fields_of
load_back n h rest line =
    let w = line_length (fields_of (Change (Load n))) in
    rw (line_back (fields_of (Change (Load n))) rest (lit≤ tt) (lit≤ tt) refl, w)
    (simp (
      field_back ([]) (byte 6) (two n ∷ []) rest (lit< tt),
      field_back (byte 6 ∷ []) (two n) ([]) rest h,
    ))

replace_back : (r n : ℕ) → r < 2 ^ 16 → n < 2 ^ 16 → (rest : List ℕ) (line : ℕ) → frame_at (text_of (Change (Replace r n)) ++ rest) 0 line ≡ record { frame = Change (Replace r n); place = length (text_of (Change (Replace r n))); line = line_after line }
unfolding frame_at frame_of kind_of replace_of text_of fields_of
replace_back r n h k rest line =
    let w = line_length (fields_of (Change (Replace r n))) in
    rw (line_back (fields_of (Change (Replace r n))) rest (lit≤ tt) (lit≤ tt) refl, w)
    (simp (
      field_back ([]) (byte 7) (two r ∷ two n ∷ []) rest (lit< tt),
      field_back (byte 7 ∷ []) (two r) (two n ∷ []) rest h,
      field_back (byte 7 ∷ two r ∷ []) (two n) ([]) rest k,
    ))

dump_back : (rest : List ℕ) (line : ℕ) → frame_at (text_of (Dump) ++ rest) 0 line ≡ record { frame = Dump; place = length (text_of (Dump)); line = line_after line }
unfolding frame_at frame_of kind_of dump_of text_of fields_of
dump_back rest line =
    let w = line_length (fields_of (Dump)) in
    rw (line_back (fields_of (Dump)) rest (lit≤ tt) (lit≤ tt) refl, w)
    (simp (field_back [] (byte 8) [] rest (lit< tt)))

corrections_back : (n : ℕ) → n < 2 ^ 8 → (rest : List ℕ) (line : ℕ) → frame_at (text_of (Change (Corrections n)) ++ rest) 0 line ≡ record { frame = Change (Corrections n); place = length (text_of (Change (Corrections n))); line = line_after line }
unfolding frame_at frame_of kind_of corrections_of text_of fields_of
corrections_back n h rest line =
    let w = line_length (fields_of (Change (Corrections n))) in
    rw (line_back (fields_of (Change (Corrections n))) rest (lit≤ tt) (lit≤ tt) refl, w)
    (simp (
      field_back ([]) (byte 9) (byte n ∷ []) rest (lit< tt),
      field_back (byte 9 ∷ []) (byte n) ([]) rest h,
    ))

correction_back : (r n : ℕ) → r < 2 ^ 16 → n < 2 ^ 16 → (rest : List ℕ) (line : ℕ) → frame_at (text_of (Point r n) ++ rest) 0 line ≡ record { frame = Point r n; place = length (text_of (Point r n)); line = line_after line }
unfolding frame_at frame_of kind_of correction_of text_of fields_of
correction_back r n h k rest line =
    let w = line_length (fields_of (Point r n)) in
    rw (line_back (fields_of (Point r n)) rest (lit≤ tt) (lit≤ tt) refl, w)
    (simp (
      field_back ([]) (byte 11) (two r ∷ two n ∷ []) rest (lit< tt),
      field_back (byte 11 ∷ []) (two r) (two n ∷ []) rest h,
      field_back (byte 11 ∷ two r ∷ []) (two n) ([]) rest k,
    ))

equation_back : (op x y z u c : ℕ) → op < 2 ^ 8 → x < 2 ^ 8 → y < 2 ^ 8 → z < 2 ^ 8 → u < 2 ^ 8 → c < 2 ^ 64 → (rest : List ℕ) (line : ℕ) → frame_at (text_of (Rule (Equation op (record { position = x; index = y }) (record { position = z; index = u }) c)) ++ rest) 0 line ≡ record { frame = Rule (Equation op (record { position = x; index = y }) (record { position = z; index = u }) c); place = length (text_of (Rule (Equation op (record { position = x; index = y }) (record { position = z; index = u }) c))); line = line_after line }
unfolding frame_at frame_of kind_of equation_of text_of fields_of
equation_back op x y z u c h i j k l m rest line =
    let w = line_length (fields_of (Rule (Equation op (record { position = x; index = y }) (record { position = z; index = u }) c))) in
    rw (line_back (fields_of (Rule (Equation op (record { position = x; index = y }) (record { position = z; index = u }) c))) rest (lit≤ tt) (lit≤ tt) refl, w)
    (simp (
      field_back ([]) (byte 4) (byte op ∷ byte x ∷ byte y ∷ byte z ∷ byte u ∷ eight c ∷ []) rest (lit< tt),
      field_back (byte 4 ∷ []) (byte op) (byte x ∷ byte y ∷ byte z ∷ byte u ∷ eight c ∷ []) rest h,
      field_back (byte 4 ∷ byte op ∷ []) (byte x) (byte y ∷ byte z ∷ byte u ∷ eight c ∷ []) rest i,
      field_back (byte 4 ∷ byte op ∷ byte x ∷ []) (byte y) (byte z ∷ byte u ∷ eight c ∷ []) rest j,
      field_back (byte 4 ∷ byte op ∷ byte x ∷ byte y ∷ []) (byte z) (byte u ∷ eight c ∷ []) rest k,
      field_back (byte 4 ∷ byte op ∷ byte x ∷ byte y ∷ byte z ∷ []) (byte u) (eight c ∷ []) rest l,
      field_back (byte 4 ∷ byte op ∷ byte x ∷ byte y ∷ byte z ∷ byte u ∷ []) (eight c) ([]) rest m,
    ))

-- a production, by the number of its children
module _ (l : ℕ) (cs : Children) (h : l < 2 ^ 8) (rest : List ℕ) (line : ℕ) where
  with_none : Kids 0 cs → frame_at (text_of (Rule (Production l 0 cs)) ++ rest) 0 line ≡ record { frame = Rule (Production l 0 cs); place = length (text_of (Rule (Production l 0 cs))); line = line_after line }
  unfolding frame_at frame_of kind_of production_of text_of fields_of
  with_none k =
      let s : List ℕ = line_text (byte 3 ∷ byte l ∷ byte 0 ∷ []) ++ rest in
      let e0 : child_at s 0 0 0 ≡ cs.one = sym (k.none (lit≤ tt)) in
      let e1 : child_at s 0 0 1 ≡ cs.two = sym (k.single (lit≤ tt)) in
      let e2 : child_at s 0 0 2 ≡ cs.three = sym (k.double (lit≤ tt)) in
      let e3 : child_at s 0 0 3 ≡ cs.four = sym (k.triple (lit≤ tt)) in
      rw (line_back (byte 3 ∷ byte l ∷ byte 0 ∷ []) rest (lit≤ tt) (lit≤ tt) refl, line_length (byte 3 ∷ byte l ∷ byte 0 ∷ []))
      (simp (field_back ([]) (byte 3) (byte l ∷ byte 0 ∷ []) rest (lit< tt), field_back (byte 3 ∷ []) (byte l) (byte 0 ∷ []) rest h, field_back (byte 3 ∷ byte l ∷ []) (byte 0) ([]) rest (lit< tt)) (λ i. record { frame = Rule (Production l 0 (record { one = e0 i; two = e1 i; three = e2 i; four = e3 i })); place = 7; line = line_after line }))

  with_one : Kids 1 cs → frame_at (text_of (Rule (Production l 1 cs)) ++ rest) 0 line ≡ record { frame = Rule (Production l 1 cs); place = length (text_of (Rule (Production l 1 cs))); line = line_after line }
  unfolding frame_at frame_of kind_of production_of text_of fields_of
  with_one k =
      let s : List ℕ = line_text (byte 3 ∷ byte l ∷ byte 1 ∷ byte cs.one ∷ []) ++ rest in
      let e0 : child_at s 0 1 0 ≡ cs.one = field_back (byte 3 ∷ byte l ∷ byte 1 ∷ []) (byte cs.one) ([]) rest k.one in
      let e1 : child_at s 0 1 1 ≡ cs.two = sym (k.single (lit≤ tt)) in
      let e2 : child_at s 0 1 2 ≡ cs.three = sym (k.double (lit≤ tt)) in
      let e3 : child_at s 0 1 3 ≡ cs.four = sym (k.triple (lit≤ tt)) in
      rw (line_back (byte 3 ∷ byte l ∷ byte 1 ∷ byte cs.one ∷ []) rest (lit≤ tt) (lit≤ tt) refl, line_length (byte 3 ∷ byte l ∷ byte 1 ∷ byte cs.one ∷ []))
      (simp (field_back ([]) (byte 3) (byte l ∷ byte 1 ∷ byte cs.one ∷ []) rest (lit< tt), field_back (byte 3 ∷ []) (byte l) (byte 1 ∷ byte cs.one ∷ []) rest h, field_back (byte 3 ∷ byte l ∷ []) (byte 1) (byte cs.one ∷ []) rest (lit< tt)) (λ i. record { frame = Rule (Production l 1 (record { one = e0 i; two = e1 i; three = e2 i; four = e3 i })); place = 9; line = line_after line }))

  with_two : Kids 2 cs → frame_at (text_of (Rule (Production l 2 cs)) ++ rest) 0 line ≡ record { frame = Rule (Production l 2 cs); place = length (text_of (Rule (Production l 2 cs))); line = line_after line }
  unfolding frame_at frame_of kind_of production_of text_of fields_of
  with_two k =
      let s : List ℕ = line_text (byte 3 ∷ byte l ∷ byte 2 ∷ byte cs.one ∷ byte cs.two ∷ []) ++ rest in
      let e0 : child_at s 0 2 0 ≡ cs.one = field_back (byte 3 ∷ byte l ∷ byte 2 ∷ []) (byte cs.one) (byte cs.two ∷ []) rest k.one in
      let e1 : child_at s 0 2 1 ≡ cs.two = field_back (byte 3 ∷ byte l ∷ byte 2 ∷ byte cs.one ∷ []) (byte cs.two) ([]) rest k.two in
      let e2 : child_at s 0 2 2 ≡ cs.three = sym (k.double (lit≤ tt)) in
      let e3 : child_at s 0 2 3 ≡ cs.four = sym (k.triple (lit≤ tt)) in
      rw (line_back (byte 3 ∷ byte l ∷ byte 2 ∷ byte cs.one ∷ byte cs.two ∷ []) rest (lit≤ tt) (lit≤ tt) refl, line_length (byte 3 ∷ byte l ∷ byte 2 ∷ byte cs.one ∷ byte cs.two ∷ []))
      (simp (field_back ([]) (byte 3) (byte l ∷ byte 2 ∷ byte cs.one ∷ byte cs.two ∷ []) rest (lit< tt), field_back (byte 3 ∷ []) (byte l) (byte 2 ∷ byte cs.one ∷ byte cs.two ∷ []) rest h, field_back (byte 3 ∷ byte l ∷ []) (byte 2) (byte cs.one ∷ byte cs.two ∷ []) rest (lit< tt)) (λ i. record { frame = Rule (Production l 2 (record { one = e0 i; two = e1 i; three = e2 i; four = e3 i })); place = 11; line = line_after line }))

  with_three : Kids 3 cs → frame_at (text_of (Rule (Production l 3 cs)) ++ rest) 0 line ≡ record { frame = Rule (Production l 3 cs); place = length (text_of (Rule (Production l 3 cs))); line = line_after line }
  unfolding frame_at frame_of kind_of production_of text_of fields_of
  with_three k =
      let s : List ℕ = line_text (byte 3 ∷ byte l ∷ byte 3 ∷ byte cs.one ∷ byte cs.two ∷ byte cs.three ∷ []) ++ rest in
      let e0 : child_at s 0 3 0 ≡ cs.one = field_back (byte 3 ∷ byte l ∷ byte 3 ∷ []) (byte cs.one) (byte cs.two ∷ byte cs.three ∷ []) rest k.one in
      let e1 : child_at s 0 3 1 ≡ cs.two = field_back (byte 3 ∷ byte l ∷ byte 3 ∷ byte cs.one ∷ []) (byte cs.two) (byte cs.three ∷ []) rest k.two in
      let e2 : child_at s 0 3 2 ≡ cs.three = field_back (byte 3 ∷ byte l ∷ byte 3 ∷ byte cs.one ∷ byte cs.two ∷ []) (byte cs.three) ([]) rest k.three in
      let e3 : child_at s 0 3 3 ≡ cs.four = sym (k.triple (lit≤ tt)) in
      rw (line_back (byte 3 ∷ byte l ∷ byte 3 ∷ byte cs.one ∷ byte cs.two ∷ byte cs.three ∷ []) rest (lit≤ tt) (lit≤ tt) refl, line_length (byte 3 ∷ byte l ∷ byte 3 ∷ byte cs.one ∷ byte cs.two ∷ byte cs.three ∷ []))
      (simp (field_back ([]) (byte 3) (byte l ∷ byte 3 ∷ byte cs.one ∷ byte cs.two ∷ byte cs.three ∷ []) rest (lit< tt), field_back (byte 3 ∷ []) (byte l) (byte 3 ∷ byte cs.one ∷ byte cs.two ∷ byte cs.three ∷ []) rest h, field_back (byte 3 ∷ byte l ∷ []) (byte 3) (byte cs.one ∷ byte cs.two ∷ byte cs.three ∷ []) rest (lit< tt)) (λ i. record { frame = Rule (Production l 3 (record { one = e0 i; two = e1 i; three = e2 i; four = e3 i })); place = 13; line = line_after line }))

  with_four : Kids 4 cs → frame_at (text_of (Rule (Production l 4 cs)) ++ rest) 0 line ≡ record { frame = Rule (Production l 4 cs); place = length (text_of (Rule (Production l 4 cs))); line = line_after line }
  unfolding frame_at frame_of kind_of production_of text_of fields_of
  with_four k =
      let s : List ℕ = line_text (byte 3 ∷ byte l ∷ byte 4 ∷ byte cs.one ∷ byte cs.two ∷ byte cs.three ∷ byte cs.four ∷ []) ++ rest in
      let e0 : child_at s 0 4 0 ≡ cs.one = field_back (byte 3 ∷ byte l ∷ byte 4 ∷ []) (byte cs.one) (byte cs.two ∷ byte cs.three ∷ byte cs.four ∷ []) rest k.one in
      let e1 : child_at s 0 4 1 ≡ cs.two = field_back (byte 3 ∷ byte l ∷ byte 4 ∷ byte cs.one ∷ []) (byte cs.two) (byte cs.three ∷ byte cs.four ∷ []) rest k.two in
      let e2 : child_at s 0 4 2 ≡ cs.three = field_back (byte 3 ∷ byte l ∷ byte 4 ∷ byte cs.one ∷ byte cs.two ∷ []) (byte cs.three) (byte cs.four ∷ []) rest k.three in
      let e3 : child_at s 0 4 3 ≡ cs.four = field_back (byte 3 ∷ byte l ∷ byte 4 ∷ byte cs.one ∷ byte cs.two ∷ byte cs.three ∷ []) (byte cs.four) ([]) rest k.four in
      rw (line_back (byte 3 ∷ byte l ∷ byte 4 ∷ byte cs.one ∷ byte cs.two ∷ byte cs.three ∷ byte cs.four ∷ []) rest (lit≤ tt) (lit≤ tt) refl, line_length (byte 3 ∷ byte l ∷ byte 4 ∷ byte cs.one ∷ byte cs.two ∷ byte cs.three ∷ byte cs.four ∷ []))
      (simp (field_back ([]) (byte 3) (byte l ∷ byte 4 ∷ byte cs.one ∷ byte cs.two ∷ byte cs.three ∷ byte cs.four ∷ []) rest (lit< tt), field_back (byte 3 ∷ []) (byte l) (byte 4 ∷ byte cs.one ∷ byte cs.two ∷ byte cs.three ∷ byte cs.four ∷ []) rest h, field_back (byte 3 ∷ byte l ∷ []) (byte 4) (byte cs.one ∷ byte cs.two ∷ byte cs.three ∷ byte cs.four ∷ []) rest (lit< tt)) (λ i. record { frame = Rule (Production l 4 (record { one = e0 i; two = e1 i; three = e2 i; four = e3 i })); place = 15; line = line_after line }))

pub frame_back : Back
frame_back (Rule (Header a b)) rest line f = header_back a b f.0 f.1 rest line
frame_back (Rule (Symbol a b)) rest line f = symbol_back a b f.0 f.1 rest line
frame_back (Rule (Production l zero cs)) rest line f = with_none l cs f.0 rest line f.1.1
frame_back (Rule (Production l (suc zero) cs)) rest line f = with_one l cs f.0 rest line f.1.1
frame_back (Rule (Production l (suc (suc zero)) cs)) rest line f = with_two l cs f.0 rest line f.1.1
frame_back (Rule (Production l (suc (suc (suc zero))) cs)) rest line f = with_three l cs f.0 rest line f.1.1
frame_back (Rule (Production l (suc (suc (suc (suc zero)))) cs)) rest line f = with_four l cs f.0 rest line f.1.1
frame_back (Rule (Production l (suc (suc (suc (suc (suc n))))) cs)) rest line f = absurd (omega (arith, f.1.0))
frame_back (Rule (Equation op a b c)) rest line f = equation_back op a.position a.index b.position b.index c f.0 f.1.0.0 f.1.0.1 f.1.1.0.0 f.1.1.0.1 f.1.1.1 rest line
frame_back (Node p o) rest line f = node_back p o f.0 f.1 rest line
frame_back (Change (Load n)) rest line f = load_back n f rest line
frame_back (Change (Replace r n)) rest line f = replace_back r n f.0 f.1 rest line
frame_back Dump rest line f = dump_back rest line
frame_back (Change (Corrections n)) rest line f = corrections_back n f rest line
frame_back (Point r n) rest line f = correction_back r n f.0 f.1 rest line
frame_back (Refused r l) rest line f = absurd f
frame_back Over rest line f = absurd f
