-- A frame is found exactly where one stands. Assumes nothing.
use mathlib.Core.Path.{◌≡◌, refl, ap, sym, ◌∙◌}
use mathlib.Core.Bool.{Bool, true, false, cond}
use mathlib.Core.List.{List, [], ◌∷◌}
use Prim.Native.Nat.{ℕ, ◌+◌, ◌*◌, ◌<◌}
use native.Mathlib.Omega.{arith}
use borrow.Author.Tests.{eqb-true, eqb-false, ltb-true}
use lib.Dec.{eqb, ltb, lit<}
use lib.ListN.{get_or}
use Rattle.refusal.specs.declared.Refusal.TheVariants as why
use Rattle.text_line.specs.Hex.{num_at}
use Rattle.text_line.specs.Text.{line_at}
use Rattle.text_line.specs.Exactly.{IsLine, NoLine}
use Rattle.text_line.specs.declared.Line.{Line}
use Rattle.text_line.specs.declared.Line.TheVariants.{Digits, Bad, End}
use Rattle.text_line.proofs.Exactly.{line_one, all_lines_exactly}
use Rattle.text_frame.specs.Frames.{wrong_length, sized, header_of, symbol_of, production_of, equation_of, node_of, load_of, replace_of, dump_of, corrections_of, correction_of, kind_of, frame_of, line_after, step_of, frame_at}
use Rattle.text_frame.specs.Text.{rule_type, change_type, type_of}
use Rattle.text_frame.specs.Exactly.{children_at, Fields, header, symbol, production, equation, node, load, replace, dump, corrections, correction, IsFrame, Astray, ended as text-ended, other as another, Finds, over, by13, by14, frame, FrameExactly}
use Rattle.text_frame.specs.declared.Step.{Step}
use Rattle.text_frame.specs.declared.Frame.{Frame}
use Rattle.text_frame.specs.declared.Frame.TheVariants.{Rule, Node, Point, Change, Dump, Refused, Over}
use Rattle.text_frame.specs.declared.Rule as rule
use Rattle.text_frame.specs.declared.Rule.TheVariants.{Header, Symbol, Production, Equation}
use Rattle.text_frame.specs.declared.Change as change
use Rattle.text_frame.specs.declared.Change.TheVariants.{Load, Replace, Corrections}

-- ---- what the table of frames says of each type

-- the right length of a type; 0 where there is no such type
abbrev right_length : List ℕ → ℕ → ℕ → ℕ
right_length s place type = get_or (0 ∷ 6 ∷ 6 ∷ (6 + 2 * num_at 2 s (place + 4)) ∷ 28 ∷ 20 ∷ 6 ∷ 10 ∷ 2 ∷ 4 ∷ 0 ∷ 10 ∷ []) type 0

-- and its frame
abbrev frame_by : List ℕ → ℕ → ℕ → Frame
frame_by s place type = get_or
    (Over ∷ Rule (Header (num_at 2 s (place + 2)) (num_at 2 s (place + 4))) ∷ Rule (Symbol (num_at 2 s (place + 2)) (num_at 2 s (place + 4)))
    ∷ Rule (Production (num_at 2 s (place + 2)) (num_at 2 s (place + 4)) (children_at s place (num_at 2 s (place + 4))))
    ∷ Rule (Equation (num_at 2 s (place + 2)) (record { position = num_at 2 s (place + 4); index = num_at 2 s (place + 6) }) (record { position = num_at 2 s (place + 8); index = num_at 2 s (place + 10) }) (num_at 16 s (place + 12)))
    ∷ Node (num_at 2 s (place + 2)) (num_at 16 s (place + 4)) ∷ Change (Load (num_at 4 s (place + 2))) ∷ Change (Replace (num_at 4 s (place + 2)) (num_at 4 s (place + 6))) ∷ Dump
    ∷ Change (Corrections (num_at 2 s (place + 2))) ∷ Over ∷ Point (num_at 4 s (place + 2)) (num_at 4 s (place + 6)) ∷ []) type Over

module _ {s : List ℕ} {place : ℕ} where
  pub right_length_lem : {f : Frame} {type n : ℕ} → Fields s place f type n → n ≡ right_length s place type
  right_length_lem header = refl
  right_length_lem symbol = refl
  right_length_lem production = refl
  right_length_lem equation = refl
  right_length_lem node = refl
  right_length_lem load = refl
  right_length_lem replace = refl
  right_length_lem dump = refl
  right_length_lem corrections = refl
  right_length_lem correction = refl

  right_frame : {f : Frame} {type n : ℕ} → Fields s place f type n → f ≡ frame_by s place type
  right_frame header = refl
  right_frame symbol = refl
  right_frame production = refl
  right_frame equation = refl
  right_frame node = refl
  right_frame load = refl
  right_frame replace = refl
  right_frame dump = refl
  right_frame corrections = refl
  right_frame correction = refl

-- ---- the frames of that table by their groups

pub data Grouped : Frame → ℕ → Type 0 where
  a_rule : (r : rule.Rule) → Grouped (Rule r) (rule_type r)
  a_node : (p o : ℕ) → Grouped (Node p o) 5
  a_point : (r n : ℕ) → Grouped (Point r n) 11
  a_change : (c : change.Change) → Grouped (Change c) (change_type c)
  a_dump : Grouped Dump 8

pub grouped : {s : List ℕ} {place : ℕ} {f : Frame} {type n : ℕ} → Fields s place f type n → Grouped f type
grouped header = a_rule _
grouped symbol = a_rule _
grouped production = a_rule _
grouped equation = a_rule _
grouped node = a_node _ _
grouped load = a_change _
grouped replace = a_change _
grouped dump = a_dump
grouped corrections = a_change _
grouped correction = a_point _ _

pub grouped_type : {f : Frame} {type : ℕ} → Grouped f type → type_of f ≡ type
grouped_type (a_rule r) = refl
grouped_type (a_node p o) = refl
grouped_type (a_point r n) = refl
grouped_type (a_change c) = refl
grouped_type a_dump = refl

-- the types of a table's frames are 1 to 4, and those of changes are others
pub rule_type_lem : (r : rule.Rule) → (0 < rule_type r) × (rule_type r < 5)
rule_type_lem (Header a b) = (lit< tt, lit< tt)
rule_type_lem (Symbol a b) = (lit< tt, lit< tt)
rule_type_lem (Production a b c) = (lit< tt, lit< tt)
rule_type_lem (Equation a b c d) = (lit< tt, lit< tt)

pub change_type_lem : (c : change.Change) → (5 < change_type c) × (change_type c < 256)
change_type_lem (Load a) = (lit< tt, lit< tt)
change_type_lem (Replace a b) = (lit< tt, lit< tt)
change_type_lem (Corrections a) = (lit< tt, lit< tt)

-- none of them is the text's end
grouped_some : {f : Frame} {type : ℕ} → Grouped f type → f ≡ Over → ⊥
grouped_some (a_rule r) e = let z : ◌≡◌ {A = ℕ} 0 1 = cc in omega arith
grouped_some (a_node p o) e = let z : ◌≡◌ {A = ℕ} 0 1 = cc in omega arith
grouped_some (a_point r n) e = let z : ◌≡◌ {A = ℕ} 0 1 = cc in omega arith
grouped_some (a_change c) e = let z : ◌≡◌ {A = ℕ} 0 1 = cc in omega arith
grouped_some a_dump e = let z : ◌≡◌ {A = ℕ} 0 1 = cc in omega arith

-- ---- the frame that a line's digits make is one of the table, or none of the table fits

module _ (s : List ℕ) (place n line : ℕ) where
  abbrev first : ℕ
  first = num_at 2 s place

  data Made (g : Frame) : Type 0 where
    found : (f : Frame) (type : ℕ) → first ≡ type → Fields s place f type n → g ≡ f → Made g
    wrong : ((f : Frame) (type : ℕ) → first ≡ type → Fields s place f type n → ⊥) → g ≡ wrong_length line → Made g

  either : (b : Bool) (x y : Frame) → (b ≡ true → Made x) → (b ≡ false → Made y) → Made (cond b x y)
  either true x y g h = g refl
  either false x y g h = h refl

  -- a line of a type with another length than the right one
  misfit : (type : ℕ) → first ≡ type → (n ≡ right_length s place type → ⊥) → Made (wrong_length line)
  misfit type e h = wrong (λ f other d w. h (right_length_lem w ∙ ap (right_length s place) (sym d ∙ e))) refl

  of_type : (type : ℕ) (f : Frame) → first ≡ type → (n ≡ right_length s place type → Fields s place f type n) → Made (sized n (right_length s place type) line f)
  of_type type f e g =
      either (eqb n (right_length s place type)) f (wrong_length line) (λ h. found f type e (g (eqb-true n (right_length s place type) h)) refl)
      (λ h. misfit type e (eqb-false n (right_length s place type) h))

  made_production : first ≡ 3 → Made (production_of s place n line)
  unfolding production_of
  made_production e =
      either (ltb n 6) _ _ (λ h. misfit 3 e (λ d. omega (arith, ltb-true n 6 h))) (λ h. of_type 3 _ e (λ d. rw d production))

  -- a line of no type that there is
  unlisted : {f : Frame} {type m : ℕ} → Fields s place f type m → first ≡ type → eqb first 1 ≡ false → eqb first 2 ≡ false → eqb first 3 ≡ false → eqb first 4 ≡ false → eqb first 5 ≡ false → eqb first 6 ≡ false → eqb first 7 ≡ false → eqb first 8 ≡ false → eqb first 9 ≡ false → eqb first 11 ≡ false → ⊥
  unlisted header e n1 n2 n3 n4 n5 n6 n7 n8 n9 n11 = eqb-false first 1 n1 e
  unlisted symbol e n1 n2 n3 n4 n5 n6 n7 n8 n9 n11 = eqb-false first 2 n2 e
  unlisted production e n1 n2 n3 n4 n5 n6 n7 n8 n9 n11 = eqb-false first 3 n3 e
  unlisted equation e n1 n2 n3 n4 n5 n6 n7 n8 n9 n11 = eqb-false first 4 n4 e
  unlisted node e n1 n2 n3 n4 n5 n6 n7 n8 n9 n11 = eqb-false first 5 n5 e
  unlisted load e n1 n2 n3 n4 n5 n6 n7 n8 n9 n11 = eqb-false first 6 n6 e
  unlisted replace e n1 n2 n3 n4 n5 n6 n7 n8 n9 n11 = eqb-false first 7 n7 e
  unlisted dump e n1 n2 n3 n4 n5 n6 n7 n8 n9 n11 = eqb-false first 8 n8 e
  unlisted corrections e n1 n2 n3 n4 n5 n6 n7 n8 n9 n11 = eqb-false first 9 n9 e
  unlisted correction e n1 n2 n3 n4 n5 n6 n7 n8 n9 n11 = eqb-false first 11 n11 e

  made : Made (frame_of s place n line)
  unfolding frame_of kind_of header_of symbol_of equation_of node_of load_of replace_of dump_of corrections_of correction_of
  made =
      either (eqb first 1) _ _ (λ e. of_type 1 _ (eqb-true first 1 e) (λ d. rw d header)) (λ n1. either (eqb first 2) _ _ (λ e. of_type 2 _ (eqb-true first 2 e) (λ d. rw d symbol)) (λ n2.
      either (eqb first 3) _ _ (λ e. made_production (eqb-true first 3 e)) (λ n3. either (eqb first 4) _ _ (λ e. of_type 4 _ (eqb-true first 4 e) (λ d. rw d equation)) (λ n4.
      either (eqb first 5) _ _ (λ e. of_type 5 _ (eqb-true first 5 e) (λ d. rw d node)) (λ n5. either (eqb first 6) _ _ (λ e. of_type 6 _ (eqb-true first 6 e) (λ d. rw d load)) (λ n6.
      either (eqb first 7) _ _ (λ e. of_type 7 _ (eqb-true first 7 e) (λ d. rw d replace)) (λ n7. either (eqb first 8) _ _ (λ e. of_type 8 _ (eqb-true first 8 e) (λ d. rw d dump)) (λ n8.
      either (eqb first 9) _ _ (λ e. of_type 9 _ (eqb-true first 9 e) (λ d. rw d corrections)) (λ n9. either (eqb first 11) _ _ (λ e. of_type 11 _ (eqb-true first 11 e) (λ d. rw d correction)) (λ n11.
      wrong (λ f type e w. unlisted w e n1 n2 n3 n4 n5 n6 n7 n8 n9 n11) refl))))))))))

pub never_over : (s : List ℕ) (place n line : ℕ) → frame_of s place n line ≡ Over → ⊥
never_over s place n line e = by_made (frame_of s place n line) (made s place n line) e
  where
    by_made : (g : Frame) → Made s place n line g → g ≡ Over → ⊥
    by_made g (found f type d w h) e = grouped_some (grouped w) (sym h ∙ e)
    by_made g (wrong d h) e = let z : ◌≡◌ {A = ℕ} 0 1 = cc in omega arith

-- ---- the frame at a place

module _ (s : List ℕ) (place line : ℕ) where
  finds_line : (n : ℕ) → IsLine s place n → (g : Frame) → Made s place n line g → Finds s place line (record { frame = g; place = place + (n + 1); line = line_after line })
  finds_line n l g (found f type e w d) = rw d (frame (record { line = l; begins = e; fields = w }))
  finds_line n l g (wrong h d) = rw d (by14 (record { line = l; none = λ f type w. h f type w.begins w.fields }))

  by_line : (l : Line) → line_at s place ≡ l → Finds s place line (step_of s place line l)
  by_line (Digits n) e = finds_line n (((all_lines_exactly s place).line n).0 e) (frame_of s place n line) (made s place n line)
  by_line Bad e = by13 ((all_lines_exactly s place).bad.0 e)
  by_line End e = over ((all_lines_exactly s place).over.0 e)

  finds : Finds s place line (frame_at s place line)
  unfolding frame_at
  finds = by_line (line_at s place) refl

  -- and back: what stands there leaves one answer
  step_is : (l : Line) → line_at s place ≡ l → frame_at s place line ≡ step_of s place line l
  unfolding frame_at
  step_is l e = ap (step_of s place line) e

  abbrev behind : ℕ → Frame → Step
  behind n f = record { frame = f; place = place + (n + 1); line = line_after line }

  frame_made : (n : ℕ) (g : Frame) → Made s place n line g → {f : Frame} {type : ℕ} → IsFrame s place f type n → g ≡ f
  frame_made n g (found h other e v d) w = d ∙ right_frame v ∙ ap (frame_by s place) (sym e ∙ w.begins) ∙ sym (right_frame w.fields)
  frame_made n g (wrong h d) {f} {type} w = absurd (h f type w.begins w.fields)

  finds_one : {a : Step} → Finds s place line a → a ≡ frame_at s place line
  finds_one (over h) = sym (step_is End ((all_lines_exactly s place).over.1 h))
  finds_one (by13 w) = sym (step_is Bad ((all_lines_exactly s place).bad.1 w))
  finds_one (by14 {n} w) = ap (behind n) (sym (no_frame (frame_of s place n line) (made s place n line))) ∙ sym (step_is (Digits n) (((all_lines_exactly s place).line n).1 w.line))
    where
      no_frame : (g : Frame) → Made s place n line g → g ≡ wrong_length line
      no_frame g (found f type e v d) = absurd (w.none f type (record { line = w.line; begins = e; fields = v }))
      no_frame g (wrong h d) = d
  finds_one (frame {f} {type} {n} w) = ap (behind n) (sym (frame_made n (frame_of s place n line) (made s place n line) w)) ∙ sym (step_is (Digits n) (((all_lines_exactly s place).line n).1 w.line))

pub frame_exactly : FrameExactly
frame_exactly s place line a = (λ e. rw e (finds s place line), finds_one s place line)

-- ---- where a frame of one type is expected: no line, none of that type, or one

pub data Expects (s : List ℕ) (place type : ℕ) : Type 0 where
  bad : NoLine s place → Expects s place type
  astray : Astray s place type → Expects s place type
  there : (f : Frame) (n : ℕ) → IsFrame s place f type n → Expects s place type

-- a frame that is none of the type: it is refused by 14 itself, the text is over, or it is one of another type
pub data Stray (line expected : ℕ) : Frame → Type 0 where
  refused : Stray line expected (Refused why.Frame line)
  ended : Stray line expected Over
  strange : {s : List ℕ} {place : ℕ} {f : Frame} {type n : ℕ} → Fields s place f type n → (type ≡ expected → ⊥) → Stray line expected f

module _ (s : List ℕ) (place line : ℕ) where
  by_type : {f : Frame} {type n : ℕ} (expected : ℕ) (b : Bool) → eqb type expected ≡ b → IsFrame s place f type n → Expects s place expected
  by_type {f} {type} {n} expected true e w = there f n (rw (eqb-true type expected e) at w)
  by_type {f} {type} {n} expected false e w = astray (another w.line (λ g m v. eqb-false type expected e (sym w.begins ∙ v.begins)))

  expects_of : {a : Step} (expected : ℕ) → Finds s place line a → Expects s place expected
  expects_of expected (over h) = astray (text-ended h)
  expects_of expected (by13 w) = bad w
  expects_of expected (by14 {n} w) = astray (another w.line (λ f m v. w.none f expected (rw (line_one v.line w.line) at v)))
  expects_of expected (frame {f} {type} {n} w) = by_type expected (eqb type expected) refl w

  pub expects : (expected : ℕ) → Expects s place expected
  expects expected = expects_of expected (finds s place line)

  -- what is found in each case
  pub found_bad : NoLine s place → frame_at s place line ≡ record { frame = Refused why.Line line; place = place; line = line }
  found_bad w = sym (finds_one s place line (by13 w))

  pub found_there : {f : Frame} {type n : ℕ} → IsFrame s place f type n → frame_at s place line ≡ record { frame = f; place = place + (n + 1); line = line_after line }
  found_there w = sym (finds_one s place line (frame w))

  stray_of : {a : Step} (expected : ℕ) → Finds s place line a → Astray s place expected → Stray line expected a.frame
  stray_of expected (over h) d = ended
  stray_of expected (by13 w) (text-ended h) = absurd (omega (arith, w.some))
  stray_of expected (by13 w) (another {n} l h) = absurd (w.none n l)
  stray_of expected (by14 w) d = refused
  stray_of expected (frame {f} {type} {n} w) (text-ended h) = absurd (omega (arith, w.line.inside))
  stray_of expected (frame {f} {type} {n} w) (another l h) = strange w.fields (λ e. h f n (rw e at w))

  pub found_stray : (expected : ℕ) → Astray s place expected → Stray line expected (frame_at s place line).frame
  found_stray expected d = stray_of expected (finds s place line) d
