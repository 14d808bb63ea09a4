-- The parts of a replacement as a session reads them: by `07` as one, or cut by the counts that the points announce. Assumes nothing.
use mathlib.Core.Path.{◌≡◌, sym, ap, ◌∙◌, subst}
use mathlib.Core.List.Memᴰ
use mathlib.Core.List.{List, [], ◌∷◌}
use Prim.Native.Nat.{ℕ, zero, suc, ◌+◌, ◌≤◌, ◌<◌}
use native.Mathlib.Omega.{arith}
use lib.ListN.{length, take, drop}
use lib.Seq.{take_all}
use borrow.Author.Tests.{eq-eqb}
use Rattle.refusal.specs.Numbers.{number_of}
use Rattle.refusal.specs.declared.Refusal.{Refusal}
use Rattle.tree.specs.declared.Point.{Point}
use Rattle.tree.specs.Points.{Part}
use Rattle.tree.specs.Handed.{announced, cut_row, evenly, handed_row}
use Rattle.wire.specs.Laws.{Words}
use Rattle.update.specs.declared.Record.{Record}
use Rattle.update.specs.Memories.{Memory}
use Rattle.update.specs.Calls.{Said, Left, Opened, replace_call, points_call}
use Rattle.update.specs.Points.{WordsIn}
use Rattle.update.proofs.Several.{one_point}
use Rattle.update.proofs.Openings.{words_take, words_drop}
use Rattle.text_frame.specs.Frames.{frame_at}
use Rattle.text_frame.specs.declared.Frame.{Frame}
use Rattle.text_frame.specs.declared.Frame.TheVariants.{Rule, Node, Point as PointFrame, Change, Dump, Refused, Over}
use Rattle.text_frame.specs.Text.{type_of}
use Rattle.text_table.proofs.Passing.{frame_on}
use Rattle.text_tree.specs.Planting.{good, nodes_at}
use Rattle.text_tree.proofs.Trees.{nodes_forth}
use Rattle.text_tree.proofs.Planted.{even}
use Rattle.session.specs.Naming.{Named, named, unnamed, point_before, point_then, points_at}
use Rattle.text_frame.specs.Out.{refusal_text}
use Rattle.session.specs.Session.{opened_then, and_on, command, OneAsSeveral}
use Rattle.session.specs.Commands.{RowAt, one, several, RowStops, at_point, at_node}
use Rattle.session.proofs.Reading.{words_fit}

-- ---- points stand behind their command's frame

not_named : {refusal : Refusal} {at place line : ℕ} {qs : List Point} → unnamed refusal at ≡ named qs place line → ⊥
not_named h = let z : ◌≡◌ {A = ℕ} 0 1 = cc in absurd (omega arith)

-- where points are named the first line is a point's, and those behind it are named too
record Pointed (f : Frame) (rest : Named) (place line : ℕ) : Type 0 where
  type : 0 < type_of f
  others : List Point
  found : rest ≡ named others place line

before_found : (q : Point) (rest : Named) (qs : List Point) (place line : ℕ) → point_before q rest ≡ named qs place line → (ps : List Point) × (rest ≡ named ps place line)
before_found q (named ps place' line') qs place line h = (ps, let a : place' ≡ place = cc in let b : line' ≡ line = cc in rw (a, b))
before_found q (unnamed refusal at) qs place line h = absurd (not_named h)

first_point : (f : Frame) (at : ℕ) (rest : Named) {qs : List Point} {place line : ℕ} → point_then f at rest ≡ named qs place line → Pointed f rest place line
first_point (Rule a) at rest h = absurd (not_named h)
first_point (Node a b) at rest h = absurd (not_named h)
first_point (PointFrame a b) at rest {qs} {place} {line} h =
    let r = before_found (record { node = a; count = b }) rest qs place line h in record { type = omega arith; others = r.0; found = r.1 }
first_point (Change a) at rest h = absurd (not_named h)
first_point Dump at rest h = absurd (not_named h)
first_point (Refused a b) at rest h = absurd (not_named h)
first_point Over at rest h = absurd (not_named h)

points_behind : (n : ℕ) (s : List ℕ) (place line : ℕ) {qs : List Point} {place' line' : ℕ} → points_at n s place line ≡ named qs place' line' → place ≤ place'
unfolding points_at
points_behind zero s place line {place' = place'} h = let e : place ≡ place' = cc in omega arith
points_behind (suc n) s place line h =
    let p = first_point (frame_at s place line).frame line (points_at n s (frame_at s place line).place (frame_at s place line).line) h in
    omega (arith, frame_on s place line p.type, points_behind n s (frame_at s place line).place (frame_at s place line).line p.found)

-- ---- parts

words_in : (qs : List Point) (ns owns : List ℕ) → Words owns → WordsIn (cut_row qs ns owns)
unfolding cut_row
words_in [] ns owns w p i = elim i [ ]
words_in (q ∷ qs) ns owns w p (Memᴰ.head e) = subst (λ (k : Part). Words k.owns) (sym e) (words_take q.count owns w)
words_in (q ∷ qs) ns owns w p (Memᴰ.tail i) = words_in qs (drop q.count ns) (drop q.count owns) (words_drop q.count owns w) p i

-- as many nodes are read as the points announce, so that they are cut
cut_handed : (s : List ℕ) (qs : List Point) (place line : ℕ) (new new_owns : List ℕ) (place' line' : ℕ) → nodes_at (announced qs) s place line ≡ good new new_owns place' line'
    → handed_row qs new new_owns ≡ cut_row qs new new_owns
unfolding handed_row evenly
cut_handed s qs place line new new_owns place' line' h =
    let w = nodes_forth (announced qs) s place line new new_owns place' line' h in
    let a : length new ≡ announced qs = w.count in
    let b : length new_owns ≡ announced qs = sym (even new new_owns w.fit) ∙ a in
    rw (eq-eqb (length new) (announced qs) a, eq-eqb (length new_owns) (announced qs) b)

-- a row stands behind its frame, and its own sets are words
pub row_behind : {s : List ℕ} {place line place' line' : ℕ} {ps : List Part} → RowAt s place line ps place' line' → WordsIn ps × (place < place')
row_behind {s} {place} {line} {place'} {line'} (one {new = new} {new_owns} point c) =
    let y : 0 < type_of (frame_at s place line).frame = rw c.frame (omega arith) in
    let w = nodes_forth c.count s (frame_at s place line).place (frame_at s place line).line new new_owns place' line' c.found in
    (only (words_fit new new_owns w.fit), omega (arith, frame_on s place line y, w.behind))
  where
    only : {p : Part} → Words p.owns → WordsIn (p ∷ [])
    only w q (Memᴰ.head e) = subst (λ (k : Part). Words k.owns) (sym e) w
    only w q (Memᴰ.tail i) = elim i [ ]
row_behind {s} {place} {line} {place'} {line'} (several {count = count} {place₁} {line₁} {qs = qs} {new} {new_owns} e f g) =
    let y : 0 < type_of (frame_at s place line).frame = rw e (omega arith) in
    let w = nodes_forth (announced qs) s place₁ line₁ new new_owns place' line' g in (
      words_in qs new new_owns (words_fit new new_owns w.fit),
      omega (arith, frame_on s place line y, points_behind count s (frame_at s place line).place (frame_at s place line).line f, w.behind),
    )

-- ---- a row, as the definition of a session tells it

pub row_here : {s : List ℕ} (t : List ℕ) {place line place' line' : ℕ} {ps : List Part} (r : Record) (m : Memory) (go : ℕ → ℕ → Record → Memory → List ℕ) → RowAt s place line ps place' line'
    → command s t (frame_at s place line).frame line (frame_at s place line).place (frame_at s place line).line r m go
    ≡ and_on (opened_then line t (points_call t m r ps)) place' line' go
row_here t {line = line} {place'} {line'} r m go (one {new = new} {new_owns} point c) =
    rw (c.frame, c.found) (ap (λ (l : Left (Said Opened)). and_on (opened_then line t l) place' line' go)
    (sym (one_point t m r (record { point = point; nodes = new; owns = new_owns }))))
row_here {s} t {line = line} {place'} {line'} r m go (several {place₁ = place₁} {line₁} {qs = qs} {new} {new_owns} e f g) =
    rw (e, f, g) (ap (λ (ps : List Part). and_on (opened_then line t (points_call t m r ps)) place' line' go) (cut_handed s qs place₁ line₁ new new_owns place' line' g))

pub row_stops : {s : List ℕ} (t : List ℕ) {place line at : ℕ} {refusal : Refusal} (r : Record) (m : Memory) (go : ℕ → ℕ → Record → Memory → List ℕ) → RowStops s place line refusal at
    → refusal_text (number_of refusal) at ≡ command s t (frame_at s place line).frame line (frame_at s place line).place (frame_at s place line).line r m go
row_stops t r m go (one point c) = rw (c.frame, c.found)
row_stops t r m go (at_point e f) = rw (e, f)
row_stops t r m go (at_node e f g) = rw (e, f, g)

-- ---- one point by either frame

one_cut : (point : ℕ) (new new_owns : List ℕ) (count : ℕ) → length new ≡ count → length new_owns ≡ count
    → handed_row (record { node = point; count = count } ∷ []) new new_owns ≡ record { point = point; nodes = new; owns = new_owns } ∷ []
unfolding handed_row evenly announced cut_row
one_cut point new new_owns count a b =
    let x : count + 0 ≡ count = omega arith in
    let y : take count new ≡ new = take_all count new (omega (arith, a)) in
    let z : take count new_owns ≡ new_owns = take_all count new_owns (omega (arith, b)) in
    rw (x, eq-eqb (length new) count a, eq-eqb (length new_owns) count b, y, z)

pub one_as_several : OneAsSeveral
unfolding announced
one_as_several t s s' line place next place' next' place₁ next₁ r m point count ps os end end' last last' p a b =
    let w = nodes_forth count s place next ps os end last a in
    let x : count + 0 ≡ count = omega arith in
    let c : nodes_at (count + 0) s' place₁ next₁ ≡ good ps os end' last' = rw x b in
    let h = one_cut point ps os count w.count (sym (even ps os w.fit) ∙ w.count) in
    let e : points_call t m r (handed_row (record { node = point; count = count } ∷ []) ps os) ≡ replace_call t m r point ps os =
    ap (points_call t m r) h ∙ one_point t m r (record { point = point; nodes = ps; owns = os }) in
    (opened_then line t (replace_call t m r point ps os), λ go. rw a, λ go. rw (p, c, e))
