-- Two corrections in either order, by the laws of a row of both. Assumes nothing.
use Prim.Native.Nat.{ℕ, ◌+◌, ◌-◌, ◌≤◌, ◌<◌}
use mathlib.Core.Path.{◌≡◌, refl, ap, sym, ◌∙◌}
use mathlib.Core.List.{List, [], ◌∷◌, ◌++◌, append_assoc}
use mathlib.Core.Logic.{◌⊎◌, inl, inr, ⊎_elim, ◌↔◌}
use lib.ListN.{length, get_or, take, drop}
use lib.Seq.{length-take-le, take-append-add, drop-append-add, drop-drop}
use borrow.Author.Tests.{lt-ltb, le-ltb}
use native.Mathlib.Decide.{dec_le}
use native.Mathlib.Omega.{arith}
use Rattle.table.specs.Words.{left_of}
use Rattle.tree.specs.Tree.{judge_nodes, span_end}
use Rattle.tree.specs.Moved.{Moved, stays, shifts, behind}
use Rattle.tree.specs.Replace.{exchanged, part}
use Rattle.tree.specs.Replacement.{after, Replacement}
use Rattle.tree.specs.Points.{Part, nodes_row, owns_row, spliced_row, FitsPart, Row, none, more}
use Rattle.tree.specs.EitherOrder.{NeitherInside, moved_by, EachOneShifts, SameNode, AllSameNodes, FitsThere, nodes_then, owns_then, EitherOrder}
use Rattle.tree.proofs.Exchange.{sound_some}
use Rattle.tree.proofs.Replace.{replacement}
use Rattle.tree.proofs.Points.{some_part, step_keeps, all_rows}

-- ---- p stands before q, or q before p

sides : {t ns : List ℕ} {p q : ℕ} → NeitherInside t ns p q → (p + part t ns p ≤ q) ⊎ ((q < p) × (q + part t ns q ≤ p))
sides {t} {ns} {p} {q} n = elim (dec_le p q) [
  | yes h ↦ inl (elim (dec_le (p + part t ns p) q) [ yes i ↦ i | no i ↦ absurd (n.second (record { from = h; before = omega arith })) ])
  | no h ↦ inr (omega arith, elim (dec_le (q + part t ns q) p) [ yes i ↦ i | no i ↦ absurd (n.first (record { from = omega arith; before = omega arith })) ])
]

pub turned : {t ns : List ℕ} {p q : ℕ} → NeitherInside t ns p q → NeitherInside t ns q p
turned n = record { second = n.first; first = n.second }

module _ (t ns : List ℕ) (p : Part) (q : ℕ) where
  moved_behind : p.point < q → moved_by t ns p q ≡ q + length p.nodes - part t ns p.point
  unfolding moved_by
  moved_behind h = rw (lt-ltb p.point q h)

  moved_before : q ≤ p.point → moved_by t ns p q ≡ q
  unfolding moved_by
  moved_before h = rw (le-ltb p.point q h)

pub each_one_shifts : EachOneShifts
each_one_shifts t ns p q = record {
  before = λ h. (moved_behind t ns p q.point h, moved_before t ns q p.point (omega arith));
  behind = λ h. (moved_before t ns p q.point (omega arith), moved_behind t ns q p.point h);
}

-- ---- it is the same node

module _ (t ns : List ℕ) (w : ℕ) (p : Part) (q : ℕ) (e : judge_nodes t ns (w ∷ []) ≡ 0) (f : FitsPart t ns p) where
  law : Replacement t ns p.nodes w p.point
  law = replacement t ns p.nodes w p.point e f.inside f.sound

  -- at q' in the tree that p's part leaves
  record Found (q' : ℕ) : Type 0 where
    inside : (q < length ns) ↔ (q' < length (after t ns p.nodes p.point))
    node : get_or (after t ns p.nodes p.point) q' 0 ≡ get_or ns q 0
    part : part t (after t ns p.nodes p.point) q' ≡ part t ns q

  found_behind : p.point + part t ns p.point ≤ q → Found (q + length p.nodes - part t ns p.point)
  unfolding span_end part
  found_behind h = record {
    inside = (λ i. omega (arith, law.size, law.fits), λ i. omega (arith, law.size, law.fits));
    node = sym (law.node (behind h (omega arith)));
    part = go (law.ends (shifts h (omega arith)));
  }
    where
      q' : ℕ
      q' = q + length p.nodes - part t ns p.point

      go : Moved p.point (part t ns p.point) (length p.nodes) (q + part t ns q) (q' + part t (after t ns p.nodes p.point) q')
          → part t (after t ns p.nodes p.point) q' ≡ part t ns q
      go (stays i g) = absurd (omega (arith, law.some))
      go (shifts i g) = omega arith

  -- before p's part nothing has changed
  found_before : q + part t ns q ≤ p.point → q < p.point → Found q
  found_before h b =
      let some = sound_some t p.nodes (left_of t (get_or ns p.point 0)) f.sound in
      let here : q < length ns = omega (arith, f.inside) in
      let a = step_keeps t ns ns w p.point p.nodes q law some (some_part t ns q here) h (record { inside = here; node = refl; part = refl }) in
      record { inside = (λ i. a.inside, λ i. here); node = a.node; part = a.part }

  same_at : (q' : ℕ) → moved_by t ns p q ≡ q' → Found q' → SameNode t ns p q
  unfolding nodes_row
  same_at q' h g = record { inside = rw h g.inside; node = rw h g.node; part = rw h g.part }

pub all_same_nodes : AllSameNodes
all_same_nodes t ns w p q e f n =
    ⊎_elim (λ h. same_at t ns w p q e f _ (moved_behind t ns p q (omega (arith, some_part t ns p.point f.inside))) (found_behind t ns w p q e f h))
    (λ h. same_at t ns w p q e f q (moved_before t ns p q (omega (arith, h.0))) (found_before t ns w p q e f h.1 h.0)) (sides n)

-- ---- two exchanges in a list, the second behind the first

exchanged_twice : (l a b : List ℕ) (p k q j : ℕ) → p + k ≤ q → q + j ≤ length l
    → exchanged (exchanged l p k a) (q + length a - k) j b ≡ take p l ++ (a ++ (take (q - (p + k)) (drop (p + k) l) ++ (b ++ drop (q + j) l)))
unfolding exchanged
exchanged_twice l a b p k q j h i =
    let x = take p l in
    let y = drop (p + k) l in
    let d = q - (p + k) in
    let n : length x ≡ p = length-take-le p l (omega arith) in
    let m : q + length a - k ≡ length x + (length a + d) = omega (arith, n) in
    let o : q + length a - k + j ≡ length x + (length a + (d + j)) = omega (arith, n) in
    let u : take (length x + (length a + d)) (x ++ (a ++ y)) ≡ x ++ (a ++ take d y) =
    take-append-add x (a ++ y) (length a + d) ∙ ap (λ (z : List ℕ). x ++ z) (take-append-add a y d) in
    let g : p + k + (d + j) ≡ q + j = omega arith in
    let v : drop (length x + (length a + (d + j))) (x ++ (a ++ y)) ≡ drop (q + j) l =
    drop-append-add x (a ++ y) (length a + (d + j)) ∙ drop-append-add a y (d + j) ∙ drop-drop (d + j) (p + k) l ∙ ap (λ (z : ℕ). drop z l) g in
    ap (λ (z : ℕ). take z (x ++ (a ++ y)) ++ (b ++ drop (q + length a - k + j) (x ++ (a ++ y)))) m
    ∙ ap (λ (z : ℕ). take (length x + (length a + d)) (x ++ (a ++ y)) ++ (b ++ drop z (x ++ (a ++ y)))) o
    ∙ rw (u, v) (append_assoc x (a ++ take d y) (b ++ drop (q + j) l) ∙ ap (λ (z : List ℕ). x ++ z) (append_assoc a (take d y) (b ++ drop (q + j) l)))

-- ---- in either order

module _ (t ns owns : List ℕ) (w : ℕ) (p q : Part) (e : judge_nodes t ns (w ∷ []) ≡ 0) (o : length owns ≡ length ns) (f : FitsPart t ns p) (g : FitsPart t ns q)
    (h : p.point + part t ns p.point ≤ q.point) where
  both : Row t ns 0 (p ∷ q ∷ [])
  both = more {from = 0} {p = p} (omega arith) f (more {from = p.point + part t ns p.point} {p = q} h g none)

  neither : NeitherInside t ns p.point q.point
  neither = record { second = λ i. omega (arith, i.before); first = λ i. omega (arith, i.from, some_part t ns p.point f.inside) }

  goes : moved_by t ns p q.point ≡ q.point + length p.nodes - part t ns p.point
  goes = moved_behind t ns p q.point (omega (arith, some_part t ns p.point f.inside))

  -- p's first, in the nodes or in the own sets: as from the first node to the last
  first_in : (l a b : List ℕ) → length l ≡ length ns → length a ≡ length p.nodes
      → exchanged (exchanged l p.point (part t ns p.point) a) (moved_by t ns p q.point) (part t (nodes_row t ns (p ∷ [])) (moved_by t ns p q.point)) b
      ≡ take p.point l ++ (a ++ (take (q.point - (p.point + part t ns p.point)) (drop (p.point + part t ns p.point) l) ++ (b ++ drop (q.point + part t ns q.point) l)))
  first_in l a b c d =
      let m : moved_by t ns p q.point ≡ q.point + length a - part t ns p.point = rw d goes in
      let i : q.point + part t ns q.point ≤ length l = rw c (replacement t ns q.nodes w q.point e g.inside g.sound).fits in
      ap (λ (k : ℕ). exchanged (exchanged l p.point (part t ns p.point) a) (moved_by t ns p q.point) k b) (all_same_nodes t ns w p q.point e f neither).part
      ∙ ap (λ (k : ℕ). exchanged (exchanged l p.point (part t ns p.point) a) k (part t ns q.point) b) m
      ∙ exchanged_twice l a b p.point (part t ns p.point) q.point (part t ns q.point) h i

  first_nodes : nodes_then t ns p q ≡ nodes_row t ns (p ∷ q ∷ [])
  unfolding nodes_row spliced_row
  first_nodes =
      let z : p.point - 0 ≡ p.point = omega arith in
      first_in ns p.nodes q.nodes refl refl ∙ sym (rw z at (all_rows t ns w 0 (p ∷ q ∷ []) e both).spliced)

  first_owns : owns_then t ns owns p q ≡ owns_row t ns owns (p ∷ q ∷ [])
  unfolding owns_row spliced_row
  first_owns =
      let z : p.point - 0 ≡ p.point = omega arith in
      first_in owns p.owns q.owns o f.owned ∙ sym (rw z at ((all_rows t ns w 0 (p ∷ q ∷ []) e both).spliced_owns owns o))

  -- q's first: p's is the first step of the row
  stands : moved_by t ns q p.point ≡ p.point
  stands = moved_before t ns q p.point (omega arith)

  keeps : part t (nodes_row t ns (q ∷ [])) (moved_by t ns q p.point) ≡ part t ns p.point
  keeps = (all_same_nodes t ns w q p.point e g (turned neither)).part

  second_nodes : nodes_then t ns q p ≡ nodes_row t ns (p ∷ q ∷ [])
  unfolding nodes_row
  second_nodes =
      ap (λ (k : ℕ). exchanged (nodes_row t ns (q ∷ [])) (moved_by t ns q p.point) k p.nodes) keeps
      ∙ ap (λ (k : ℕ). exchanged (nodes_row t ns (q ∷ [])) k (part t ns p.point) p.nodes) stands

  second_owns : owns_then t ns owns q p ≡ owns_row t ns owns (p ∷ q ∷ [])
  unfolding owns_row
  second_owns =
      ap (λ (k : ℕ). exchanged (owns_row t ns owns (q ∷ [])) (moved_by t ns q p.point) k p.owns) keeps
      ∙ ap (λ (k : ℕ). exchanged (owns_row t ns owns (q ∷ [])) k (part t ns p.point) p.owns) stands

pub either_order : EitherOrder
either_order t ns owns w p q e o f g n =
    ⊎_elim
    (λ h. record {
      nodes = first_nodes t ns owns w p q e o f g h ∙ sym (second_nodes t ns owns w p q e o f g h);
      owned = first_owns t ns owns w p q e o f g h ∙ sym (second_owns t ns owns w p q e o f g h);
      together = λ i. first_nodes t ns owns w p q e o f g h;
      owned_together = λ i. first_owns t ns owns w p q e o f g h;
    })
    (λ h. record {
      nodes = second_nodes t ns owns w q p e o g f h.1 ∙ sym (first_nodes t ns owns w q p e o g f h.1);
      owned = second_owns t ns owns w q p e o g f h.1 ∙ sym (first_owns t ns owns w q p e o g f h.1);
      together = λ i. absurd (omega (arith, h.0));
      owned_together = λ i. absurd (omega (arith, h.0));
    }) (sides n)

pub fits_there : FitsThere
fits_there t ns w p q e f n =
    let s = all_same_nodes t ns w p q.point e f n in
    let d = s.node in (
      λ g. record { inside = s.inside.0 g.inside; sound = rw d g.sound; owned = g.owned },
      λ g. record { inside = s.inside.1 g.inside; sound = rw d at g.sound; owned = g.owned },
    )
