-- The ranked circles of a graph: none is empty, each has its least instance first, and a slot is a member exactly where that is its label. Assumes nothing.
use mathlib.Core.Path.{◌≡◌, refl, ap, sym, ◌∙◌, subst}
use mathlib.Core.Bool.{true, false≢true}
use mathlib.Core.Logic.{⊎_elim}
use mathlib.Core.List.{List, [], ◌∷◌}
use Prim.Native.Nat.{ℕ, zero, suc, ◌≤◌, ◌<◌}
use native.Mathlib.Nat.{le_of_suc-le-suc, not-suc-le-zero}
use native.Mathlib.Omega.{arith}
use borrow.Author.Tests.{eq-eqb, eqb-true}
use lib.Dec.{eqb}
use lib.ListN.{length, get_or, length-map}
use Rattle.circles.specs.Graph.{Graph, ◌∈◌, Closed, LeastOf, here}
use Rattle.circles.specs.Ranked.{circle_at, member, labels_of, label_at, circle_of, ranked}
use Rattle.circles.specs.Laws.{Rising, step, declared_count, Greedy, stop, take, circles_of}
use Rattle.circles.proofs.Lists.{bool_same, of_member, or_parts, some_long}
use Rattle.circles.proofs.Listing.{of_circle, labelled}
use Rattle.circles.proofs.Sequence.{circles, taken, ordered, joined_sum, at_map}
use Rattle.update_round.specs.Inner.Arranged.{Listed}

rising_least : {k : ℕ} (l : List ℕ) (y : ℕ) → Rising k l → member l y ≡ true → k ≤ y
rising_least [] y r m = absurd (false≢true m)
rising_least (x ∷ l) y (step h r) m = ⊎_elim (λ e. let q = eqb-true y x e in omega arith) (λ e. let q = rising_least l y r e in omega arith) (or_parts (eqb y x) (member l y) m)

-- a list that rises and has a member begins with its least
rising_first : {k : ℕ} (l : List ℕ) (y : ℕ) → Rising k l → member l y ≡ true → (member l (get_or l 0 0) ≡ true) × (get_or l 0 0 ≤ y)
rising_first [] y r m = absurd (false≢true m)
rising_first (x ∷ l) y (step h r) m =
    (rw (eq-eqb x x refl), ⊎_elim (λ e. let q = eqb-true y x e in omega arith) (λ e. let q = rising_least l y r e in omega arith) (or_parts (eqb y x) (member l y) m))

module _ (G : Graph) (C : Closed G) (few : G.size ≤ 65535) where
  abbrev label : ℕ → ℕ
  label = label_at (labels_of G)

  own_label : (l : ℕ) → G.declared l ≡ true → LeastOf G l l → label l ≡ l
  own_label l d f = let g = (circles G C).least l d in let a = g.least l f.within in let b = f.least (label l) g.within in omega arith

  greedy_at : {tk ls : List ℕ} → Greedy G tk ls → (i : ℕ) → i < length ls → (G.declared (get_or ls i 0) ≡ true) × (label (get_or ls i 0) ≡ get_or ls i 0)
  greedy_at (stop f) i h = absurd (not-suc-le-zero h)
  greedy_at (take l c m g) zero h = (c.declared, own_label l c.declared c.least)
  greedy_at (take l c m g) (suc i) h = greedy_at g i (le_of_suc-le-suc h)

  named : (R : List (List ℕ)) → R ≡ circles_of G (taken G C few).order → (i : ℕ) → i < length R → (l : ℕ) × (member (circle_at R i) l ≡ true)
  unfolding circles_of
  named R e i h =
      let ls = (taken G C few).order in
      let long : length R ≡ length ls = ap length e ∙ length-map ls (circle_of G (labels_of G)) in
      let b : i < length ls = omega arith in
      let w = greedy_at (taken G C few).greedy i b in
      let l = get_or ls i 0 in
      (l, of_member (subst (λ (c : List ℕ). l ∈ c) (sym (ap (λ (q : List (List ℕ)). circle_at q i) e ∙ at_map (circle_of G (labels_of G)) ls i b)) (of_circle G C l l (C.bound l w.0) w.1)))

  -- circle i, its first, and its labels
  module _ (i : ℕ) (h : i < length (ranked G)) where
    abbrev circle : List ℕ
    circle = circle_at (ranked G) i

    abbrev top : ℕ
    top = get_or circle 0 0

    some : (l : ℕ) × (member circle l ≡ true)
    some = named (ranked G) (taken G C few).circles i h

    top_in : member circle top ≡ true
    top_in = (rising_first circle some.0 ((ordered G C few).rising i) some.1).0

    top_declared : G.declared top ≡ true
    top_declared = (ordered G C few).declared i top top_in

    top_label : label top ≡ top
    top_label =
        let g = (circles G C).least top top_declared in
        let m = ((ordered G C few).together i top top_in (label top)).1 g.within in
        let a = (rising_first circle (label top) ((ordered G C few).rising i) m).1 in
        let b = g.least top (here, here) in
        omega arith

    placed : (y : ℕ) → y < G.size → member circle y ≡ eqb (label y) top
    placed y l =
        bool_same (member circle y) (eqb (label y) top)
        (λ m. let w = ((ordered G C few).together i top top_in y).0 m in
        eq-eqb (label y) top (sym (((circles G C).one top y top_declared ((ordered G C few).declared i y m)).1 w) ∙ top_label))
        (λ e. let q = eqb-true (label y) top e in
        let d = labelled G C y top (C.bound top top_declared) few q in
        ((ordered G C few).together i top top_in y).1 (((circles G C).one top y top_declared d).0 (top_label ∙ sym q)))

  pub listed : declared_count G ≤ 4092 → Listed G (ranked G)
  listed n = let o = ordered G C few in record {
    count = omega (arith, o.count);
    total = omega (arith, o.total, o.few, joined_sum (ranked G));
    some = λ i h. some_long (circle_at (ranked G) i) (some i h).0 (some i h).1;
    declared = o.declared;
    placed = placed;
  }
