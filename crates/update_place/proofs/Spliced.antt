-- What is spliced by the cuts is the tree of the row: the joint `Splicing` gives all that the splicing functions ask. Assumes nothing.
use mathlib.Core.Path.{◌≡◌, refl, ap, sym, ◌∙◌}
use mathlib.Core.List.{List, [], ◌∷◌, ◌++◌, map}
use Prim.Native.Nat.{ℕ, suc, ◌+◌, ◌-◌, ◌≤◌, ◌<◌}
use native.Mathlib.Omega.{arith}
use borrow.Author.Tests.{eqb-true}
use lib.Dec.{eqb}
use lib.ListN.{length, get_or, take, drop, length-drop}
use lib.Seq.{length-take-le}
use Rattle.table.specs.Words.{left_of}
use Rattle.tree.specs.declared.Point.{Point}
use Rattle.tree.specs.declared.Places.{Places}
use Rattle.tree.specs.declared.Cut.{Cut}
use Rattle.tree.specs.declared.Cuts.{Cuts}
use Rattle.tree.specs.Tree.{judge_nodes}
use Rattle.tree.specs.Replace.{part}
use Rattle.tree.specs.Points.{point_at, nodes_row, owns_row, spliced_row, Row, none, more}
use Rattle.tree.specs.PointLaws.{RowLaw}
use Rattle.tree.specs.Handed.{named_points, announced, cut_row, evenly, cut_at, cut_of}
use Rattle.tree.proofs.Exchange.{sound_some}
use Rattle.tree.proofs.Replace.{replacement}
use Rattle.tree.proofs.Points.{some_part, all_rows, and_both}
use Rattle.update_place.specs.Inner.Pieces.{spliced, cuts_from, named_cuts, pieces, spliced_by, Fits, none, more, Fitting, Apart}
use Rattle.update_place.specs.Inner.Splicing.{Splicing}

module _ (t ns : List ℕ) where
  -- the cuts, as code reads them, are those of the points
  cuts_are : (l : List Cut) (qs : List Point) (i : ℕ) → ((j : ℕ) → j < length qs → cut_at l (i + j) ≡ cut_of t ns (point_at qs j)) → cuts_from i (length qs) l ≡ map (cut_of t ns) qs
  unfolding cuts_from
  cuts_are l [] i h = refl
  cuts_are l (q ∷ qs) i h =
      let z : i + 0 ≡ i = omega arith in
      let e : cut_at l i ≡ cut_of t ns q = rw z at (h 0 (omega arith)) in
      let f = cuts_are l qs (suc i) (λ j b. let g : i + suc j ≡ suc i + j = omega arith in rw g at (h (suc j) (omega arith))) in
      rw (e, f)

  nodes_pieces : (qs : List Point) (new new_owns l : List ℕ) (at : ℕ) → spliced (pieces (map (cut_of t ns) qs) new) l at ≡ spliced_row t ns (λ p. p.nodes) l at (cut_row qs new new_owns)
  unfolding spliced pieces spliced_row cut_row
  nodes_pieces [] new new_owns l at = refl
  nodes_pieces (q ∷ qs) new new_owns l at =
      ap (λ (x : List ℕ). take (q.node - at) (drop at l) ++ (take q.count new ++ x)) (nodes_pieces qs (drop q.count new) (drop q.count new_owns) l (q.node + part t ns q.node))

  owns_pieces : (qs : List Point) (new new_owns l : List ℕ) (at : ℕ) → spliced (pieces (map (cut_of t ns) qs) new_owns) l at ≡ spliced_row t ns (λ p. p.owns) l at (cut_row qs new new_owns)
  unfolding spliced pieces spliced_row cut_row
  owns_pieces [] new new_owns l at = refl
  owns_pieces (q ∷ qs) new new_owns l at =
      ap (λ (x : List ℕ). take (q.node - at) (drop at l) ++ (take q.count new_owns ++ x)) (owns_pieces qs (drop q.count new) (drop q.count new_owns) l (q.node + part t ns q.node))

  -- points that rise and lie apart, with parts that came in full
  row_fits : judge_nodes t ns (0 ∷ []) ≡ 0 → (qs : List Point) (new new_owns : List ℕ) («from» left : ℕ) → «from» ≤ length ns → announced qs ≤ length new → announced qs ≤ left
      → Row t ns «from» (cut_row qs new new_owns) → Fits (length ns) «from» left (map (cut_of t ns) qs)
  unfolding cut_row announced
  row_fits tree [] new new_owns «from» left h a b none = none h
  row_fits tree (q ∷ qs) new new_owns «from» left h a b (more l f g) =
      let r = replacement t ns (take q.count new) 0 q.node tree f.inside f.sound in
      let some = sound_some t (take q.count new) (left_of t (get_or ns q.node 0)) f.sound in
      let e = length-take-le q.count new (omega arith) in
      more {left = left} {c = cut_of t ns q} l (some_part t ns q.node f.inside) r.fits (omega arith) (omega arith)
      (row_fits tree qs (drop q.count new) (drop q.count new_owns) (q.node + part t ns q.node) (left - q.count) r.fits (omega (arith, length-drop q.count new)) (omega arith) g)

module _ {t ns owns : List ℕ} {points : Places} {cs : Cuts} {new new_owns : List ℕ} (s : Splicing t ns owns points cs new new_owns) where
  pub splicing_cuts : named_cuts cs ≡ map (cut_of t ns) (named_points points)
  splicing_cuts =
      ap (λ (n : ℕ). cuts_from 0 n cs.cuts) s.cutting.count
      ∙ cuts_are t ns cs.cuts (named_points points) 0 (λ j b. let z : 0 + j ≡ j = omega arith in rw z (s.cutting.each j b))

  pub splicing_even : (length new ≡ announced (named_points points)) × (length new_owns ≡ announced (named_points points))
  unfolding evenly
  splicing_even =
      let w = and_both (eqb (length new) (announced (named_points points))) (eqb (length new_owns) (announced (named_points points))) s.even in
      (eqb-true (length new) (announced (named_points points)) w.0, eqb-true (length new_owns) (announced (named_points points)) w.1)

  pub splicing_law : RowLaw t ns 0 (cut_row (named_points points) new new_owns)
  splicing_law = all_rows t ns 0 0 (cut_row (named_points points) new new_owns) s.tree s.row

  -- the splicing functions may be called
  pub splicing_fits : Fitting cs (length ns) (length new)
  splicing_fits =
      let e = splicing_even in
      record {
        few = omega (arith, s.cutting.count, s.cutting.few);
        fits = rw splicing_cuts (row_fits t ns s.tree (named_points points) new new_owns 0 (length new) (omega arith) (omega arith) (omega arith) s.row);
      }

  pub splicing_owns_fit : Fitting cs (length ns) (length new_owns)
  splicing_owns_fit =
      let e : length new_owns ≡ length new = splicing_even.1 ∙ sym splicing_even.0 in
      rw e splicing_fits

  pub splicing_apart : Apart cs (length ns)
  splicing_apart = record { came = length new; fitting = splicing_fits }

  -- and give the nodes and own sets of the row
  pub splicing_nodes : spliced_by cs new ns ≡ nodes_row t ns (cut_row (named_points points) new new_owns)
  splicing_nodes =
      ap (λ (c : List Cut). spliced (pieces c new) ns 0) splicing_cuts
      ∙ nodes_pieces t ns (named_points points) new new_owns ns 0
      ∙ sym splicing_law.spliced

  pub splicing_owns : spliced_by cs new_owns owns ≡ owns_row t ns owns (cut_row (named_points points) new new_owns)
  splicing_owns =
      ap (λ (c : List Cut). spliced (pieces c new_owns) owns 0) splicing_cuts
      ∙ owns_pieces t ns (named_points points) new new_owns owns 0
      ∙ sym (splicing_law.spliced_owns owns s.owned)
