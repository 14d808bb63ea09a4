-- Several points: what their tests say, and that one point gives the old answers. Assumes nothing.
use mathlib.Core.Path.{◌≡◌, sym, ap, ◌∙◌, fun_ext}
use mathlib.Core.Bool.{false, ◌&&◌, or-false}
use mathlib.Core.List.{List, [], ◌∷◌, map}
use Prim.Native.Nat.{ℕ, ◌+◌, ◌-◌, ◌≤◌, max, zero-le}
use native.Mathlib.Omega.{arith}
use lib.Dec.{ltb, leb}
use lib.ListN.{length, length-take}
use borrow.Author.Tests.{le-ltb}
use Rattle.refusal.specs.Orders.{refusal_by}
use Rattle.refusal.proofs.Orders.{or_zero, order_gives}
use Rattle.tree.specs.declared.Point.{Point}
use Rattle.tree.specs.Tree.{judge_nodes}
use Rattle.tree.specs.Replace.{part}
use Rattle.tree.specs.Replacement.{after}
use Rattle.tree.specs.Points.{Part, nodes_row, owns_row, leaving_row, coming_row, shifted_row, points_row, new_at, former_row, overlaps, Row, none, more}
use Rattle.tree.specs.PointLaws.{shift}
use Rattle.tree.proofs.Points.{shift_rest, step_law, step_ahead, step_some, step_after, all_rows}
use Rattle.wire.specs.Instances.{node_of}
use Rattle.wire.specs.Points.{slot_row}
use Rattle.update.specs.declared.Record.{Record}
use Rattle.update.specs.Memories.{Memory, nodes_of, owns_of, below_point, arranged, arranged_row, replaced, replaced_row}
use Rattle.update.specs.Refusals.{replace_refusal, miscounted, missing, nodes_left, part_refusal, parts_order, parts_refusal, points_refusal, Present}
use Rattle.update.specs.Within.{Apart, none as apart_none, more as Apart-more}
use Rattle.update.specs.Calls.{replace_call, points_call}
use Rattle.update.specs.Points.{OnePoint, PartsMean, AllAccepted}
use Rattle.update.proofs.Within.{short_means, beyond_means}
use Rattle.update.proofs.Asking.{present_means, apart_means, tests_row}
use Rattle.update.proofs.Refusing.{all_exactly, parts_right}
use Rattle.update.proofs.Ready.{tree_equal, tree_sound}

-- ---- one point

module _ (t : List ℕ) (m : Memory) (r : Record) (p : Part) where
  abbrev ns : List ℕ
  ns = nodes_of m r.nodes

  one_missing : missing r.nodes (p ∷ []) ≡ leb r.nodes p.point
  unfolding missing
  one_missing = or-false (leb r.nodes p.point)

  one_overlaps : overlaps t ns 0 (p ∷ []) ≡ false
  unfolding overlaps
  one_overlaps = rw (le-ltb p.point 0 zero-le)

  one_count : nodes_left t m r (p ∷ []) ≡ r.nodes - part t ns p.point + length p.nodes
  unfolding nodes_left leaving_row coming_row
  one_count = omega arith

  one_part : parts_refusal t ns (p ∷ []) ≡ part_refusal t ns p
  unfolding parts_refusal refusal_by
  one_part = or_zero (part_refusal t ns p)

  pub one_refusal : points_refusal t m r (p ∷ []) ≡ replace_refusal t m r p.point p.nodes p.owns
  unfolding points_refusal replace_refusal refusal_by miscounted nodes_row
  one_refusal = rw (one_missing, one_overlaps, one_count, one_part)

  one_points : points_row t ns (p ∷ []) ≡ record { node = p.point; count = length p.nodes } ∷ []
  unfolding shifted_row
  one_points = let e : p.point + 0 - 0 ≡ p.point = omega arith in rw e

  one_arranged : (x : ℕ) → arranged_row t ns (p ∷ []) m.sets x ≡ arranged t (nodes_row t ns (p ∷ [])) p.point (part t ns p.point) (length p.nodes) m.sets x
  unfolding arranged_row arranged new_at below_point slot_row former_row
  one_arranged x = rw (one_points, or-false (ltb p.point (node_of x) && ltb (node_of x) (p.point + length p.nodes)))

  one_memory : replaced_row t m r.nodes (p ∷ []) ≡ replaced t m r.nodes p.point p.nodes p.owns
  unfolding replaced_row replaced nodes_row owns_row
  one_memory = let e = fun_ext one_arranged in rw e

pub one_point : OnePoint
unfolding points_call replace_call
one_point t m r p = rw (one_refusal t m r p, one_count t m r p, one_points t m r p, one_memory t m r p)

-- ---- an accepted row

apart_shift : (k s n n' from from' : ℕ) (qs : List Point) → n' + k ≡ n + s → k ≤ from → from' + k ≡ from + s → Apart n from qs → Apart n' from' (map (shift k s) qs)
apart_shift k s n n' from from' [] a b c apart_none = apart_none
apart_shift k s n n' from from' (q ∷ qs) a b c (Apart-more d e f g) =
    Apart-more {from = from'} {q = shift k s q} {qs = map (shift k s) qs} (omega arith) (omega arith) (omega arith)
    (apart_shift k s n n' (q.node + max 1 q.count) (q.node + s - k + max 1 q.count) qs a (omega arith) (omega arith) g)

no_points : (t ns : List ℕ) (n from : ℕ) → Apart n from (points_row t ns [])
unfolding shifted_row
no_points t ns n from = apart_none

row_apart : (t ns : List ℕ) (w : ℕ) → judge_nodes t ns (w ∷ []) ≡ 0 → (from : ℕ) (ps : List Part) → Row t ns from ps → Apart (length (nodes_row t ns ps)) from (points_row t ns ps)
row_apart t ns w e from [] none = no_points t ns (length (nodes_row t ns [])) from
row_apart t ns w e from (p ∷ ps) (more l f g) =
    let k = part t ns p.point in
    let s = length p.nodes in
    let law = step_law t ns w e p ps f g in
    let a : part t (nodes_row t ns ps) p.point ≡ k = (step_ahead t ns w e p ps f g).part in
    let n : length (nodes_row t ns (p ∷ ps)) + k ≡ length (nodes_row t ns ps) + s = ap (λ (l : List ℕ). length l + k) (step_after t ns w e p ps f g) ∙ ap (λ (j : ℕ). length (after t (nodes_row t ns ps) p.nodes p.point) + j) (sym a) ∙ law.size in
    let z : p.point + k ≤ length (nodes_row t ns ps) = rw a at law.fits in
    let some = step_some t ns w e p ps f g in
    rw (shift_rest t ns p ps g)
    (Apart-more {q = record { node = p.point; count = s }} l (omega arith) (omega arith)
    (apart_shift k s (length (nodes_row t ns ps)) (length (nodes_row t ns (p ∷ ps))) (p.point + k) (p.point + max 1 s) (points_row t ns ps) n (omega arith) (omega arith)
    (row_apart t ns w e (p.point + k) ps g)))

pub accepted : AllAccepted
unfolding nodes_left
accepted t m r ps h =
    let c = ((all_exactly t m r).points ps).none.0 h in
    let roomy = (short_means m).0 c.0 in
    let limits = (beyond_means r).0 c.1.1.0 in
    let d = c.1.1.1.1 in
    let b = d.1.1.1.1 in
    let ns = nodes_of m r.nodes in
    let long : length ns ≡ r.nodes = omega (arith, length-take r.nodes m.productions, limits.nodes, roomy.productions) in
    let tree = tree_sound t ns (owns_of m r.nodes) 0 d.1.1.0 in
    let there : Present (length ns) ps = rw long d.1.1.1.0 in
    let row = tests_row t ns 0 ps ((present_means (length ns) ps).1 there) ((apart_means t ns ps there).1 b.0) b.1.1.0 in
    let law = all_rows t ns 0 0 ps tree row in
    let count : r.nodes - leaving_row t ns ps + coming_row ps ≡ length (nodes_row t ns ps) = omega (arith, law.size, law.fits) in
    record {
      tree = tree;
      owned = tree_equal t ns (owns_of m r.nodes) 0 d.1.1.0;
      row = row;
      some = d.0.0;
      few = d.0.1;
      count = count;
      nodes = b.1.0;
      free = b.1.1.1;
      apart = rw count (row_apart t ns 0 tree 0 ps row);
    }

-- ---- what the parts' number means

pub parts_mean : PartsMean
unfolding parts_refusal
parts_mean t ns ps = order_gives (parts_order t ns ps) (parts_right t ns ps)
