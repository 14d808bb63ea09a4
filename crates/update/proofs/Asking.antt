-- What the tests of several points say, and that parts which pass them are a row. Assumes nothing.
use mathlib.Core.Path.{◌≡◌, refl, sym}
use mathlib.Core.Bool.{Bool, true, false, ◌||◌, or-true, true≢false}
use mathlib.Core.Logic.{◌↔◌, inl, inr, ⊎_elim}
use mathlib.Core.List.{List, [], ◌∷◌}
use Prim.Native.Nat.{ℕ, zero, suc, ◌+◌, ◌≤◌, ◌<◌}
use native.Mathlib.Omega.{arith}
use lib.Dec.{ltb, leb, eqb}
use lib.ListN.{length, get_or}
use borrow.Author.Tests.{lt-ltb, le-ltb, ltb-true, ltb-false, le-leb, lt-leb, leb-true, leb-false, eq-eqb, eqb-true, eqb-false}
use Rattle.refusal.specs.Orders.{refusal_by}
use Rattle.table.specs.Words.{left_of}
use Rattle.refusal.proofs.Orders.{or_none}
use Rattle.tree.specs.Tree.{judge_tree}
use Rattle.tree.specs.Replace.{part}
use Rattle.tree.specs.Points.{Part, part_at, overlaps, Row, none, more}
use Rattle.tree.specs.PointLaws.{Overlap}
use Rattle.tree.proofs.Points.{overlaps_exactly}
use Rattle.circles.proofs.Lists.{or_parts}
use Rattle.climb.proofs.Lists.{either, or_false_is}
use Rattle.update.specs.Refusals.{miscounted, missing, part_refusal, parts_order, parts_refusal, Miscounted, Counted, Missing, Present, Separate}
use Rattle.update.proofs.Ready.{tree_equal, tree_sound}

-- ---- their number

pub miscounted_means : (ps : List Part) → (miscounted ps ≡ true) ↔ Miscounted ps
unfolding miscounted
miscounted_means ps = (λ h. ⊎_elim (λ a. inl (eqb-true (length ps) 0 a)) (λ a. inr (ltb-true 8 (length ps) a)) (or_parts _ _ h), back)
  where
    back : Miscounted ps → (eqb (length ps) 0 || ltb 8 (length ps)) ≡ true
    back (inl e) = rw (eq-eqb (length ps) 0 e)
    back (inr l) = rw (lt-ltb 8 (length ps) l) (or-true (eqb (length ps) 0))

pub counted_means : (ps : List Part) → (miscounted ps ≡ false) ↔ Counted ps
unfolding miscounted
counted_means ps = (to, from)
  where
    to : (eqb (length ps) 0 || ltb 8 (length ps)) ≡ false → Counted ps
    to e =
        let a = or_false_is e in
        let n : (length ps ≡ 0) → ⊥ = eqb-false (length ps) 0 a.0 in
        let l : length ps ≤ 8 = ltb-false 8 (length ps) a.1 in
        (omega arith, l)

    from : Counted ps → (eqb (length ps) 0 || ltb 8 (length ps)) ≡ false
    from c = ⊎_elim (λ (h : (eqb (length ps) 0 || ltb 8 (length ps)) ≡ true). absurd (⊎_elim
        (λ a. let e : length ps ≡ 0 = eqb-true (length ps) 0 a in omega (arith, c.0))
        (λ a. let l : 8 < length ps = ltb-true 8 (length ps) a in omega (arith, c.1)) (or_parts _ _ h)))
        (λ (h : (eqb (length ps) 0 || ltb 8 (length ps)) ≡ false). h) (either (eqb (length ps) 0 || ltb 8 (length ps)))

-- ---- whether they are nodes

missing_to : (nodes : ℕ) (ps : List Part) → missing nodes ps ≡ true → Missing nodes ps
unfolding missing
missing_to nodes [] h = absurd (true≢false (sym h))
missing_to nodes (p ∷ ps) h = ⊎_elim (λ a. (0, omega arith, leb-true nodes p.point a))
    (λ a. let r = missing_to nodes ps a in (suc r.0, omega (arith, r.1), r.2)) (or_parts (leb nodes p.point) _ h)

missing_from : (nodes : ℕ) (ps : List Part) (i : ℕ) → i < length ps → nodes ≤ (part_at ps i).point → missing nodes ps ≡ true
unfolding missing
missing_from nodes [] i b c = absurd (omega arith)
missing_from nodes (p ∷ ps) zero b c = rw (le-leb nodes p.point c)
missing_from nodes (p ∷ ps) (suc i) b c = rw (missing_from nodes ps i (omega arith) c) (or-true (leb nodes p.point))

pub missing_means : (nodes : ℕ) (ps : List Part) → (missing nodes ps ≡ true) ↔ Missing nodes ps
missing_means nodes ps = (missing_to nodes ps, λ h. missing_from nodes ps h.0 h.1 h.2)

-- a test that fails exactly where what it says is shut out
fails : {A : Type 0} (b : Bool) → (b ≡ true) ↔ A → (b ≡ false) ↔ (A → ⊥)
fails true e = (λ h. absurd (true≢false h), λ f. absurd (f (e.0 refl)))
fails false e = (λ h a. true≢false (sym (e.1 a)), λ f. refl)

pub present_means : (nodes : ℕ) (ps : List Part) → (missing nodes ps ≡ false) ↔ Present nodes ps
present_means nodes ps =
    let e = fails (missing nodes ps) (missing_means nodes ps) in (
      λ h i l. ⊎_elim (λ (b : leb nodes (part_at ps i).point ≡ true). absurd (e.0 h (i, l, leb-true nodes (part_at ps i).point b)))
          (λ (b : leb nodes (part_at ps i).point ≡ false). leb-false nodes (part_at ps i).point b) (either (leb nodes (part_at ps i).point)),
      λ f. e.1 (λ g. let l : (part_at ps g.0).point < nodes = f g.0 g.1 in omega (arith, g.2)),
    )

-- ---- whether they meet

module _ (t ns : List ℕ) (ps : List Part) (p : Present (length ns) ps) where
  pub overlap_means : (overlaps t ns 0 ps ≡ true) ↔ Overlap t ns ps
  overlap_means = overlaps_exactly t ns ps p

  pub apart_means : (overlaps t ns 0 ps ≡ false) ↔ Separate t ns ps
  apart_means = fails (overlaps t ns 0 ps) overlap_means

-- ---- parts that pass are a row

pub tests_row : (t ns : List ℕ) (from : ℕ) (ps : List Part) → missing (length ns) ps ≡ false → overlaps t ns from ps ≡ false → parts_refusal t ns ps ≡ 0 → Row t ns from ps
unfolding missing overlaps parts_refusal refusal_by
tests_row t ns from [] a b c = none
tests_row t ns from (p ∷ ps) a b c =
    let d = or_false_is a in
    let e = or_false_is b in
    let f = or_none (part_refusal t ns p) (refusal_by (parts_order t ns ps)) c in
    more (ltb-false p.point from e.0)
    (record {
      inside = leb-false (length ns) p.point d.0;
      sound = tree_sound t p.nodes p.owns (left_of t (get_or ns p.point 0)) f.0;
      owned = tree_equal t p.nodes p.owns (left_of t (get_or ns p.point 0)) f.0;
    })
    (tests_row t ns (p.point + part t ns p.point) ps d.1 e.1 f.1)

-- and a row passes
pub row_tests : (t ns : List ℕ) (from : ℕ) (ps : List Part) → Row t ns from ps
    → (missing (length ns) ps ≡ false) × (overlaps t ns from ps ≡ false) × (parts_refusal t ns ps ≡ 0)
unfolding missing overlaps parts_refusal refusal_by judge_tree
row_tests t ns from [] none = (refl, refl, refl)
row_tests t ns from (p ∷ ps) (more l f g) =
    let i = row_tests t ns (p.point + part t ns p.point) ps g in (
      rw (lt-leb (length ns) p.point f.inside) i.0,
      rw (le-ltb p.point from l) i.1,
      rw (eq-eqb (length p.nodes) (length p.owns) (sym f.owned), f.sound) i.2,
    )
