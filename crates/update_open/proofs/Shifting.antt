-- The loop that shifts the points into the new tree. Assumes nothing.
use mathlib.Core.Path.{◌≡◌, refl, sym, ap, ◌∙◌}
use mathlib.Core.Bool.{false}
use mathlib.Core.List.{List, [], ◌∷◌, ◌++◌, append-nil}
use Prim.Native.Nat.{ℕ, suc, ◌+◌, ◌-◌, ◌≤◌, ◌<◌}
use native.Mathlib.Omega.{arith}
use lib.Dec.{ltb}
use lib.ListN.{length, set, replicate, length-append}
use lib.Seq.{set_at, append_snoc}
use borrow.Author.Tests.{ltb-false}
use Rattle.tree.specs.declared.Point.{Point}
use Rattle.tree.specs.declared.Cut.{Cut}
use Rattle.tree.specs.Handed.{cut_at}
use Rattle.climb.proofs.Lists.{or_false_is}
use Rattle.update.specs.Records.{nowhere, padded}
use Rattle.update_judge.specs.Inner.Cuts.{cuts_from, meeting, coming, shifted, Small}
use Rattle.update_judge.proofs.Walks.{cuts_start}
use Rattle.update_open.specs.Inner.Placed.{placed, Shiftable}
use Rattle.update_place.proofs.Laying.{next_cut, no_cut}

shift_one : (made : List Point) (came left : ℕ) (c : Cut) (cs : List Cut) (q : Point) → q ≡ record { node = c.node + came - left; count = c.count }
    → made ++ shifted came left (c ∷ cs) ≡ made ++ (q ∷ shifted (came + c.count) (left + c.old) cs)
unfolding shifted
shift_one made came left c cs q e = ap (λ (p : Point). made ++ (p ∷ shifted (came + c.count) (left + c.old) cs)) (sym e)

module _ (n : ℕ) (l : List Cut) where
  -- the first i points are made: `made`. The rest lies apart from `from` on, behind what left, and what came fits
  pub record Shifting (points : List Point) (came left i : ℕ) : Type 0 where
    pub small : Small 512 (record { count = n; cuts = l })
    pub upto : i ≤ n
    pub made : List Point
    pub long : length made ≡ i
    pub there : points ≡ made ++ replicate (8 - i) nowhere
    pub rest : shifted 0 0 (cuts_from 0 n l) ≡ made ++ shifted came left (cuts_from i (n - i) l)
    pub from : ℕ
    pub behind : left ≤ from
    pub apart : meeting from (cuts_from i (n - i) l) ≡ false
    pub few : came + coming (cuts_from i (n - i) l) ≤ 512

  pub shifting_start : Shiftable (record { count = n; cuts = l }) → Shifting (replicate 8 nowhere) 0 0 0
  shifting_start s = record {
    small = s.small;
    upto = omega arith;
    made = [];
    long = refl;
    there = refl;
    rest = ap (shifted 0 0) (cuts_start n l);
    from = 0;
    behind = omega arith;
    apart = ap (meeting 0) (sym (cuts_start n l)) ∙ s.apart;
    few = let e = ap coming (cuts_start n l) in omega (arith, s.few);
  }

  module _ {points : List Point} {came left i : ℕ} (w : Shifting points came left i) (h : i < n) where
    abbrev cut : Cut
    cut = cut_at l i

    abbrev behind_it : List Cut
    behind_it = cuts_from (i + 1) (n - (i + 1)) l

    parted : (ltb cut.node w.from ≡ false) × (meeting (cut.node + cut.old) behind_it ≡ false)
    unfolding meeting
    parted = or_false_is {a = ltb cut.node w.from} (ap (meeting w.from) (sym (next_cut n i l h)) ∙ w.apart)

    -- what left lies before the cut
    pub left_before : left ≤ cut.node
    left_before = omega (arith, ltb-false cut.node w.from parted.0, w.behind)

    sums : coming (cuts_from i (n - i) l) ≡ cut.count + coming behind_it
    unfolding coming
    sums = ap coming (next_cut n i l h)

    pub came_few : came + cut.count ≤ 512
    came_few = omega (arith, w.few, sums)

    pub shifting_next : (q : Point) → q ≡ record { node = cut.node + came - left; count = cut.count } → Shifting (set points i q) (came + cut.count) (left + cut.old) (i + 1)
    shifting_next q e = record {
      small = w.small;
      upto = omega arith;
      made = w.made ++ (q ∷ []);
      long = omega (arith, length-append w.made (q ∷ []), w.long);
      there = stored;
      rest = w.rest ∙ turn;
      from = cut.node + cut.old;
      behind = omega (arith, left_before);
      apart = parted.1;
      few = omega (arith, w.few, sums);
    }
      where
        zeros : replicate (8 - i) nowhere ≡ nowhere ∷ replicate (8 - (i + 1)) nowhere
        zeros = let k : 8 - i ≡ suc (8 - (i + 1)) = omega (arith, w.small.few) in ap (λ (j : ℕ). replicate j nowhere) k

        stored : set points i q ≡ w.made ++ (q ∷ []) ++ replicate (8 - (i + 1)) nowhere
        stored =
            ap (λ (p : List Point). set p i q) (w.there ∙ ap (λ (z : List Point). w.made ++ z) zeros)
            ∙ set_at w.made nowhere (replicate (8 - (i + 1)) nowhere) q i w.long
            ∙ sym (append_snoc w.made q (replicate (8 - (i + 1)) nowhere))

        shift : w.made ++ shifted came left (cut ∷ behind_it) ≡ w.made ++ (q ∷ shifted (came + cut.count) (left + cut.old) behind_it)
        shift = shift_one w.made came left cut behind_it q e

        turn : w.made ++ shifted came left (cuts_from i (n - i) l) ≡ w.made ++ (q ∷ []) ++ shifted (came + cut.count) (left + cut.old) behind_it
        turn =
            ap (λ (cs : List Cut). w.made ++ shifted came left cs) (next_cut n i l h)
            ∙ shift
            ∙ sym (append_snoc w.made q (shifted (came + cut.count) (left + cut.old) behind_it))

  pub shifting_all : {points : List Point} {came left i : ℕ} → Shifting points came left i → n ≤ i → record { count = n; points = points } ≡ placed (shifted 0 0 (cuts_from 0 n l))
  unfolding padded shifted
  shifting_all {points} {came} {left} {i} w h =
      let e : shifted 0 0 (cuts_from 0 n l) ≡ w.made = w.rest ∙ ap (λ (cs : List Cut). w.made ++ shifted came left cs) (no_cut n i l h) ∙ append-nil w.made in
      let k : length w.made ≡ n = omega (arith, w.long, w.upto) in
      let j : i ≡ n = omega (arith, w.upto) in
      let p : points ≡ w.made ++ replicate (8 - n) nowhere = w.there ∙ ap (λ (j : ℕ). w.made ++ replicate (8 - j) nowhere) j in
      rw (e, k, p)
