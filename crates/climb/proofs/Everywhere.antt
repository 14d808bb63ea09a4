-- Where every equation gains with all that it reads: least by rank is least, and there is a least assignment. Assumes nothing.
use mathlib.Core.Path.{◌≡◌, sym, ◌∙◌}
use mathlib.Core.Bool.{true}
use mathlib.Core.Logic.{inr, ⊎_elim}
use mathlib.Core.List.{List, [], ◌∷◌}
use Prim.Native.Nat.{ℕ, zero, suc, ◌<◌, zero-le}
use native.Mathlib.Nat.{zero-add, le_refl}
use native.Mathlib.Omega.{arith}
use lib.Dec.{lit<}
use lib.ListN.{length}
use Rattle.sets.specs.Members.{◌⊑◌}
use Rattle.sets.proofs.Order.{sub_trans, sub_of_eq}
use Rattle.circles.specs.Ranked.{circle_at, member, keep, up_from}
use Rattle.climb.specs.System.{Assignment, System, Lawful, Least}
use Rattle.climb.specs.Climb.{stage, Closed, rounds_of}
use Rattle.climb.specs.Inside.{Small}
use Rattle.climb.specs.Ordered.{climbed_all, InOrder, InOrderLeast, bottom, ThereIsLeast, LeastClosed}
use Rattle.climb.specs.Circuit.{after_of, Ranked, LawfulCircles}
use Rattle.climb.specs.ByRank.{LeastByRank, ByRankLeast}
use Rattle.climb.proofs.Lists.{keep_is, keep_in, in_up_from}
use Rattle.climb.proofs.Systems.{local, lawful_inside, least_unique}
use Rattle.climb.proofs.Stages.{stage_out, stage_below}
use Rattle.climb.proofs.Rounds.{climbs}
use Rattle.climb.proofs.Solving.{outside_before, next, by_rank_cong, by_rank_consistent, by_rank_same, in_order_ranked, in_order_by_rank}
use Rattle.climb.proofs.Working.{after_small}
use Rattle.climb.proofs.Finishing.{final_least, load_kept}

pub lawful_circles : (S : System) → Lawful S → (R : List (List ℕ)) → LawfulCircles S R
lawful_circles S L R i = lawful_inside S L (member (circle_at R i))

-- the same declared sets
least_cong : (S : System) → Lawful S → (u v : Assignment) → ((x : ℕ) → S.declared x ≡ true → u x ≡ v x) → Least S u → Least S v
least_cong S L u v e l = record {
  consistent = record { holds = λ x d. sym (e x d) ∙ l.consistent.holds x d ∙ local S L.gaining u v x (λ y m. e y (L.closed x d y m)) };
  least = λ w c x d. sub_trans (sub_of_eq (sym (e x d))) (l.least w c x d);
}

module _ (S : System) (L : Lawful S) (R : List (List ℕ)) (r : Ranked S R) where
  -- all circles, worked from nothing
  from_nothing : Assignment
  from_nothing = after_of S R (λ x. true) (λ x. 0) (length R)

  small : Small from_nothing
  unfolding from_nothing
  small = after_small S R (λ x. true) (λ x. 0) (lawful_circles S L R) (λ x. lit< tt) (length R)

  by_rank : LeastByRank S R from_nothing
  unfolding from_nothing
  by_rank = final_least S R (lawful_circles S L R) r (λ x. true) (λ x. 0) (λ x. lit< tt) (load_kept S R (λ x. 0))

  module _ (w : Assignment) (pre : (x : ℕ) → S.declared x ≡ true → S.eval w x ⊑ w x) where
    below : (n i : ℕ) → i < n → (x : ℕ) → member (circle_at R i) x ≡ true → from_nothing x ⊑ w x
    below zero i l x h = absurd (omega arith)
    below (suc n) i l x h = sub_trans
        ((by_rank.circle i).least (stage S (member (circle_at R i)) from_nothing k) (λ y p. stage_out S (member (circle_at R i)) from_nothing k y ((next S R r i).apart y p))
        (λ y j. sym (c.still y j)) x h)
        (stage_below S (member (circle_at R i)) from_nothing L.gaining k w
        (λ x h y m o. let p = outside_before S R r i x h y m o in below n p.0 (omega (arith, p.1)) y p.2) (λ x h. pre x (r.declared i x h)) x h)
      where
        k : ℕ
        k = rounds_of S (circle_at R i) from_nothing

        c : Closed S (member (circle_at R i)) from_nothing k
        c = (climbs S (circle_at R i) from_nothing (lawful_inside S L (member (circle_at R i))) small).closed

    below_closed : (x : ℕ) → S.declared x ≡ true → from_nothing x ⊑ w x
    below_closed x d = let c = r.covers x d in below (suc c.0) c.0 (le_refl (suc c.0)) x c.2

  least : Least S from_nothing
  least = record {
    consistent = record { holds = by_rank_consistent S R r from_nothing by_rank };
    least = λ w c x d. below_closed w (λ y e. sub_of_eq (sym (c.holds y e))) x d;
  }

  by_rank_is : (v : Assignment) → LeastByRank S R v → Least S v
  by_rank_is v l = least_cong S L from_nothing v (by_rank_same S R r from_nothing v by_rank l) least

  is_by_rank : (v : Assignment) → Least S v → LeastByRank S R v
  is_by_rank v l = by_rank_cong S R r (lawful_circles S L R) from_nothing v (least_unique S from_nothing v least l) by_rank

  closed_above : (v : Assignment) → Least S v → (w : Assignment) → ((x : ℕ) → S.declared x ≡ true → S.eval w x ⊑ w x) → (x : ℕ) → S.declared x ≡ true → v x ⊑ w x
  closed_above v l w pre x d = sub_trans (l.least from_nothing least.consistent x d) (below_closed w pre x d)

pub by_rank_least : ByRankLeast
by_rank_least S L R r v = (by_rank_is S L R r v, is_by_rank S L R r v)

pub in_order_least : InOrderLeast
in_order_least S L R c v s = by_rank_is S L R (in_order_ranked S R c) (climbed_all S R v) (in_order_by_rank S R (lawful_circles S L R) c v s)

-- ---- all instances as one circle

module _ (S : System) (L : Lawful S) where
  all : List ℕ
  all = keep S.declared (up_from 0 S.size)

  in_all : (x : ℕ) → S.declared x ≡ true → member all x ≡ true
  unfolding all
  in_all x d = keep_in S.declared (up_from 0 S.size) x (in_up_from S.size 0 x zero-le (rw zero-add (L.bound x d))) d

  all_in : (x : ℕ) → member all x ≡ true → S.declared x ≡ true
  unfolding all
  all_in x h = keep_is S.declared (up_from 0 S.size) x h

  order_all : InOrder S (all ∷ [])
  order_all = record {
    ordered = (record { apart = λ x p. absurd p; reads = λ x h y m. inr (in_all y (L.closed x (all_in x h) y m)) }, tt);
    declared = λ x p. ⊎_elim (λ q. absurd q) (λ h. all_in x h) p;
    covers = λ x d. inr (in_all x d);
  }

  bottom_least : Least S (bottom S)
  unfolding bottom all
  bottom_least = in_order_least S L (all ∷ []) order_all (λ x. 0) (λ x. lit< tt)

pub there_is_least : ThereIsLeast
there_is_least S L = bottom_least S L

pub least_closed : LeastClosed
least_closed S L v l w pre x d = closed_above S L (all S L ∷ []) (in_order_ranked S (all S L ∷ []) (order_all S L)) v l w pre x d
