-- Least by rank: a climb leads there, there is no second, and of the orders in which arguments come first any will do. Assumes nothing.
use mathlib.Core.Path.{◌≡◌, refl, sym, ◌∙◌}
use mathlib.Core.Bool.{Bool, true, false, true≢false}
use mathlib.Core.Logic.{◌⊎◌, inl, inr, ⊎_elim}
use mathlib.Core.List.{List, [], ◌∷◌}
use Prim.Native.Nat.{ℕ, zero, suc, ◌≤◌, ◌<◌}
use native.Mathlib.Nat.{eq-or-lt_of_le, le_refl}
use native.Mathlib.Omega.{arith}
use lib.ListN.{length}
use Rattle.sets.specs.Members.{◌⊑◌}
use Rattle.sets.proofs.Order.{sub_trans, sub_of_eq, sub_antisym}
use Rattle.circles.specs.Graph.{◌∈◌}
use Rattle.circles.specs.Ranked.{circle_at, member}
use Rattle.climb.specs.System.{Assignment, System}
use Rattle.climb.specs.Climb.{patch, stage, Closed, rounds_of}
use Rattle.climb.specs.Inside.{GainingIn, Small, Agree, ClosedOn}
use Rattle.climb.specs.Ordered.{climbed, climbed_all, And, Next, Ordered, Covered}
use Rattle.climb.specs.Circuit.{Ranked, LawfulCircles}
use Rattle.climb.specs.ByRank.{LeastGiven, Before, LeastByRank, ByRankUnique, InOrderRanked, InOrderByRank, AnyOrder}
use Rattle.climb.proofs.Lists.{either}
use Rattle.climb.proofs.Systems.{local_in}
use Rattle.climb.proofs.Stages.{patch_in, patch_out, stage_out, stage_small, stage_within}
use Rattle.climb.proofs.Rounds.{climbs}

-- ---- one circle

-- more may be given
given_more : {S : System} {P Q : ℕ → Type 0} {C : ℕ → Bool} {v : Assignment} → ((x : ℕ) → P x → Q x) → LeastGiven S P C v → LeastGiven S Q C v
given_more to l = record { consistent = l.consistent; least = λ w a c x h. l.least w (λ y p. a y (to y p)) c x h }

module _ (S : System) (P : ℕ → Type 0) (C : ℕ → Bool) (g : GainingIn S C) (n : Next S P C) where
  -- the same values there
  pub given_cong : (u v : Assignment) → ((x : ℕ) → And P C x → u x ≡ v x) → LeastGiven S P C u → LeastGiven S P C v
  given_cong u v e l = record {
    consistent = λ x h. sym (e x (inr h)) ∙ l.consistent x h ∙ local_in S C g u v x h (λ y m. e y (n.reads x h y m));
    least = λ w a c x h. sub_trans (sub_of_eq (sym (e x (inr h)))) (l.least w (λ y p. a y p ∙ sym (e y (inl p))) c x h);
  }

  -- what a climb ends with
  pub given_closed : (v : Assignment) (k : ℕ) → Closed S C v k → LeastGiven S P C (stage S C v k)
  given_closed v k c = record {
    consistent = λ x h. sym (c.still x h);
    least = λ w a e. stage_within S C v g w
        (λ x h y m o. ⊎_elim (λ p. sym (stage_out S C v k y o) ∙ sym (a y p)) (λ i. absurd (true≢false (sym i ∙ o))) (n.reads x h y m))
        (λ x h. sub_of_eq (sym (e x h))) k;
  }

  -- it is below what is closed under the equations too, not only below what is consistent
  pub given_below : (v : Assignment) → LeastGiven S P C v → (k : ℕ) → Closed S C v k → (w : Assignment) → Agree S C v w → ClosedOn S C w → (x : ℕ) → C x ≡ true → v x ⊑ w x
  given_below v l k c w a p x h =
      sub_trans (l.least (stage S C v k) (λ y q. stage_out S C v k y (n.apart y q)) (λ y i. sym (c.still y i)) x h) (stage_within S C v g w a p k x h)

-- ---- circles by rank

module _ (S : System) (R : List (List ℕ)) (r : Ranked S R) where
  -- what a circle reads is in it or in circles before it
  reads_before : (n x : ℕ) → member (circle_at R n) x ≡ true → (y : ℕ) → y ∈ S.args x → And (Before R n) (member (circle_at R n)) y
  reads_before n x m y a =
      let f = r.reads n x m y a in
      ⊎_elim (λ (e : f.0 ≡ n). inr (rw e at f.2)) (λ l. inl (f.0, l, f.2)) (eq-or-lt_of_le f.1)

  pub outside_before : (n x : ℕ) → member (circle_at R n) x ≡ true → (y : ℕ) → y ∈ S.args x → member (circle_at R n) y ≡ false → Before R n y
  outside_before n x m y a o = ⊎_elim (λ p. p) (λ p. absurd (true≢false (sym p ∙ o))) (reads_before n x m y a)

  pub next : (n : ℕ) → Next S (Before R n) (member (circle_at R n))
  next n = record { apart = λ x p. r.apart p.0 n x p.1 p.2; reads = reads_before n }

  -- the same declared sets
  pub by_rank_cong : LawfulCircles S R → (u v : Assignment) → ((x : ℕ) → S.declared x ≡ true → u x ≡ v x) → LeastByRank S R u → LeastByRank S R v
  by_rank_cong L u v e l = record {
    circle = λ i. given_cong S (Before R i) (member (circle_at R i)) (L i).gaining (next i) u v
        (λ x a. e x (⊎_elim (λ p. r.declared p.0 x p.2) (λ h. r.declared i x h) a)) (l.circle i);
  }

  pub by_rank_consistent : (v : Assignment) → LeastByRank S R v → (x : ℕ) → S.declared x ≡ true → v x ≡ S.eval v x
  by_rank_consistent v l x d = let c = r.covers x d in (l.circle c.0).consistent x c.2

pub by_rank_unique : ByRankUnique
by_rank_unique S R v w a b i x h = same (suc i) i (le_refl (suc i)) x h
  where
    same : (n i : ℕ) → i < n → (x : ℕ) → member (circle_at R i) x ≡ true → v x ≡ w x
    same zero i l x h = absurd (omega arith)
    same (suc n) i l x h = sub_antisym
        ((a.circle i).least w (λ y p. sym (same n p.0 (omega (arith, p.1)) y p.2)) (b.circle i).consistent x h)
        ((b.circle i).least v (λ y p. same n p.0 (omega (arith, p.1)) y p.2) (a.circle i).consistent x h)

-- so every declared one where the circles cover them
pub by_rank_same : (S : System) (R : List (List ℕ)) → Ranked S R → (v w : Assignment) → LeastByRank S R v → LeastByRank S R w
    → (x : ℕ) → S.declared x ≡ true → v x ≡ w x
by_rank_same S R r v w a b x d = let c = r.covers x d in by_rank_unique S R v w a b c.0 x c.2

-- ---- another order

pub any_order : AnyOrder
any_order S R R' L r r' same v l = record {
  circle = λ i. record { consistent = λ x h. (here i).consistent x (there i x h); least = λ w a c x h. below i w a c x (there i x h) };
}
  where
    -- the same circle in R
    C : ℕ → ℕ → Bool
    C i = member (circle_at R (same i).0)

    there : (i x : ℕ) → member (circle_at R' i) x ≡ true → C i x ≡ true
    there i x h = sym ((same i).1 x) ∙ h

    here : (i : ℕ) → LeastGiven S (Before R (same i).0) (C i) v
    here i = l.circle (same i).0

    below : (i : ℕ) (w : Assignment) → ((x : ℕ) → Before R' i x → w x ≡ v x) → ((x : ℕ) → member (circle_at R' i) x ≡ true → w x ≡ S.eval w x)
        → (x : ℕ) → C i x ≡ true → v x ⊑ w x
    below i w a c x h = sub_trans ((here i).least u (λ y p. patch_out (C i) w v y ((next S R r (same i).0).apart y p)) consistent x h) (sub_of_eq (patch_in (C i) w v x h))
      where
        u : Assignment
        u = patch (C i) w v

        -- what is read outside the circle is before it in R' too
        agrees : (x : ℕ) → C i x ≡ true → (y : ℕ) → y ∈ S.args x → w y ≡ u y
        agrees x h y m = ⊎_elim (λ (k : C i y ≡ true). sym (patch_in (C i) w v y k))
            (λ (o : C i y ≡ false). a y (outside_before S R' r' i x ((same i).1 x ∙ h) y m ((same i).1 y ∙ o)) ∙ sym (patch_out (C i) w v y o)) (either (C i y))

        consistent : (x : ℕ) → C i x ≡ true → u x ≡ S.eval u x
        consistent x h = patch_in (C i) w v x h ∙ c x ((same i).1 x ∙ h) ∙ local_in S (C i) (L (same i).0).gaining w u x h (agrees x h)

-- ---- a list of circles, climbed one after the other

module _ (S : System) where
  climbed_kept : (R : List (List ℕ)) (P : ℕ → Type 0) (v : Assignment) → Ordered S R P → (x : ℕ) → P x → climbed_all S R v x ≡ v x
  unfolding climbed_all climbed
  climbed_kept [] P v o x p = refl
  climbed_kept (C ∷ R) P v o x p = climbed_kept R (And P (member C)) (climbed S C v) o.1 x (inl p) ∙ stage_out S (member C) v (rounds_of S C v) x (o.0.apart x p)

  climbed_least : (R : List (List ℕ)) (P : ℕ → Type 0) (v : Assignment) → LawfulCircles S R → Small v → Ordered S R P
      → (i : ℕ) → LeastGiven S (λ x. P x ⊎ Before R i x) (member (circle_at R i)) (climbed_all S R v)
  unfolding climbed_all climbed
  climbed_least [] P v L s o i = record { consistent = λ x h. absurd (true≢false (sym h)); least = λ w a c x h. absurd (true≢false (sym h)) }
  climbed_least (C ∷ R) P v L s o zero = given_more (λ x p. inl p)
      (given_cong S P (member C) (L 0).gaining o.0 (climbed S C v) (climbed_all S R (climbed S C v))
      (λ x a. sym (climbed_kept R (And P (member C)) (climbed S C v) o.1 x a))
      (given_closed S P (member C) (L 0).gaining o.0 v (rounds_of S C v) (climbs S C v (L 0) s).closed))
  climbed_least (C ∷ R) P v L s o (suc i) = given_more
      (λ x a. ⊎_elim (λ b. ⊎_elim (λ p. inl p) (λ h. inr (0, omega arith, h)) b) (λ b. inr (suc b.0, omega (arith, b.1), b.2)) a)
      (climbed_least R (And P (member C)) (climbed S C v) (λ j. L (suc j)) (stage_small S (member C) v (L 0).small s (rounds_of S C v)) o.1 i)

  -- ---- in order is ranked

  apart_from : (R : List (List ℕ)) (P : ℕ → Type 0) → Ordered S R P → (x : ℕ) → P x → (j : ℕ) → member (circle_at R j) x ≡ false
  apart_from [] P o x p j = refl
  apart_from (C ∷ R) P o x p zero = o.0.apart x p
  apart_from (C ∷ R) P o x p (suc j) = apart_from R (And P (member C)) o.1 x (inl p) j

  apart_in : (R : List (List ℕ)) (P : ℕ → Type 0) → Ordered S R P → (i j x : ℕ) → i < j → member (circle_at R i) x ≡ true → member (circle_at R j) x ≡ false
  apart_in [] P o i j x l h = refl
  apart_in (C ∷ R) P o i zero x l h = absurd (omega arith)
  apart_in (C ∷ R) P o zero (suc j) x l h = apart_from R (And P (member C)) o.1 x (inr h) j
  apart_in (C ∷ R) P o (suc i) (suc j) x l h = apart_in R (And P (member C)) o.1 i j x (omega arith) h

  reads_in : (R : List (List ℕ)) (P : ℕ → Type 0) → Ordered S R P → (i x : ℕ) → member (circle_at R i) x ≡ true → (y : ℕ) → y ∈ S.args x
      → P y ⊎ ((j : ℕ) × (j ≤ i) × (member (circle_at R j) y ≡ true))
  reads_in [] P o i x h y m = absurd (true≢false (sym h))
  reads_in (C ∷ R) P o zero x h y m = ⊎_elim (λ p. inl p) (λ k. inr (0, le_refl 0, k)) (o.0.reads x h y m)
  reads_in (C ∷ R) P o (suc i) x h y m = ⊎_elim
      (λ a. ⊎_elim (λ p. inl p) (λ k. inr (0, omega arith, k)) a) (λ b. inr (suc b.0, omega (arith, b.1), b.2))
      (reads_in R (And P (member C)) o.1 i x h y m)

covered_in : (R : List (List ℕ)) (P : ℕ → Type 0) (x : ℕ) → Covered R P x → P x ⊎ ((i : ℕ) × (i < length R) × (member (circle_at R i) x ≡ true))
covered_in [] P x c = inl c
covered_in (C ∷ R) P x c = ⊎_elim
    (λ a. ⊎_elim (λ p. inl p) (λ k. inr (0, omega arith, k)) a) (λ b. inr (suc b.0, omega (arith, b.1), b.2))
    (covered_in R (And P (member C)) x c)

covered_from : (R : List (List ℕ)) (P : ℕ → Type 0) (x : ℕ) → P x → Covered R P x
covered_from [] P x p = p
covered_from (C ∷ R) P x p = covered_from R (And P (member C)) x (inl p)

in_covered : (R : List (List ℕ)) (P : ℕ → Type 0) (i x : ℕ) → member (circle_at R i) x ≡ true → Covered R P x
in_covered [] P i x h = absurd (true≢false (sym h))
in_covered (C ∷ R) P zero x h = covered_from R (And P (member C)) x (inr h)
in_covered (C ∷ R) P (suc i) x h = in_covered R (And P (member C)) i x h

pub in_order_ranked : InOrderRanked
in_order_ranked S R c = record {
  apart = apart_in S R (λ x. ⊥) c.ordered;
  reads = λ i x h y m. ⊎_elim (λ p. absurd p) (λ j. j) (reads_in S R (λ x. ⊥) c.ordered i x h y m);
  declared = λ i x h. c.declared x (in_covered R (λ x. ⊥) i x h);
  covers = λ x d. ⊎_elim (λ p. absurd p) (λ i. i) (covered_in R (λ x. ⊥) x (c.covers x d));
}

pub in_order_by_rank : InOrderByRank
in_order_by_rank S R L c v s = record { circle = λ i. given_more (λ x a. ⊎_elim (λ p. absurd p) (λ b. b) a) (climbed_least S R (λ x. ⊥) v L s c.ordered i) }
