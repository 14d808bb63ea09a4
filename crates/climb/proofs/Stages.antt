-- The stages of a climb grow, and one that a round leaves as it is is the end. Assumes nothing.
use mathlib.Core.Path.{◌≡◌, sym, ◌∙◌}
use mathlib.Core.Bool.{Bool, true, false}
use mathlib.Core.Logic.{⊎_elim}
use mathlib.Core.List.{List}
use Prim.Native.Nat.{ℕ, zero, suc, ◌+◌, ◌*◌, ◌≤◌, ◌<◌, zero-le}
use native.Mathlib.Nat.{eq-or-lt_of_le, zero-add, suc-add}
use native.Mathlib.Omega.{arith}
use lib.Dec.{lit<}
use lib.ListN.{length}
use Rattle.sets.specs.Members.{◌⊑◌}
use Rattle.sets.proofs.Order.{sub_refl, sub_trans, sub_zero, sub_of_eq}
use Rattle.circles.specs.Graph.{◌∈◌}
use Rattle.climb.specs.System.{Assignment, System, weight}
use Rattle.climb.specs.Climb.{patch, stage, Closed}
use Rattle.climb.specs.Inside.{GainingIn, SmallIn, LawfulIn, Small, Agree, ClosedOn}
use Rattle.climb.specs.Laws.{StagesGrow, StageIsRound, ClosedStays, ClosedEnds, ClosedBelow}
use Rattle.climb.proofs.Lists.{either}
use Rattle.climb.proofs.Systems.{gains_inside, local_in, cond_sub, cond_lt, weight_mono, weight_eq, weight_cong, weight_le}

pub patch_in : (C : ℕ → Bool) (g v : Assignment) (x : ℕ) → C x ≡ true → patch C g v x ≡ g x
patch_in C g v x h = rw h

pub patch_out : (C : ℕ → Bool) (g v : Assignment) (x : ℕ) → C x ≡ false → patch C g v x ≡ v x
patch_out C g v x h = rw h

module _ (S : System) (C : ℕ → Bool) (v : Assignment) where
  pub stage_out : (k x : ℕ) → C x ≡ false → stage S C v k x ≡ v x
  unfolding stage
  stage_out zero x h = patch_out C (λ x. 0) v x h
  stage_out (suc k) x h = patch_out C (S.eval (stage S C v k)) v x h

  pub stage_in : (k x : ℕ) → C x ≡ true → stage S C v (suc k) x ≡ S.eval (stage S C v k) x
  unfolding stage
  stage_in k x h = patch_in C (S.eval (stage S C v k)) v x h

  pub next_closed : (k : ℕ) → ((x : ℕ) → C x ≡ true → stage S C v (suc k) x ≡ stage S C v k x) → Closed S C v k
  next_closed k e = record { still = λ x h. sym (stage_in k x h) ∙ e x h }

  pub closed_next : (k : ℕ) → Closed S C v k → (x : ℕ) → stage S C v (suc k) x ≡ stage S C v k x
  closed_next k c x = ⊎_elim (λ h. stage_in k x h ∙ c.still x h) (λ h. stage_out (suc k) x h ∙ sym (stage_out k x h)) (either (C x))

pub stage_round : StageIsRound
unfolding stage
stage_round S C v k x = ⊎_elim (λ (h : C x ≡ true). rw h) (λ (h : C x ≡ false). rw (stage_out S C v k x h, h)) (either (C x))

pub stage_up : StagesGrow
unfolding stage
stage_up S C v g zero x = cond_sub (C x) (λ h. sub_zero (S.eval (stage S C v 0) x)) (λ h. sub_refl (v x))
stage_up S C v g (suc k) x = cond_sub (C x)
    (λ h. g (stage S C v k) (stage S C v (suc k)) x h (λ y m. stage_up S C v g k y) (λ y m o. stage_out S C v k y o ∙ sym (stage_out S C v (suc k) y o)))
    (λ h. sub_refl (v x))

pub stage_small : (S : System) (C : ℕ → Bool) (v : Assignment) → SmallIn S C → Small v → (k : ℕ) → Small (stage S C v k)
unfolding stage
stage_small S C v f s zero x = cond_lt (C x) (λ h. lit< tt) (λ h. s x)
stage_small S C v f s (suc k) x = cond_lt (C x) (λ h. f (stage S C v k) x h (λ y m. stage_small S C v f s k y)) (λ h. s x)

-- ---- below all that is closed above it

pub stage_within : (S : System) (C : ℕ → Bool) (v : Assignment) → GainingIn S C → (w : Assignment) → Agree S C v w → ClosedOn S C w
    → (k x : ℕ) → C x ≡ true → stage S C v k x ⊑ w x
unfolding stage
stage_within S C v g w out pre zero x h = rw h (sub_zero (w x))
stage_within S C v g w out pre (suc k) x h =
    rw h (sub_trans (g (stage S C v k) w x h
    (λ y m. ⊎_elim (λ c. stage_within S C v g w out pre k y c) (λ c. sub_of_eq (stage_out S C v k y c ∙ out x h y m c)) (either (C y)))
    (λ y m c. stage_out S C v k y c ∙ out x h y m c)) (pre x h))

pub stage_below : ClosedBelow
stage_below S C v g k w out pre x h =
    sub_trans (stage_within S C v (gains_inside S g C) u (λ x h y m o. sym (patch_out C w v y o)) closed k x h) (sub_of_eq (patch_in C w v x h))
  where
    u : Assignment
    u = patch C w v

    closed : ClosedOn S C u
    closed x h = sub_trans
        (g u w x (λ y m. ⊎_elim (λ c. sub_of_eq (patch_in C w v y c)) (λ c. sub_trans (sub_of_eq (patch_out C w v y c)) (out x h y m c)) (either (C y))))
        (sub_trans (pre x h) (sub_of_eq (sym (patch_in C w v x h))))

-- ---- a closed stage

module _ (S : System) (C : ℕ → Bool) (v : Assignment) (g : GainingIn S C) where
  stays : (k : ℕ) → Closed S C v k → (n x : ℕ) → stage S C v (n + k) x ≡ stage S C v k x
  stays k c zero x = rw zero-add
  stays k c (suc n) x = rw suc-add (⊎_elim
      (λ h. stage_in S C v (n + k) x h ∙ local_in S C g (stage S C v (n + k)) (stage S C v k) x h (λ y m. stays k c n y) ∙ c.still x h)
      (λ h. stage_out S C v (suc (n + k)) x h ∙ sym (stage_out S C v k x h)) (either (C x)))

  pub closed_later : (k : ℕ) → Closed S C v k → (n : ℕ) → Closed S C v (n + k)
  closed_later k c n = record {
    still = λ x h. local_in S C g (stage S C v (n + k)) (stage S C v k) x h (λ y m. stays k c n y) ∙ c.still x h ∙ sym (stays k c n x);
  }

  end_least : (k : ℕ) (w : Assignment) → Agree S C v w → ClosedOn S C w → (x : ℕ) → C x ≡ true → stage S C v k x ⊑ w x
  end_least k w out pre x h = stage_within S C v g w out pre k x h

pub closed_stays : ClosedStays
closed_stays S C v g k c n x = stays S C v g k c n x

pub closed_ends : ClosedEnds
closed_ends S C v g k c = record { consistent = λ x h. sym (c.still x h); least = λ w out pre x h. end_least S C v g k w out pre x h }

-- ---- it closes: `steps` rounds that each add a member, and one that adds none. l lists the members of C

pub record Closes (S : System) (C : ℕ → Bool) (v : Assignment) (l : List ℕ) : Type 0 where
  pub steps : ℕ
  pub closed : Closed S C v steps
  pub first : (j : ℕ) → j < steps → Closed S C v j → ⊥
  pub few : steps ≤ weight l (stage S C v steps)

module _ (S : System) (C : ℕ → Bool) (v : Assignment) (L : LawfulIn S C) (l : List ℕ) (all : (x : ℕ) → C x ≡ true → x ∈ l) (s : Small v) where
  go : (n k : ℕ) → 64 * length l < k + n → k ≤ weight l (stage S C v k) → ((j : ℕ) → j < k → Closed S C v j → ⊥) → Closes S C v l
  go zero k b w f = absurd (omega (arith, weight_le l (stage S C v k) (stage_small S C v L.small s k)))
  go (suc n) k b w f =
      ⊎_elim
      (λ e. record {
        steps = k;
        closed = next_closed S C v k (λ x h. sym (weight_eq l (stage S C v k) (stage S C v (suc k)) (stage_up S C v L.gaining k) e x (all x h)));
        first = f;
        few = w;
      })
      (λ m. go n (suc k) (omega arith) (omega arith)
      (λ j h c. ⊎_elim
      (λ e. let p : j ≡ k = omega arith in omega (arith, weight_cong l (stage S C v (suc k)) (stage S C v k) (closed_next S C v k (rw p at c))))
      (λ i. f j (omega arith) c) (eq-or-lt_of_le h)))
      (eq-or-lt_of_le (weight_mono l (stage S C v k) (stage S C v (suc k)) (stage_up S C v L.gaining k)))

  pub closes : Closes S C v l
  closes = go (suc (64 * length l)) 0 (omega arith) zero-le (λ j h c. absurd (omega arith))
