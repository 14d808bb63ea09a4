-- What an update leaves is least by rank; it works on the due circles alone, never more than a load, and within the limits. Assumes nothing.
use mathlib.Core.Path.{◌≡◌, refl, sym, ◌∙◌}
use mathlib.Core.Bool.{Bool, true, false, cond, true≢false}
use mathlib.Core.Logic.{◌⊎◌, inl, inr, ⊎_elim}
use mathlib.Core.List.{List, [], ◌∷◌}
use Prim.Native.Nat.{ℕ, suc, ◌+◌, ◌-◌, ◌*◌, ◌≤◌, ◌<◌, zero-le}
use native.Mathlib.Nat.{le_refl, le_trans, mul-le-mul_left}
use native.Mathlib.Omega.{arith}
use lib.ListN.{length, get_or-eq_default}
use Rattle.circles.specs.Ranked.{sum_to, circle_at, member}
use Rattle.climb.specs.System.{Assignment, System}
use Rattle.climb.specs.Climb.{stage, rounds_of}
use Rattle.climb.specs.Inside.{Small, Agree}
use Rattle.climb.specs.Circuit.{due_of, after_of, worked_of, rounds_at, circles_to, rounds_to, evaluations_to, Ranked, Few, LawfulCircles, Kept}
use Rattle.climb.specs.ByRank.{LeastGiven, Before}
use Rattle.climb.specs.CircuitLaws.{FinalLeast, AllFinal, LoadKept, ReplacedKept, LoadMost, Limits, AllLimits}
use Rattle.climb.proofs.Lists.{either, le_or_lt}
use Rattle.climb.proofs.Stages.{stage_out}
use Rattle.climb.proofs.Rounds.{climbs, agree_alike}
use Rattle.climb.proofs.Solving.{given_cong, given_closed, outside_before, next, by_rank_same}
use Rattle.climb.proofs.Restriction.{renamed}
use Rattle.climb.proofs.Sums.{sum_le, sum_mono, sum_times, sum_one, cond_le}
use Rattle.climb.proofs.Working.{due_means, due_agree, after_worked, after_left, after_later, untouched, climbs_at, adds}

module _ (S : System) (R : List (List ℕ)) (r : Ranked S R) where
  later : (n x : ℕ) → member (circle_at R n) x ≡ true → (k : ℕ) → k < n → member (circle_at R k) x ≡ false
  later n x m k l = ⊎_elim (λ (h : member (circle_at R k) x ≡ true). absurd (true≢false (sym m ∙ r.apart k n x l h))) (λ h. h) (either (member (circle_at R k) x))

  module _ (sown : ℕ → Bool) (b : Assignment) where
    abbrev after : ℕ → Assignment
    after = after_of S R sown b

    -- values in circles before n are final at n
    pub before_final : (n : ℕ) → n ≤ length R → (x : ℕ) → Before R n x → after_of S R sown b (length R) x ≡ after_of S R sown b n x
    before_final n l x p =
        let e : n + (length R - n) ≡ length R = omega arith in
        rw e at (after_later S R sown b n (length R - n) x (λ k h. r.apart p.0 k x (omega (arith, p.1)) p.2))

    pub agree_final : (n : ℕ) → n ≤ length R → Agree S (member (circle_at R n)) (after_of S R sown b (length R)) (after_of S R sown b n)
    agree_final n l x m y a o = before_final n l y (outside_before S R r n x m y a o)

    module _ (L : LawfulCircles S R) (small : Small b) (k : Kept S R sown b) where
      -- a circle has its least sets when it is worked, or left as it is
      at_rank : (n : ℕ) → LeastGiven S (Before R n) (member (circle_at R n)) (after_of S R sown b (suc n))
      unfolding worked_of rounds_at
      at_rank n = ⊎_elim worked left (either (worked_of S R sown b n))
        where
          C : ℕ → Bool
          C = member (circle_at R n)

          worked : worked_of S R sown b n ≡ true → LeastGiven S (Before R n) C (after (suc n))
          worked h = rw (after_worked S R sown b n h)
              (given_closed S (Before R n) C (L n).gaining (next S R r n) (after n) (rounds_at S R sown b n) (climbs_at S R sown b L small n).closed)

          left : worked_of S R sown b n ≡ false → LeastGiven S (Before R n) C (after (suc n))
          left h =
              let d = due_means S sown b (circle_at R n) (after n) in
              let c = k.kept n (after n) (d.unsown h) (d.agree h) in
              rw (after_left S R sown b n h) (given_cong S (Before R n) C (L n).gaining (next S R r n) (stage S C (after n) c.0) (after n)
              (λ x a. ⊎_elim (λ p. stage_out S C (after n) c.0 x ((next S R r n).apart x p)) (λ m. c.2 x m ∙ sym (untouched S R sown b n x (later n x m))) a)
              (given_closed S (Before R n) C (L n).gaining (next S R r n) (after n) c.0 c.1))

      -- and keeps them to the end
      at_end : (n : ℕ) → n < length R → LeastGiven S (Before R n) (member (circle_at R n)) (after_of S R sown b (length R))
      at_end n l = given_cong S (Before R n) (member (circle_at R n)) (L n).gaining (next S R r n) (after (suc n)) (after (length R))
          (λ x a. sym (before_final (suc n) l x (⊎_elim (λ p. (p.0, omega (arith, p.1), p.2)) (λ h. (n, le_refl (suc n), h)) a))) (at_rank n)

-- past the last rank there is no circle
none_past : (S : System) (R : List (List ℕ)) (P : ℕ → Type 0) (n : ℕ) (v : Assignment) → length R ≤ n → LeastGiven S P (member (circle_at R n)) v
none_past S R P n v l =
    let e : circle_at R n ≡ [] = get_or-eq_default R [] l in
    rw e (record { consistent = λ x h. absurd (true≢false (sym h)); least = λ w a c x h. absurd (true≢false (sym h)) })

pub final_least : FinalLeast
final_least S R L r sown b small k = record {
  circle = λ i. ⊎_elim (λ l. none_past S R (Before R i) i (after_of S R sown b (length R)) l) (λ l. at_end S R r sown b L small k i l) (le_or_lt (length R) i);
}

pub all_final : AllFinal
unfolding worked_of rounds_at
all_final S R L r sown b n l = record {
  worked = sym (due_agree S sown b (circle_at R n) (after_of S R sown b (length R)) (after_of S R sown b n) (agree_final S R r sown b n l));
  rounds = sym (agree_alike S (circle_at R n) (L n).gaining (after_of S R sown b (length R)) (after_of S R sown b n)
      (agree_final S R r sown b n l)).rounds;
}

-- ---- a load, and a replacement in a finished tree

pub load_kept : LoadKept
load_kept S R b = record {
  kept = λ i u s a. (0, record { still = λ x m. absurd (true≢false (s x m)) }, λ x m. absurd (true≢false (s x m)));
}

pub replaced_kept : ReplacedKept
replaced_kept S₀ S R₀ R sown b v₀ φ q t = record {
  kept = λ i u n a.
      let o = t i n in
      let k = rounds_of S₀ o.old v₀ in
      let w = renamed S₀ S R₀ (member o.old) (member (circle_at R i)) φ o.lawful.gaining o.same v₀ u (λ x m y j f. a x m y j f ∙ o.outside x m y j f) q o.declared
      k (climbs S₀ o.old v₀ o.lawful q.small).closed in
      (k, w.0, λ x m. w.1 x m ∙ sym (o.value x m));
}

all_due : (S : System) (b v : Assignment) (C : List ℕ) → (due_of S (λ x. true) b v C ≡ true) ⊎ (length C ≡ 0)
unfolding due_of
all_due S b v [] = inr refl
all_due S b v (x ∷ l) = inl refl

no_more : (w w' : Bool) (n m m' : ℕ) → m ≡ m' → (w' ≡ true) ⊎ (n ≡ 0) → cond w (n * m) 0 ≤ cond w' (n * m') 0
no_more false w' n m m' e h = zero-le
no_more true true n m m' e h = rw e (le_refl (n * m'))
no_more true false n m m' e (inl h) = absurd (true≢false (sym h))
no_more true false n m m' e (inr h) = rw h (omega arith)

pub load_most : LoadMost
unfolding worked_of
load_most S R L r sown b b' small small' k =
    sum_le _ _ (length R) (λ j l. no_more (worked_of S R sown b j) (worked_of S R (λ x. true) b' j) (length (circle_at R j))
    (rounds_at S R sown b j) (rounds_at S R (λ x. true) b' j) (same_rounds j (omega arith)) (all_due S b' (after_of S R (λ x. true) b' j) (circle_at R j)))
  where
    same_final : (x : ℕ) → S.declared x ≡ true → after_of S R sown b (length R) x ≡ after_of S R (λ x. true) b' (length R) x
    same_final = by_rank_same S R r (after_of S R sown b (length R)) (after_of S R (λ x. true) b' (length R))
        (final_least S R L r sown b small k) (final_least S R L r (λ x. true) b' small' (load_kept S R b'))

    same_rounds : (j : ℕ) → j ≤ length R → rounds_at S R sown b j ≡ rounds_at S R (λ x. true) b' j
    same_rounds j l = (all_final S R L r sown b j l).rounds
        ∙ (agree_alike S (circle_at R j) (L j).gaining (after_of S R sown b (length R)) (after_of S R (λ x. true) b' (length R))
        (λ x m y a o. let f = r.reads j x m y a in same_final y (r.declared f.0 y f.2))).rounds
        ∙ sym (all_final S R L r (λ x. true) b' j l).rounds

-- ---- the limits

module _ (S : System) (R : List (List ℕ)) (L : LawfulCircles S R) (r : Few R) (sown : ℕ → Bool) (b : Assignment) (small : Small b) where
  size_le : (j : ℕ) → j < length R → length (circle_at R j) ≤ 4096
  unfolding sum_to
  size_le j l =
      let e : suc j + (length R - suc j) ≡ length R = omega arith in
      let h : sum_to (λ i. length (circle_at R i)) (suc j) ≤ sum_to (λ i. length (circle_at R i)) (length R) = rw e at (sum_mono (λ i. length (circle_at R i)) (suc j) (length R - suc j)) in
      omega (arith, h, r.total)

  rounds_le : (j : ℕ) → j < length R → rounds_at S R sown b j ≤ 262145
  unfolding rounds_at
  rounds_le j l = omega (arith, (climbs_at S R sown b L small j).few, size_le j l)

  evaluations_le : evaluations_to S R sown b (length R) ≤ 1073745920
  evaluations_le =
      let h : evaluations_to S R sown b (length R) ≤ sum_to (λ j. length (circle_at R j) * 262145) (length R) =
      sum_le (λ j. cond (worked_of S R sown b j) (length (circle_at R j) * rounds_at S R sown b j) 0) (λ j. length (circle_at R j) * 262145) (length R)
      (λ j l. cond_le (worked_of S R sown b j) (length (circle_at R j) * rounds_at S R sown b j) (length (circle_at R j) * 262145) (mul-le-mul_left (length (circle_at R j)) (rounds_le j l))) in
      omega (arith, h, sum_times (λ j. length (circle_at R j)) 262145 (length R), r.total)

  evaluations_in : (i k : ℕ) → i < length R → worked_of S R sown b i ≡ true → k < rounds_at S R sown b i
      → evaluations_to S R sown b i + length (circle_at R i) * k + length (circle_at R i) ≤ 1073745920
  evaluations_in i k l w h =
      let e : suc i + (length R - suc i) ≡ length R = omega arith in
      let m : evaluations_to S R sown b (suc i) ≤ evaluations_to S R sown b (length R) =
      rw e at (sum_mono (λ j. cond (worked_of S R sown b j) (length (circle_at R j) * rounds_at S R sown b j) 0) (suc i) (length R - suc i)) in
      let p : length (circle_at R i) * suc k ≤ length (circle_at R i) * rounds_at S R sown b i = mul-le-mul_left (length (circle_at R i)) h in
      let q : evaluations_to S R sown b (suc i) ≡ evaluations_to S R sown b i + length (circle_at R i) * rounds_at S R sown b i = (adds S R sown b i w).evaluations in
      let z = evaluations_le in
      omega arith

  circles_le : (n : ℕ) → circles_to S R sown b n ≤ n
  circles_le n = rw (sum_one n) at
      (sum_le (λ j. cond (worked_of S R sown b j) 1 0) (λ j. 1) n (λ j l. cond_le (worked_of S R sown b j) 1 1 (le_refl 1)))

  made_le : rounds_to S R sown b (length R) ≤ 1072697340
  made_le =
      let h : rounds_to S R sown b (length R) ≤ sum_to (λ j. 1 * 262145) (length R) =
      sum_le (λ j. cond (worked_of S R sown b j) (rounds_at S R sown b j) 0) (λ j. 1 * 262145) (length R)
      (λ j l. cond_le (worked_of S R sown b j) (rounds_at S R sown b j) (1 * 262145) (rounds_le j l)) in
      omega (arith, h, sum_times (λ j. 1) 262145 (length R), sum_one (length R), r.count)

  limits : Limits S R sown b
  limits = record {
    circles = le_trans (circles_le (length R)) r.count;
    rounds = rounds_le;
    evaluations = evaluations_le;
    made = made_le;
    circle = λ i l. omega (arith, circles_le i, r.count);
    midst = evaluations_in;
  }

pub all_limits : AllLimits
all_limits S R L r sown b small = limits S R L r sown b small
