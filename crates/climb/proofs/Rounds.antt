-- The number of rounds that a climb takes: there is one, `rounds_of` is it, and it is small. Assumes nothing.
use mathlib.Core.Path.{◌≡◌, refl, sym, ap, ◌∙◌, fun_ext}
use mathlib.Core.Bool.{Bool, true, false, cond, ◌||◌, or-true, true≢false}
use mathlib.Core.Logic.{inl, inr, ⊎_elim}
use mathlib.Core.List.{List, [], ◌∷◌}
use Prim.Native.Nat.{ℕ, zero, suc, ◌+◌, ◌-◌, ◌*◌, ◌≤◌, ◌<◌, zero-le}
use native.Mathlib.Nat.{eq-or-lt_of_le, le_refl, le_trans, sub-add_cancel}
use native.Mathlib.Omega.{arith}
use lib.Dec.{eqb}
use borrow.Author.Tests.{eqb-true, eq-eqb, ne_eqb, not-true}
use lib.ListN.{length}
use Rattle.circles.specs.Graph.{◌∈◌}
use Rattle.circles.specs.Ranked.{member, lone_of}
use Rattle.climb.specs.System.{Assignment, System, graph_of, weight}
use Rattle.climb.specs.Climb.{stage, Closed, still_of, least_from, rounds_of}
use Rattle.climb.specs.Inside.{LawfulIn, Small}
use Rattle.climb.specs.Laws.{StillMeans, Shuts, TakesUnique, TakesLast, Climbs, AllClimb, AgreeAlike, LoneOnce}
use Rattle.circles.proofs.Lists.{all_cong, of_all}
use Rattle.climb.proofs.Lists.{either, le_or_lt, member_in, member_of, only_member, all_is, Found, least_from_lem}
use Rattle.climb.proofs.Systems.{local_in, weight_cong, weight_le}
use Rattle.climb.proofs.Stages.{stage_out, stage_in, stage_small, next_closed, closed_next, closed_later, closes}

-- ---- the test for the last round

pub still_means : (S : System) (C : List ℕ) (v : Assignment) (k : ℕ) → StillMeans S C v k
unfolding still_of
still_means S C v k = record {
  closed = λ h. next_closed S (member C) v k (λ x m. eqb-true (stage S (member C) v (suc k) x) (stage S (member C) v k x)
      (all_is (λ x. eqb (stage S (member C) v (suc k) x) (stage S (member C) v k x)) C h x (member_in C x m)));
  still = λ c. of_all (λ x. eqb (stage S (member C) v (suc k) x) (stage S (member C) v k x)) C
      (λ x m. eq-eqb (stage S (member C) v (suc k) x) (stage S (member C) v k x) (closed_next S (member C) v k c x));
}

-- enough rounds: as many as the members' sets can have members in all
pub climb_closed : (S : System) (C : ℕ → Bool) (v : Assignment) → LawfulIn S C → (l : List ℕ) → ((x : ℕ) → C x ≡ true → x ∈ l) → Small v → Closed S C v (64 * length l)
climb_closed S C v L l all s =
    let c = closes S C v L l all s in
    let k = c.steps in
    let n = 64 * length l - k in
    let e : n + k ≡ 64 * length l = sub-add_cancel (le_trans c.few (weight_le l (stage S C v k) (stage_small S C v L.small s k))) in
    rw e at (closed_later S C v L.gaining k c.closed n)

-- ---- a lone circle

-- what its instance reads is outside
pub lone_outside : (S : System) (C : List ℕ) → lone_of (graph_of S) C ≡ true → (x : ℕ) → member C x ≡ true → (y : ℕ) → y ∈ S.args x → member C y ≡ false
unfolding lone_of
lone_outside S [] h x m y a = absurd (true≢false (sym h))
lone_outside S (z ∷ []) h x m y a =
    let e : x ≡ z = only_member z x m in
    ⊎_elim (λ (t : eqb y z ≡ true).
    let p : y ≡ z = eqb-true y z t in
    absurd (true≢false (sym (member_of (S.args z) z (rw (e, p) at a)) ∙ not-true (member (S.args z) z) h)))
    (λ (t : eqb y z ≡ false). rw t) (either (eqb y z))
lone_outside S (z ∷ w ∷ l) h x m y a = absurd (true≢false (sym h))

pub lone_once : LoneOnce
unfolding rounds_of
lone_once S C g h v = record { one = rw h; closed = closed; value = value }
  where
    closed : Closed S (member C) v 1
    closed = record {
      still = λ x m. local_in S (member C) g (stage S (member C) v 1) (stage S (member C) v 0) x m (λ y a.
          let o = lone_outside S C h x m y a in stage_out S (member C) v 1 y o ∙ sym (stage_out S (member C) v 0 y o)) ∙ sym (stage_in S (member C) v 0 x m);
    }

    value : (x : ℕ) → stage S (member C) v 1 x ≡ cond (member C x) (S.eval v x) (v x)
    value x = ⊎_elim
        (λ (m : member C x ≡ true). rw m (stage_in S (member C) v 0 x m
        ∙ local_in S (member C) g (stage S (member C) v 0) v x m (λ y a. stage_out S (member C) v 0 y (lone_outside S C h x m y a))))
        (λ (m : member C x ≡ false). rw m (stage_out S (member C) v 1 x m)) (either (member C x))

-- ---- how many rounds

pub takes_unique : TakesUnique
takes_unique S C v zero n a b = absurd (omega (arith, a.some))
takes_unique S C v (suc m) zero a b = absurd (omega (arith, b.some))
takes_unique S C v (suc m) (suc n) a b = ⊎_elim
    (λ (l : m ≤ n). ⊎_elim (λ (e : m ≡ n). ap suc e) (λ (k : m < n). absurd (b.first m (omega arith) (a.last m refl))) (eq-or-lt_of_le l))
    (λ (l : n < m). absurd (a.first n (omega arith) (b.last n refl))) (le_or_lt m n)

pub takes_last : TakesLast
takes_last S C v m t k l = ⊎_elim
    (λ (e : suc k ≡ m). shut (t.last k e) ∙ sym (eq-eqb (suc k) m e))
    (λ (n : suc k < m). not_shut (t.first k n) ∙ sym (ne_eqb (suc k) m (λ e. omega arith))) (eq-or-lt_of_le l)
  where
    shut : Shuts S C v k → (lone_of (graph_of S) C || still_of S C v k) ≡ true
    shut s = ⊎_elim (λ (h : lone_of (graph_of S) C ≡ true). rw h) (λ c. rw ((still_means S C v k).still c) (or-true (lone_of (graph_of S) C))) s

    not_shut : (Shuts S C v k → ⊥) → (lone_of (graph_of S) C || still_of S C v k) ≡ false
    not_shut n = ⊎_elim (λ (h : lone_of (graph_of S) C ≡ true). absurd (n (inl h)))
        (λ (h : lone_of (graph_of S) C ≡ false). ⊎_elim (λ (s : still_of S C v k ≡ true). absurd (n (inr ((still_means S C v k).closed s))))
        (λ (s : still_of S C v k ≡ false). rw (h, s)) (either (still_of S C v k))) (either (lone_of (graph_of S) C))

pub climbs : AllClimb
unfolding rounds_of
climbs S C v L s = ⊎_elim one many (either (lone_of (graph_of S) C))
  where
    p : ℕ
    p = least_from (still_of S C v) (64 * length C) 0

    f : Found (still_of S C v) (64 * length C) 0 p
    f = least_from_lem (still_of S C v) (64 * length C) 0

    top : still_of S C v (64 * length C) ≡ true
    top = (still_means S C v (64 * length C)).still (climb_closed S (member C) v L C (member_in C) s)

    here : Closed S (member C) v p
    here = (still_means S C v p).closed
        (⊎_elim (λ (e : p ≡ 0 + 64 * length C). let q : p ≡ 64 * length C = omega arith in rw q top) (λ l. f.here l) (eq-or-lt_of_le f.upto))

    -- the first closed stage has as many members as rounds led to it
    enough : p ≤ weight C (stage S (member C) v p)
    enough =
        let c = closes S (member C) v L C (member_in C) s in
        let k = c.steps in
        let e : p ≡ k = ⊎_elim
        (λ (l : p ≤ k). ⊎_elim (λ (q : p ≡ k). q) (λ (q : p < k). absurd (c.first p q here)) (eq-or-lt_of_le l))
        (λ (l : k < p). absurd (true≢false (sym ((still_means S C v k).still c.closed) ∙ f.below k zero-le l))) (le_or_lt p k) in
        rw e c.few

    one : lone_of (graph_of S) C ≡ true → Climbs S C v
    one h =
        let o = lone_once S C L.gaining h v in
        record {
          takes = rw o.one (record { some = le_refl 1; last = λ k e. inl h; first = λ k l. absurd (omega arith) });
          closed = rw o.one o.closed;
          within = rw o.one (omega arith);
          few = rw o.one (omega arith);
        }

    many : lone_of (graph_of S) C ≡ false → Climbs S C v
    many h =
        let e : rounds_of S C v ≡ suc p = rw h in
        let q : 1 + p ≡ suc p = omega arith in
        record {
          takes = rw e (record {
            some = omega arith;
            last = λ k d. let z : k ≡ p = omega arith in rw z (inr here);
            first = λ k l t. ⊎_elim (λ (o : lone_of (graph_of S) C ≡ true). absurd (true≢false (sym o ∙ h)))
                (λ c. absurd (true≢false (sym ((still_means S C v k).still c) ∙ f.below k zero-le (omega arith)))) t;
          });
          closed = rw e (rw q at (closed_later S (member C) v L.gaining p here 1));
          within = rw e (omega (arith, enough, weight_cong C (stage S (member C) v (suc p)) (stage S (member C) v p) (closed_next S (member C) v p here)));
          few = rw e (omega (arith, f.upto));
        }

-- ---- a climb looks at what the members read outside

pub agree_alike : AgreeAlike
unfolding rounds_of still_of stage
agree_alike S C g u v a = record { stages = same; rounds = rounds }
  where
    same : (k x : ℕ) → member C x ≡ true → stage S (member C) u k x ≡ stage S (member C) v k x
    same zero x h = rw h
    same (suc k) x h = rw h (local_in S (member C) g (stage S (member C) u k) (stage S (member C) v k) x h (λ y m. ⊎_elim
        (λ c. same k y c) (λ c. stage_out S (member C) u k y c ∙ a x h y m c ∙ sym (stage_out S (member C) v k y c)) (either (member C y))))

    rounds : rounds_of S C u ≡ rounds_of S C v
    rounds = ap (λ (t : ℕ → Bool). cond (lone_of (graph_of S) C) 1 (suc (least_from t (64 * length C) 0))) (fun_ext (λ k. all_cong
        (λ x. eqb (stage S (member C) u (suc k) x) (stage S (member C) u k x)) (λ x. eqb (stage S (member C) v (suc k) x) (stage S (member C) v k x)) C
        (λ x m. rw (same (suc k) x (member_of C x m), same k x (member_of C x m)))))
