-- One step: a round is a stage of the circle's climb, and between two steps the record and the sets stand where the schedule has them. Assumes nothing.
use mathlib.Core.Path.{◌≡◌, refl, sym, ap, ◌∙◌}
use mathlib.Core.Bool.{Bool, true, false, cond, ◌||◌, true≢false, or-true}
use mathlib.Core.Logic.{◌⊎◌, inl, inr, ⊎_elim}
use mathlib.Core.List.{List}
use Prim.Native.Nat.{ℕ, zero, suc, ◌+◌, ◌-◌, ◌*◌, ◌≤◌, ◌<◌, min}
use native.Mathlib.Nat.{eq-or-lt_of_le, le_refl, min-eq_left}
use native.Mathlib.Omega.{arith}
use lib.Dec.{eqb, ltb}
use borrow.Author.Tests.{eqb-true, eq-eqb, ne_eqb, eqb-false, lt-ltb, le-ltb, ltb-true, ltb-false}
use lib.ListN.{length}
use Rattle.circles.specs.Ranked.{circle_at, member, lone_of}
use Rattle.climb.specs.System.{Assignment, System, graph_of}
use Rattle.climb.specs.Climb.{stage, still_of, rounds_of}
use Rattle.climb.specs.Inside.{GainingIn}
use Rattle.climb.specs.Laws.{Climbs, Shuts}
use Rattle.climb.specs.Circuit.{due_of, after_of, worked_of, rounds_at, circles_to, rounds_to, evaluations_to}
use Rattle.climb.specs.CircuitLaws.{Passed, Limits}
use Rattle.climb.specs.Memory.{at, empty_on, round_on, Within}
use Rattle.climb.proofs.Lists.{either, or_false_is, Found, least_from_lem}
use Rattle.climb.proofs.Stages.{stage_out}
use Rattle.climb.proofs.Rounds.{still_means}
use Rattle.climb.proofs.Sums.{sum_mono}
use Rattle.climb.proofs.Working.{due_agree, after_worked, climbs_at, adds, passed}
use Rattle.climb.proofs.Finishing.{all_limits}
use Rattle.climb.proofs.Storing.{length_stores, in_memory}
use Rattle.update.specs.declared.Record.{Record}
use Rattle.update.specs.Records.{shut, working}
use Rattle.update.specs.Steps.{sown_of, survives, changed_of, round_number, from_of, to_of, closed_of, round_record, done, Made, round_made, done_made, due_from, step_of}
use Rattle.update.specs.Course.{Begins, Phase, between, climbing, StandsAfter, NextRound, record_at}

-- ---- the last round of a climb is the one that closes it

closes_at : (S : System) (C : List ℕ) (v : Assignment) → Climbs S C v → (k : ℕ) → k < rounds_of S C v
    → lone_of (graph_of S) C || still_of S C v k ≡ eqb (suc k) (rounds_of S C v)
closes_at S C v c k l = ⊎_elim
    (λ (e : suc k ≡ rounds_of S C v). rw (eq-eqb (suc k) (rounds_of S C v) e) (shuts (c.takes.last k e)))
    (λ (m : suc k < rounds_of S C v). rw (ne_eqb (suc k) (rounds_of S C v) (λ e. omega arith)) (goes (c.takes.first k m)))
    (eq-or-lt_of_le l)
  where
    shuts : Shuts S C v k → lone_of (graph_of S) C || still_of S C v k ≡ true
    shuts (inl h) = rw h
    shuts (inr h) = rw ((still_means S C v k).still h) (or-true (lone_of (graph_of S) C))

    goes : (Shuts S C v k → ⊥) → lone_of (graph_of S) C || still_of S C v k ≡ false
    goes h = ⊎_elim
        (λ (p : lone_of (graph_of S) C ≡ true). absurd (h (inl p)))
        (λ (p : lone_of (graph_of S) C ≡ false). ⊎_elim
        (λ (q : still_of S C v k ≡ true). absurd (h (inr ((still_means S C v k).closed q))))
        (λ (q : still_of S C v k ≡ false). rw (p, q)) (either (still_of S C v k)))
        (either (lone_of (graph_of S) C))

-- ---- a round

from_lone : (S : System) (C s : List ℕ) → lone_of (graph_of S) C ≡ true → from_of S C 1 s ≡ s
unfolding from_of
from_lone S C s h = rw h

from_first : (S : System) (C s : List ℕ) → lone_of (graph_of S) C ≡ false → from_of S C 1 s ≡ empty_on C s
unfolding from_of
from_first S C s h = rw h

from_later : (S : System) (C : List ℕ) (k : ℕ) (s : List ℕ) → from_of S C (suc (suc k)) s ≡ s
unfolding from_of
from_later S C k s = rw (ne_eqb (suc (suc k)) 1 (λ e. omega arith))

-- the sets after a round and whether it closes, from sets `from` that hold stage k or, for a lone circle, v itself
record Rounded (S : System) (C : List ℕ) (v : Assignment) (k : ℕ) (s : List ℕ) : Type 0 where
  value : at (to_of S C (from_of S C (suc k) s)) ≡ stage S (member C) v (suc k)
  closed : closed_of S C (from_of S C (suc k) s) (to_of S C (from_of S C (suc k) s)) ≡ eqb (suc k) (rounds_of S C v)
  places : length (to_of S C (from_of S C (suc k) s)) ≡ length s

rounded : (S : System) (C : List ℕ) (v : Assignment) (k : ℕ) (s from : List ℕ) → Climbs S C v → k < rounds_of S C v
    → from_of S C (suc k) s ≡ from → length from ≡ length s → at (round_on S C from) ≡ stage S (member C) v (suc k)
    → closed_of S C from (round_on S C from) ≡ lone_of (graph_of S) C || still_of S C v k → Rounded S C v k s
unfolding to_of
rounded S C v k s from c l e p a h = record {
  value = rw e a;
  closed = rw e (h ∙ closes_at S C v c k l);
  places = rw e (length_stores C from (S.eval (at from)) ∙ p);
}

module _ (S : System) (C : List ℕ) (g : GainingIn S (member C)) (v : Assignment) (c : Climbs S C v) where
  -- a lone circle closes whatever it finds
  lone_closes : (k : ℕ) (from to : List ℕ) → lone_of (graph_of S) C ≡ true → closed_of S C from to ≡ lone_of (graph_of S) C || still_of S C v k
  unfolding closed_of
  lone_closes k from to h = rw h

  still_closes : (k : ℕ) (from : List ℕ) → Within C from → at from ≡ stage S (member C) v k
      → closed_of S C from (round_on S C from) ≡ lone_of (graph_of S) C || still_of S C v k
  unfolding closed_of
  still_closes k from w e =
      let m = in_memory S C v from w in
      ap (λ (t : Bool). lone_of (graph_of S) C || t) (sym m.altered ∙ m.still k e)

  from_stage : (k : ℕ) (s from : List ℕ) → k < rounds_of S C v → from_of S C (suc k) s ≡ from → length from ≡ length s → Within C from
      → at from ≡ stage S (member C) v k → Rounded S C v k s
  from_stage k s from l e p w a = rounded S C v k s from c l e p ((in_memory S C v from w).round k a) (still_closes k from w a)

  first_round : (s : List ℕ) → 0 < rounds_of S C v → Within C s → at s ≡ v → Rounded S C v 0 s
  first_round s l w e = ⊎_elim
      (λ (h : lone_of (graph_of S) C ≡ true). rounded S C v 0 s s c l (from_lone S C s h) refl
      ((in_memory S C v s w).lone g h e) (lone_closes 0 s (round_on S C s) h))
      (λ (h : lone_of (graph_of S) C ≡ false). from_stage 0 s (empty_on C s) l (from_first S C s h) (length_stores C s (λ x. 0))
      (λ x m. rw (length_stores C s (λ x. 0)) (w x m)) ((in_memory S C v s w).emptied e))
      (either (lone_of (graph_of S) C))

  later_round : (k : ℕ) (s : List ℕ) → suc k < rounds_of S C v → Within C s → at s ≡ stage S (member C) v (suc k) → Rounded S C v (suc k) s
  later_round k s l w e = from_stage (suc k) s s l (from_later S C k s) refl w e

-- ---- a step

-- the number of the round: 1 for a circle other than the one at work
round_first : (r : Record) (i c e j : ℕ) → round_number (working r i 0 c e) j ≡ 1
unfolding round_number
round_first r i c e j = ⊎_elim (λ (h : eqb j i ≡ true). rw h) (λ (h : eqb j i ≡ false). rw h) (either (eqb j i))

round_next : (r : Record) (i k c e : ℕ) → suc k ≤ 262145 → round_number (working r i k c e) i ≡ suc k
unfolding round_number
round_next r i k c e h = rw (eq-eqb i i refl) (min-eq_left h)

-- the step after t rounds finds no due circle
pub record Ended (S : System) (R : List (List ℕ)) (r : Record) (earlier : List ℕ) (t : ℕ) (s : List ℕ) (m : Made) : Type 0 where
  pub time : t ≡ rounds_to S R (sown_of r) (at earlier) (length R)
  pub value : at s ≡ after_of S R (sown_of r) (at earlier) (length R)
  pub made : m ≡ record {
    outcome = done (circles_to S R (sown_of r) (at earlier) (length R)) (evaluations_to S R (sown_of r) (at earlier) (length R)) (changed_of S r earlier s);
    next = shut r.held r.nodes;
    sets = s;
  }

module _ (S : System) (R : List (List ℕ)) (r : Record) (earlier : List ℕ) (B : Begins S R r earlier) where
  abbrev sown : ℕ → Bool
  sown = sown_of r

  abbrev b : Assignment
  b = at earlier

  abbrev after : ℕ → Assignment
  after = after_of S R (sown_of r) (at earlier)

  climb : (i : ℕ) → Climbs S (circle_at R i) (after i)
  climb i = climbs_at S R sown b B.lawful B.small i

  within : (i : ℕ) (s : List ℕ) → length s ≡ length earlier → Within (circle_at R i) s
  within i s p x m = omega (arith, B.room x (B.ranked.declared i x m))

  phase_round : (i j : ℕ) (s : List ℕ) → length s ≡ length earlier → j < rounds_at S R sown b i → Phase S R sown b i j (at s) → Rounded S (circle_at R i) (after i) j s
  unfolding rounds_at
  phase_round i zero s p l (between e) = first_round S (circle_at R i) (B.lawful i).gaining (after i) (climb i) s l (within i s p) e
  phase_round i (suc j) s p l (climbing g w h f e) = later_round S (circle_at R i) (B.lawful i).gaining (after i) (climb i) j s l (within i s p) e

  round_flag : (i j : ℕ) (s : List ℕ) → length s ≡ length earlier → j < rounds_at S R sown b i → Phase S R sown b i j (at s)
      → closed_of S (circle_at R i) (from_of S (circle_at R i) (suc j) s) (to_of S (circle_at R i) (from_of S (circle_at R i) (suc j) s)) ≡ eqb (suc j) (rounds_at S R sown b i)
  unfolding rounds_at
  round_flag i j s p l g = (phase_round i j s p l g).closed

  one : (i : ℕ) → 0 < rounds_at S R sown b i
  unfolding rounds_at
  one i = (climb i).takes.some

  still_on_lem : (i j : ℕ) → j < rounds_at S R sown b i → lone_of (graph_of S) (circle_at R i) || still_of S (circle_at R i) (after i) j ≡ eqb (suc j) (rounds_at S R sown b i)
  unfolding rounds_at
  still_on_lem i j l = closes_at S (circle_at R i) (after i) (climb i) j l

  -- a circle's rounds leave all others as they are
  phase_outside : (i j : ℕ) (v : Assignment) → Phase S R sown b i j v → (x : ℕ) → member (circle_at R i) x ≡ false → v x ≡ after i x
  phase_outside i zero v (between e) x o = ap (λ (u : Assignment). u x) e
  phase_outside i (suc j) v (climbing g w h f e) x o = ap (λ (u : Assignment). u x) e ∙ stage_out S (member (circle_at R i)) (after i) (suc j) x o

  -- round j + 1 of circle i, after t rounds, by a record that has counted so far
  going : (t i j i₀ k₀ c e : ℕ) (s : List ℕ) → i < length R → worked_of S R sown b i ≡ true → j < rounds_at S R sown b i → length s ≡ length earlier → Phase S R sown b i j (at s)
      → t ≡ rounds_to S R sown b i + j → c ≡ circles_to S R sown b i → e ≡ evaluations_to S R sown b i + length (circle_at R i) * j
      → NextRound S R r earlier t s (round_made S (circle_at R i) (working r i₀ k₀ c e) i (suc j) s)
  unfolding round_made round_record
  going t i j i₀ k₀ c e s l w f p g ht hc he = record {
    i = i;
    k = suc j;
    scheduled = record { rank = l; worked = w; some = omega arith; few = f; time = omega arith };
    made = record {
      outcome = rw flag;
      value = d.value;
      elsewhere = λ x o. ap (λ (u : Assignment). u x) d.value ∙ stage_out S (member C) (after i) (suc j) x o ∙ sym (phase_outside i j (at s) g x o);
      next = ⊎_elim (λ (h : eqb (suc j) (rounds_at S R sown b i) ≡ true). rw h (closed h).numbers) (λ (h : eqb (suc j) (rounds_at S R sown b i) ≡ false). rw h (on h).numbers)
          (either (eqb (suc j) (rounds_at S R sown b i)));
    };
    stands = ⊎_elim closed on (either (eqb (suc j) (rounds_at S R sown b i)));
  }
    where
      C : List ℕ
      C = circle_at R i

      m : Made
      m = round_made S (circle_at R i) (working r i₀ k₀ c e) i (suc j) s

      d : Rounded S (circle_at R i) (after i) j s
      d = phase_round i j s p f g

      flag : closed_of S (circle_at R i) (from_of S (circle_at R i) (suc j) s) (to_of S (circle_at R i) (from_of S (circle_at R i) (suc j) s)) ≡ eqb (suc j) (rounds_at S R sown b i)
      flag = round_flag i j s p f g

      limits : Limits S R sown b
      limits = all_limits S R B.lawful B.few sown b B.small

      few : min (e + length C) 1073745920 ≡ e + length C
      few = min-eq_left (omega (arith, limits.midst i j l w f))

      closed : eqb (suc j) (rounds_at S R sown b i) ≡ true → StandsAfter S R r earlier (suc t) m.next m.sets
      closed h =
          let q : suc j ≡ rounds_at S R sown b i = eqb-true (suc j) (rounds_at S R sown b i) h in
          let a = adds S R sown b i w in
          let u : suc i + (length R - suc i) ≡ length R = omega arith in
          let n : circles_to S R sown b (suc i) ≤ circles_to S R sown b (length R) = rw u at (sum_mono (λ j. cond (worked_of S R sown b j) 1 0) (suc i) (length R - suc i)) in
          let z : min (suc c) 4092 ≡ circles_to S R sown b (suc i) = min-eq_left (omega (arith, a.circles, limits.circles)) ∙ (omega (arith, a.circles)) in
          let y : e + length C ≡ evaluations_to S R sown b (suc i) + length (circle_at R (suc i)) * 0 = omega (arith, a.evaluations, ap (λ (n : ℕ). length C * n) q) in
          record {
            i = suc i;
            k = 0;
            rank = l;
            numbers = rw (flag, h, few, z, y);
            phase = between (d.value ∙ ap (λ (n : ℕ). stage S (member C) (after i) n) q ∙ sym (after_worked S R sown b i w));
            time = omega (arith, a.rounds);
            places = d.places ∙ p;
          }

      on : eqb (suc j) (rounds_at S R sown b i) ≡ false → StandsAfter S R r earlier (suc t) m.next m.sets
      on h =
          let q : suc j < rounds_at S R sown b i = ⊎_elim (λ e. absurd (eqb-false (suc j) (rounds_at S R sown b i) h e)) (λ k. k) (eq-or-lt_of_le f) in
          let y : e + length C ≡ evaluations_to S R sown b i + length C * suc j = omega arith in
          record {
            i = i;
            k = suc j;
            rank = omega arith;
            numbers = rw (flag, h, few, y, hc);
            phase = climbing l w (or_false_is {a = lone_of (graph_of S) C} (still_on_lem i j f ∙ h)).0 q d.value;
            time = omega arith;
            places = d.places ∙ p;
          }

  -- where the step looks
  abbrev Look : List ℕ → ℕ → ℕ → Type 0
  Look s i j = Found (λ n. due_of S sown b (at s) (circle_at R n)) (length R - i) i j

  look : (i k c e : ℕ) (s : List ℕ) → Look s i (due_from S R (working r i k c e) earlier s)
  unfolding due_from sown_of
  look i k c e s = least_from_lem (λ n. due_of S sown b (at s) (circle_at R n)) (length R - i) i

  step_round : (i k c e : ℕ) (s : List ℕ) (j n : ℕ) → due_from S R (working r i k c e) earlier s ≡ j → j < length R → round_number (working r i k c e) j ≡ n
      → step_of S R (working r i k c e) earlier s ≡ round_made S (circle_at R j) (working r i k c e) j n s
  unfolding step_of
  step_round i k c e s j n p l q = rw (p, lt-ltb j (length R) l, q)

  step_done : (i k c e : ℕ) (s : List ℕ) → length R ≤ due_from S R (working r i k c e) earlier s
      → step_of S R (working r i k c e) earlier s ≡ record { outcome = done c e (changed_of S r earlier s); next = shut r.held r.nodes; sets = s }
  unfolding step_of done_made changed_of survives
  step_done i k c e s l = rw (le-ltb (due_from S R (working r i k c e) earlier s) (length R) l)

  abbrev Law : ℕ → List ℕ → Made → Type 0
  Law t s m = NextRound S R r earlier t s m ⊎ Ended S R r earlier t s m

  -- between two circles: the first that is due, or done
  between_law : (t i c e : ℕ) (s : List ℕ) → i ≤ length R → at s ≡ after i → t ≡ rounds_to S R sown b i → length s ≡ length earlier
      → c ≡ circles_to S R sown b i → e ≡ evaluations_to S R sown b i → Law t s (step_of S R (working r i 0 c e) earlier s)
  unfolding worked_of
  between_law t i c e s n v ht p hc he = ⊎_elim some none (either (ltb j (length R)))
    where
      j : ℕ
      j = due_from S R (working r i 0 c e) earlier s

      f : Look s i j
      f = look i 0 c e s

      q : Passed S R sown b i j
      q = passed S R sown b i j f.from (λ k h l. sym (ap (λ (u : Assignment). due_of S sown b u (circle_at R k)) v) ∙ f.below k h l)

      w : at s ≡ after j
      w = v ∙ sym q.value

      some : ltb j (length R) ≡ true → Law t s (step_of S R (working r i 0 c e) earlier s)
      some h =
          let l : j < length R = ltb-true j (length R) h in
          let d : worked_of S R sown b j ≡ true = sym (ap (λ (u : Assignment). due_of S sown b u (circle_at R j)) w) ∙ f.here (omega arith) in
          inl (rw (step_round i 0 c e s j 1 refl l (round_first r i c e j))
          (going t j 0 i 0 c e s l d (one j) p (between w)
          (omega (arith, q.rounds)) (hc ∙ sym q.circles) (omega (arith, q.evaluations))))

      none : ltb j (length R) ≡ false → Law t s (step_of S R (working r i 0 c e) earlier s)
      none h =
          let l : length R ≤ j = ltb-false j (length R) h in
          let z : j ≡ length R = omega (arith, f.upto) in
          let a : Passed S R sown b i (length R) = rw z at q in
          inr (rw (step_done i 0 c e s l) (record {
            time = ht ∙ sym a.rounds;
            value = v ∙ sym a.value;
            made = rw (hc ∙ sym a.circles, he ∙ sym a.evaluations);
          }))

  -- a circle at work is due still: what it reads outside is as it was
  stays_due : (i k c e : ℕ) (s : List ℕ) (n : ℕ) → worked_of S R sown b i ≡ true → at s ≡ stage S (member (circle_at R i)) (after i) n
      → due_from S R (working r i k c e) earlier s ≡ i
  unfolding worked_of
  stays_due i k c e s n w v = ⊎_elim (λ e. sym e) (λ l. absurd (true≢false (sym d ∙ f.below i (le_refl i) l))) (eq-or-lt_of_le f.from)
    where
      f : Look s i (due_from S R (working r i k c e) earlier s)
      f = look i k c e s

      d : due_of S sown b (at s) (circle_at R i) ≡ true
      d = due_agree S sown b (circle_at R i) (at s) (after i)
          (λ x m y a o. ap (λ (u : Assignment). u y) v ∙ stage_out S (member (circle_at R i)) (after i) n y o) ∙ w

  phase_law : (t i k : ℕ) (s : List ℕ) → i ≤ length R → Phase S R sown b i k (at s) → t ≡ rounds_to S R sown b i + k → length s ≡ length earlier
      → Law t s (step_of S R (record_at S R r earlier i k) earlier s)
  phase_law t i zero s n (between v) ht p = between_law t i _ _ s n v (omega arith) p refl (omega arith)
  phase_law t i (suc k) s n (climbing l w o f v) ht p =
      let c = circles_to S R sown b i in
      let e = evaluations_to S R sown b i + length (circle_at R i) * suc k in
      let q : due_from S R (working r i (suc k) c e) earlier s ≡ i = stays_due i (suc k) c e s (suc k) w v in
      let h : suc (suc k) ≤ 262145 = omega (arith, (all_limits S R B.lawful B.few sown b B.small).rounds i l) in
      inl (rw (step_round i (suc k) c e s i (suc (suc k)) q l (round_next r i (suc k) c e h))
      (going t i (suc k) i (suc k) c e s l w f p (climbing l w o f v) ht refl refl))

  -- from where an update stands a step goes on, or ends it
  pub step_law : (t : ℕ) (now : Record) (s : List ℕ) → StandsAfter S R r earlier t now s → Law t s (step_of S R now earlier s)
  step_law t now s g = rw g.numbers (phase_law t g.i g.k s g.rank g.phase g.time g.places)
