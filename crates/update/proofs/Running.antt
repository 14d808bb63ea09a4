-- Runs of an update just opened: where they pause, when they finish, and what is left then. Assumes nothing.
use mathlib.Core.Path.{◌≡◌, refl, sym, ap, ◌∙◌, fun_ext}
use mathlib.Core.Bool.{Bool, true, cond}
use mathlib.Core.Logic.{◌⊎◌, inl, inr, ⊎_elim}
use mathlib.Core.List.{List}
use Prim.Native.Nat.{ℕ, zero, suc, ◌+◌, ◌-◌, ◌*◌, ◌≤◌, ◌<◌, zero-le}
use native.Mathlib.Nat.{zero-add, add-zero, le_trans}
use native.Mathlib.Omega.{arith}
use lib.ListN.{length}
use Rattle.climb.specs.System.{Assignment, System}
use Rattle.climb.specs.Climb.{rounds_of}
use Rattle.climb.specs.Circuit.{due_of, after_of, worked_of, rounds_at, circles_to, rounds_to, evaluations_to}
use Rattle.climb.specs.Memory.{at}
use Rattle.climb.specs.CircuitLaws.{Limits}
use Rattle.climb.proofs.Sums.{sum_mono}
use Rattle.climb.proofs.Finishing.{final_least, all_final, load_most, load_kept, all_limits}
use Rattle.update.specs.declared.Record.{Record}
use Rattle.update.specs.Records.{is_load, shut, working}
use Rattle.update.specs.Within.{WithinLimits}
use Rattle.update.specs.Steps.{sown_of, changed_of, Outcome, round, done, continued, Made, step_of, paused, finished, RunMade, run_of}
use Rattle.update.specs.Course.{Begins, ran_of, whole_of, Phase, between, climbing, StandsAfter, NextRound, NthRound, EachRound, Pauses, AllPause, AllFinish, RunsOn, LeastAtDone, LoadIsKept, LoadEvaluates, NeverBeyond, record_at}
use Rattle.update.proofs.Within.{beyond_means}
use Rattle.update.proofs.Stepping.{Ended, step_law}
use Rattle.update.proofs.Scheduling.{rounds_mono, rounds_behind, one_schedule}
use Rattle.circles.specs.Ranked.{sum_to, circle_at}

pub same_record : (r : Record) (i k c e : ℕ) → r.rank ≡ i → r.round ≡ k → r.circles ≡ c → r.evaluations ≡ e → r ≡ working r i k c e
same_record r i k c e hi hk hc he = rw (← hi, ← hk, ← hc, ← he)

-- after t rounds, with a budget of n
record DoneAt (S : System) (R : List (List ℕ)) (r : Record) (earlier : List ℕ) (t n : ℕ) (a : RunMade) : Type 0 where
  enough : whole_of S R r earlier < t + n
  rounds : t + a.rounds ≡ whole_of S R r earlier
  ending : a.ending ≡ finished (circles_to S R (sown_of r) (at earlier) (length R)) (evaluations_to S R (sown_of r) (at earlier) (length R)) (changed_of S r earlier a.sets)
  next : a.next ≡ shut r.held r.nodes
  value : at a.sets ≡ after_of S R (sown_of r) (at earlier) (length R)
  places : length a.sets ≡ length earlier

record PausedAt (S : System) (R : List (List ℕ)) (r : Record) (earlier : List ℕ) (t n : ℕ) (a : RunMade) : Type 0 where
  rounds : a.rounds ≡ n
  ending : a.ending ≡ paused
  stands : StandsAfter S R r earlier (t + n) a.next a.sets

module _ (S : System) (R : List (List ℕ)) (r : Record) (earlier : List ℕ) (B : Begins S R r earlier) where
  abbrev sown : ℕ → Bool
  sown = sown_of r

  abbrev b : Assignment
  b = at earlier

  abbrev Law : ℕ → ℕ → RunMade → Type 0
  Law t n a = PausedAt S R r earlier t n a ⊎ DoneAt S R r earlier t n a

  abbrev more : RunMade → RunMade
  more a = record { rounds = suc a.rounds; ending = a.ending; next = a.next; sets = a.sets }

  law_more : (t n : ℕ) (a : RunMade) → Law (suc t) n a → Law t (suc n) (more a)
  law_more t n a (inl p) =
      let q : suc t + n ≡ t + suc n = omega arith in
      inl (record { rounds = ap suc p.rounds; ending = p.ending; stands = rw q at p.stands })
  law_more t n a (inr d) =
      inr (record { enough = omega (arith, d.enough); rounds = omega (arith, d.rounds); ending = d.ending; next = d.next; value = d.value; places = d.places })

  run_law : (n t : ℕ) (now : Record) (s : List ℕ) → StandsAfter S R r earlier t now s → Law t n (run_of S R earlier n now s)
  unfolding run_of
  run_law zero t now s g = inl (record { rounds = refl; ending = refl; stands = rw (add-zero t) g })
  run_law (suc n) t now s g = ⊎_elim (λ h. on h (run_law n (suc t) m.next m.sets h.stands)) off (step_law S R r earlier B t now s g)
    where
      m : Made
      m = step_of S R now earlier s

      on : NextRound S R r earlier t s m → Law (suc t) n (run_of S R earlier n m.next m.sets) → Law t (suc n) (run_of S R earlier (suc n) now s)
      on h a = rw h.made.outcome (law_more t n (run_of S R earlier n m.next m.sets) a)

      off : Ended S R r earlier t s m → Law t (suc n) (run_of S R earlier (suc n) now s)
      off h = inr (rw h.made (record {
        enough = omega (arith, h.time);
        rounds = omega (arith, h.time);
        ending = refl;
        next = refl;
        value = h.value;
        places = g.places;
      }))

  -- t rounds are not more than all
  stands_time : (t : ℕ) (now : Record) (s : List ℕ) → StandsAfter S R r earlier t now s → t ≤ whole_of S R r earlier
  stands_time t now s g = by_phase g.i g.k (at s) g.rank g.phase g.time
    where
      by_phase : (i k : ℕ) (v : Assignment) → i ≤ length R → Phase S R sown b i k v → t ≡ rounds_to S R sown b i + k → t ≤ whole_of S R r earlier
      by_phase i zero v n (between e) h = omega (arith, rounds_mono S R sown b i (length R) n)
      by_phase i (suc k) v n (climbing l w o f e) h = omega (arith, rounds_behind S R sown b i (length R) w l)

  begins : StandsAfter S R r earlier 0 r earlier
  unfolding sum_to after_of
  begins = record { i = 0; k = 0; rank = zero-le; numbers = same_record r 0 0 0 _ B.fresh.rank B.fresh.round B.fresh.circles (B.fresh.evaluations ∙ omega arith); phase = between refl; time = omega arith; places = refl }

  run_opened : (n : ℕ) → Law 0 n (ran_of S R r earlier n)
  run_opened n = run_law n 0 r earlier begins

  pauses_at : (n : ℕ) → n ≤ whole_of S R r earlier → Pauses S R r earlier n (ran_of S R r earlier n)
  pauses_at n h = ⊎_elim (λ p. record { rounds = p.rounds; ending = p.ending; stands = rw (zero-add n) at p.stands }) (λ d. absurd (omega (arith, d.enough))) (run_opened n)

  done_at : (n : ℕ) → whole_of S R r earlier < n → DoneAt S R r earlier 0 n (ran_of S R r earlier n)
  done_at n h = ⊎_elim (λ p. absurd (omega (arith, stands_time (0 + n) _ _ p.stands))) (λ d. d) (run_opened n)

pub pauses : AllPause
pauses S R r earlier B n h = pauses_at S R r earlier B n h

pub finishes : AllFinish
finishes S R r earlier B n h =
    let d = done_at S R r earlier B n h in
    let f = all_final S R B.lawful B.ranked (sown_of r) (at earlier) in
    record {
      rounds = omega (arith, d.rounds);
      ending = d.ending;
      next = d.next;
      value = d.value;
      places = d.places;
      due = λ i l. (f i (omega arith)).worked ∙ ap (λ (u : Assignment). due_of S (sown_of r) (at earlier) u (circle_at R i)) (sym d.value);
      climb = λ i l. (f i (omega arith)).rounds ∙ ap (λ (u : Assignment). rounds_of S (circle_at R i) u) (sym d.value);
    }

pub nth_round : NthRound
nth_round S R r earlier B n h = ⊎_elim (λ g. g) (λ e. absurd (omega (arith, e.time)))
    (step_law S R r earlier B n (ran_of S R r earlier n).next (ran_of S R r earlier n).sets (pauses_at S R r earlier B n (omega arith)).stands)

pub each_round : EachRound
each_round S R r earlier B i k n f =
    let o = one_schedule S R (sown_of r) (at earlier) in
    let g = nth_round S R r earlier B n (o.within i k n f) in
    let e = o.one g.i g.k i k n g.scheduled f in
    rw (e.0, e.1) at g.made

-- ---- a run in two parts

-- the second part behind the first
abbrev in_two : RunMade → RunMade → RunMade
in_two a b = record { rounds = a.rounds + b.rounds; ending = b.ending; next = b.next; sets = b.sets }

-- behind one step
step_on : (o : Outcome) (r : Record) (s : List ℕ) (first all rest : Record → List ℕ → RunMade)
    → ((first r s).ending ≡ paused → all r s ≡ in_two (first r s) (rest (first r s).next (first r s).sets))
    → (continued o r s first).ending ≡ paused → continued o r s all ≡ in_two (continued o r s first) (rest (continued o r s first).next (continued o r s first).sets)
step_on (round a k c d) r s first all rest f h =
    let b = rest (first r s).next (first r s).sets in
    let q : suc ((first r s).rounds + b.rounds) ≡ suc (first r s).rounds + b.rounds = omega arith in
    rw (f h, q)
step_on (done a c d) r s first all rest f h = let z : ◌≡◌ {A = ℕ} 0 1 = cc in absurd (omega arith)

pub runs_on : RunsOn
unfolding run_of
runs_on S R earlier zero k r s h = rw (zero-add k, zero-add (run_of S R earlier k r s).rounds)
runs_on S R earlier (suc n) k r s h =
    let m = step_of S R r earlier s in
    let q : suc n + k ≡ suc (n + k) = omega arith in
    rw q (step_on m.outcome m.next m.sets (run_of S R earlier n) (run_of S R earlier (n + k)) (run_of S R earlier k) (runs_on S R earlier n k m.next m.sets) h)

-- ---- demand 2

pub least_at_done : LeastAtDone
least_at_done S R r earlier B k n h =
    let e : after_of S R (sown_of r) (at earlier) (length R) ≡ at (ran_of S R r earlier n).sets = sym (finishes S R r earlier B n h).value in
    rw e at (final_least S R B.lawful B.ranked (sown_of r) (at earlier) B.small k)

load_sown : (r : Record) → is_load r.«open» ≡ true → sown_of r ≡ (λ x. true)
unfolding sown_of
load_sown r h = fun_ext (λ x. rw h)

pub load_is_kept : LoadIsKept
load_is_kept S R r b h = rw (load_sown r h) (load_kept S R b)

pub load_evaluates : LoadEvaluates
load_evaluates S R r t b b' B B' k h = rw (load_sown t h) (load_most S R B.lawful B.ranked (sown_of r) (at b) (at b') B.small B'.small k)

-- ---- the limits

module _ (S : System) (R : List (List ℕ)) (r : Record) (earlier : List ℕ) (B : Begins S R r earlier) where
  limits : Limits S R (sown_of r) (at earlier)
  limits = all_limits S R B.lawful B.few (sown_of r) (at earlier) B.small

  within_at : (i k : ℕ) (v : Assignment) → i ≤ length R → Phase S R (sown_of r) (at earlier) i k v → WithinLimits r → WithinLimits (record_at S R r earlier i k)
  within_at i k v n g w = record {
    nodes = w.nodes;
    count = w.count;
    numbers = w.numbers;
    rank = omega (arith, B.few.count);
    round = few k g;
    circles = le_trans c limits.circles;
    evaluations = evals k g;
    inside = w.inside;
  }
    where
      q : i + (length R - i) ≡ length R
      q = omega arith

      c : circles_to S R (sown_of r) (at earlier) i ≤ circles_to S R (sown_of r) (at earlier) (length R)
      c = rw q at (sum_mono (λ j. cond (worked_of S R (sown_of r) (at earlier) j) 1 0) i (length R - i))

      e : evaluations_to S R (sown_of r) (at earlier) i ≤ evaluations_to S R (sown_of r) (at earlier) (length R)
      e = rw q at (sum_mono (λ j. cond (worked_of S R (sown_of r) (at earlier) j) (length (circle_at R j) * rounds_at S R (sown_of r) (at earlier) j) 0) i (length R - i))

      few : (k : ℕ) → Phase S R (sown_of r) (at earlier) i k v → k ≤ 262145
      few zero (between p) = omega arith
      few (suc k) (climbing l w o f p) = omega (arith, limits.rounds i l)

      evals : (k : ℕ) → Phase S R (sown_of r) (at earlier) i k v → evaluations_to S R (sown_of r) (at earlier) i + length (circle_at R i) * k ≤ 1073745920
      evals zero (between p) = omega (arith, e, limits.evaluations)
      evals (suc k) (climbing l w o f p) = omega (arith, limits.midst i (suc k) l w f)

pub never_beyond : NeverBeyond
never_beyond S R r earlier B w n h =
    let g = (pauses S R r earlier B n h).stands in
    rw g.numbers ((beyond_means (record_at S R r earlier g.i g.k)).1 (within_at S R r earlier B g.i g.k _ g.rank g.phase ((beyond_means r).0 w)))
