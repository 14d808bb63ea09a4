-- An update that our calls opened, of whatever tree, is worked as demand 3 asks: its circles, their climbs, every round in its turn, its runs and its end. Assumes nothing.
use mathlib.Core.Path.{◌≡◌, refl, sym, ap, ◌∙◌, subst, fun_ext}
use mathlib.Core.Bool.{Bool, true, false, not, ◌&&◌, ◌||◌, true≢false}
use mathlib.Core.Logic.{⊎_elim, ◌↔◌}
use mathlib.Core.List.{List, [], ◌∷◌}
use Prim.Native.Nat.{ℕ, suc, ◌+◌, ◌*◌, ◌≤◌, ◌<◌}
use native.Mathlib.Nat.{le_refl, eq-or-lt_of_le}
use native.Mathlib.Numerals.{add-one}
use native.Mathlib.Omega.{arith}
use lib.Dec.{eqb}
use lib.ListN.{length, get_or, get_or-eq_default}
use lib.Seq.{ext_get_or}
use Rattle.circles.specs.Ranked.{sum_to, circle_at, member, any_of}
use Rattle.circles.proofs.Lists.{first_member}
use Rattle.climb.specs.System.{Assignment, System, graph_of}
use Rattle.climb.specs.Climb.{stage, rounds_of}
use Rattle.climb.specs.Circuit.{due_of, after_of, worked_of, rounds_at, circles_to, rounds_to, evaluations_to}
use Rattle.climb.specs.ByRank.{LeastByRank}
use Rattle.climb.specs.Restrict.{Solved}
use Rattle.climb.specs.Laws.{Climbs, ClimbsAlike}
use Rattle.climb.specs.Memory.{at}
use Rattle.climb.proofs.Lists.{either, le_or_lt, member_of, any_cong}
use Rattle.climb.proofs.Systems.{weight_cong}
use Rattle.climb.proofs.Stages.{stage_out}
use Rattle.climb.proofs.Rounds.{climbs, lone_once, agree_alike}
use Rattle.climb.proofs.Solving.{by_rank_unique}
use Rattle.climb.proofs.Restriction.{climbs_again}
use Rattle.climb.proofs.Sums.{sum_same}
use Rattle.climb.proofs.Finishing.{agree_final}
use Rattle.wire.specs.Instances.{declared, system}
use Rattle.update.specs.declared.Record.{Record}
use Rattle.update.specs.Memories.{Memory}
use Rattle.update.specs.Steps.{sown_of, changed_of, Outcome, round, done, step_of, Ending, paused, finished, RunMade, run_of}
use Rattle.update.specs.Calls.{Said, said, Left, leaving, RunOutcome, run_outcome, with_sets, step_call, run_call}
use Rattle.update.specs.Course.{ran_of, whole_of, Scheduled, record_at, record_behind, NextRound, Finishes}
use Rattle.update.proofs.Scheduling.{one_schedule}
use Rattle.update.proofs.Stepping.{Ended, step_law}
use Rattle.update.proofs.Running as running
use Rattle.update.proofs.Running.{same_record}
use Rattle.update.proofs.Ready.{circles, lawful, in_rank, Ready, begins, Settled, solved}
use Rattle.demands.specs.Engine.{ours}
use Rattle.demands.specs.History.{Working, at_start, and_run, WorkedToDone}
use Rattle.demands.specs.Asked.{LeastSets, OneLeast}
use Rattle.demands.specs.Work.{due_by, climb_by, over_due, Climbing, RoundTurn, Makes}
use Rattle.demands.specs.Demands.{WorkedOn, Counts, Concludes, Update}
use Rattle.demands.specs.Counting.{counted_at, counted_behind, Uncut}
use Rattle.demands.proofs.Circles.{one_by_rank, loadable, loadable_by_rank}
use Rattle.demands.proofs.Due.{due_exactly}
use Rattle.demands.proofs.Rows.{Amid, amid, ended, step_there, run_there}
use Rattle.demands.proofs.Histories.{finished_settled}

-- done's numbers, one by one
pub numbers : {c e x c' e' x' : ℕ} → finished c e x ≡ finished c' e' x' → Counts c e x c' e' x'
numbers h = record { circles = cc; evaluations = cc; changed = cc }

both : {c e x c' e' x' c'' e'' x'' : ℕ} → Counts c e x c' e' x' → Counts c' e' x' c'' e'' x'' → Counts c e x c'' e'' x''
both a b = record { circles = a.circles ∙ b.circles; evaluations = a.evaluations ∙ b.evaluations; changed = a.changed ∙ b.changed }

done_same : {c e x c' e' x' : ℕ} → Counts c e x c' e' x' → done c e x ≡ done c' e' x'
done_same k = rw (k.circles, k.evaluations, k.changed)

finished_same : {c e x c' e' x' : ℕ} → Counts c e x c' e' x' → finished c e x ≡ finished c' e' x'
finished_same k = rw (k.circles, k.evaluations, k.changed)

-- a round's answer names its circle by the least instance and the size
round_same : {a k n a' k' n' : ℕ} {c c' : Bool} → said (round a k n c) ≡ said (round a' k' n' c') → (a ≡ a') × (n ≡ n')
round_same h = (cc, cc)

round_or_done : {a k n c e x : ℕ} {d : Bool} → said (round a k n d) ≡ said (done c e x) → ⊥
round_or_done h = let z : ◌≡◌ {A = ℕ} 0 1 = cc in absurd (omega arith)

some_due : (S : System) (fresh : ℕ → Bool) (b v : Assignment) (l : List ℕ) → due_of S fresh b v l ≡ true → 0 < length l
unfolding due_of
some_due S fresh b v [] h = absurd (true≢false (sym h))
some_due S fresh b v (x ∷ l) h = omega arith

pub one_least : OneLeast
one_least S v w a b = fun_ext (λ x. ⊎_elim
    (λ (d : S.declared x ≡ true). let c = a.by_rank.each x d in by_rank_unique S a.circles v w a.least there c.0 x c.2)
    (λ (d : S.declared x ≡ false). a.empty x d ∙ sym (b.empty x d)) (either (S.declared x)))
  where
    there : LeastByRank S a.circles w
    there = subst (λ (R : List (List ℕ)). LeastByRank S R w) (one_by_rank (graph_of S) b.circles a.circles b.by_rank a.by_rank) b.least

-- what is least is consistent
pub least_consistent : (S : System) (v : Assignment) → LeastSets S v → (x : ℕ) → S.declared x ≡ true → v x ≡ S.eval v x
least_consistent S v l x d = let c = l.by_rank.each x d in (l.least.circle c.0).consistent x c.2

pub least_settled : {t ns owns : List ℕ} {r : Record} {m : Memory} → Settled t ns owns r m → LeastSets (system t ns owns) (at m.sets)
least_settled {t} {ns} {owns} q =
    record { circles = circles t ns owns; by_rank = loadable_by_rank t ns owns (loadable q.sound); least = q.least; empty = q.empty }

-- what was asked of an opened update, beside what the calls wrote: v are the least sets of its tree, the sets are the ones before, and what is sown is what is
-- fresh
module _ {t ns owns : List ℕ} {r : Record} {m : Memory} (q : Ready t ns owns r m) (v : Assignment) (L : LeastSets (system t ns owns) v)
    (fresh : ℕ → Bool) (before : Assignment) (starts : at m.sets ≡ before) (sown : (x : ℕ) → declared t ns x ≡ true → sown_of r x ≡ fresh x) where
  abbrev S : System
  S = system t ns owns

  abbrev R : List (List ℕ)
  R = circles t ns owns

  abbrev C : ℕ → List ℕ
  C i = circle_at R i

  abbrev b : Assignment
  b = at m.sets

  abbrev due : ℕ → Bool
  due = due_by S R fresh before v

  abbrev climb : ℕ → ℕ
  climb = climb_by S R v

  abbrev run : ℕ → RunMade
  run n = ran_of S R r m.sets n

  -- the rounds of the definition of an update, and a budget with which it is done
  abbrev whole : ℕ
  whole = whole_of S R r m.sets

  abbrev N : ℕ
  N = suc whole

  F : Finishes S R r m.sets (run N)
  F = running.finishes S R r m.sets (begins q) N (le_refl N)

  -- ---- the circles and their climbs, as the least sets have them

  settled : Settled t ns owns (run N).next (with_sets m (run N).sets)
  settled = finished_settled q N (le_refl N)

  final : at (run N).sets ≡ v
  final = one_least S (at (run N).sets) v (least_settled settled) L

  solution : Solved S R v
  solution = subst (Solved S R) final (solved settled)

  after_all : after_of S R (sown_of r) b (length R) ≡ v
  after_all = sym F.value ∙ final

  -- circles alike in what is sown are due alike
  due_fresh : (i : ℕ) → due_by S R (sown_of r) before v i ≡ due i
  unfolding due_of
  due_fresh i = any_cong
      (λ x. sown_of r x || any_of (λ y. not (member (C i) y) && not (eqb (v y) (before y))) (S.args x))
      (λ x. fresh x || any_of (λ y. not (member (C i) y) && not (eqb (v y) (before y))) (S.args x)) (C i)
      (λ x h. rw (sown x ((in_rank q.sound).declared i x (member_of (C i) x h))))

  due_is : (i : ℕ) → i < length R → worked_of S R (sown_of r) b i ≡ due i
  due_is i l = F.due i l ∙ ap (λ (u : Assignment). due_of S (sown_of r) b u (C i)) final ∙ ap (λ (u : Assignment). due_of S (sown_of r) u v (C i)) starts ∙ due_fresh i

  climb_is : (i : ℕ) → i < length R → rounds_at S R (sown_of r) b i ≡ climb i
  climb_is i l = F.climb i l ∙ ap (rounds_of S (C i)) final

  rounds_is : (n : ℕ) → n ≤ length R → rounds_to S R (sown_of r) b n ≡ over_due due climb n
  rounds_is n l = sum_same _ _ n (λ i k. rw (due_is i (omega arith), climb_is i (omega arith)))

  circles_are : (n : ℕ) → n ≤ length R → circles_to S R (sown_of r) b n ≡ over_due due (λ i. 1) n
  circles_are n l = sum_same _ _ n (λ i k. rw (due_is i (omega arith)))

  evaluations_are : (n : ℕ) → n ≤ length R → evaluations_to S R (sown_of r) b n ≡ over_due due (λ i. length (C i) * climb i) n
  evaluations_are n l = sum_same _ _ n (λ i k. rw (due_is i (omega arith), climb_is i (omega arith)))

  whole_is : whole ≡ over_due due climb (length R)
  whole_is = rounds_is (length R) (le_refl (length R))

  climbing : (i : ℕ) → i < length R → Climbing S (C i) v (climb i)
  climbing i l = record {
    takes = c.takes;
    ends = ends;
    few = omega (arith, c.within, weight_cong (C i) (stage S (member (C i)) v (climb i)) v same);
    lone = λ h. (lone_once S (C i) (lawful q.sound i).gaining h v).one;
  }
    where
      c : Climbs S (C i) v
      c = climbs S (C i) v (lawful q.sound i) solution.small

      ends : (x : ℕ) → member (C i) x ≡ true → stage S (member (C i)) v (climb i) x ≡ v x
      ends x h = climbs_again S R v solution (member (C i)) (lawful q.sound i).gaining ((in_rank q.sound).declared i) (climb i) c.closed x h

      same : (x : ℕ) → stage S (member (C i)) v (climb i) x ≡ v x
      same x = ⊎_elim (λ (h : member (C i) x ≡ true). ends x h) (λ (h : member (C i) x ≡ false). stage_out S (member (C i)) v (climb i) x h) (either (member (C i) x))

  -- ---- turns

  to_turn : (i k n : ℕ) → Scheduled S R (sown_of r) b i k n → RoundTurn (length R) due climb i k n
  to_turn i k n s = record {
    rank = s.rank;
    worked = sym (due_is i s.rank) ∙ s.worked;
    some = s.some;
    few = omega (arith, climb_is i s.rank, s.few);
    time = omega (arith, rounds_is i (omega (arith, s.rank)), s.time);
  }

  from_turn : (i k n : ℕ) → RoundTurn (length R) due climb i k n → Scheduled S R (sown_of r) b i k n
  from_turn i k n s = record {
    rank = s.rank;
    worked = due_is i s.rank ∙ s.worked;
    some = s.some;
    few = omega (arith, climb_is i s.rank, s.few);
    time = omega (arith, rounds_is i (omega (arith, s.rank)), s.time);
  }

  -- the values with which a circle is worked are for its climb the least ones
  alike : (i : ℕ) → i < length R → ClimbsAlike S (C i) (after_of S R (sown_of r) b i) v
  alike i l = agree_alike S (C i) (lawful q.sound i).gaining (after_of S R (sown_of r) b i) v
      (λ x h y a o. sym (agree_final S R (in_rank q.sound) (sown_of r) b i (omega arith) x h y a o) ∙ ap (λ (u : Assignment). u y) after_all)

  -- a pause leaves as many sets as there were
  places : (n : ℕ) → n ≤ whole → length (run n).sets ≡ length m.sets
  places n l = (running.pauses S R r m.sets (begins q) n l).stands.places

  makes : (n : ℕ) (r₁ : Record) (m₁ : Memory) → Amid q n r₁ m₁ → (i k : ℕ) → RoundTurn (length R) due climb i k n → Makes S (C i) v (climb i) k m₁ (step_call t m₁ r₁)
  makes n r₁ m₁ a i k s =
      let f = from_turn i k n s in
      let d = running.each_round S R r m.sets (begins q) i k n f in
      let g = running.nth_round S R r m.sets (begins q) n ((one_schedule S R (sown_of r) b).within i k n f) in
      let h = step_there q n r₁ m₁ a in
      record {
        answer = ap (λ (y : Left (Said Outcome)). y.answer) h ∙ ap said d.outcome
            ∙ ap (λ (y : ℕ). said (round (get_or (C i) 0 0) k (length (C i)) (eqb k y))) (climb_is i s.rank);
        stage = λ x e. ap (λ (y : Left (Said Outcome)). at y.memory.sets x) h ∙ ap (λ (u : Assignment). u x) d.value ∙ (alike i s.rank).stages k x e;
        elsewhere = λ x e. ap (λ (y : Left (Said Outcome)). at y.memory.sets x) h ∙ d.elsewhere x e ∙ sym (ap (λ (y : Memory). at y.sets x) a.memory);
        room = ap (λ (y : Left (Said Outcome)). length y.memory.sets) h ∙ g.stands.places ∙ sym (places n a.time) ∙ sym (ap (λ (y : Memory). length y.sets) a.memory);
        rest = rw (h, a.memory);
      }

  -- ---- the end

  -- the step behind the last round, by the definition of a step
  ended_there : (n : ℕ) → n ≡ whole → Ended S R r m.sets n (run n).sets (step_of S R (run n).next m.sets (run n).sets)
  ended_there n e = ⊎_elim
      (λ (g : NextRound S R r m.sets n (run n).sets (step_of S R (run n).next m.sets (run n).sets)).
      absurd (omega (arith, (one_schedule S R (sown_of r) b).within g.i g.k n g.scheduled)))
      (λ d. d) (step_law S R r m.sets (begins q) n (run n).next (run n).sets (running.pauses S R r m.sets (begins q) n (omega arith)).stands)

  done_there : (n : ℕ) (r₁ : Record) (m₁ : Memory) → Amid q n r₁ m₁ → n ≡ whole → Concludes
      (done (circles_to S R (sown_of r) b (length R)) (evaluations_to S R (sown_of r) b (length R)) (changed_of S r m.sets (run n).sets)) m₁ (step_call t m₁ r₁)
  done_there n r₁ m₁ a e =
      let d = ended_there n e in
      let h = step_there q n r₁ m₁ a in
      record {
        answer = ap (λ (y : Left (Said Outcome)). y.answer) h ∙ rw d.made;
        memory = ap (λ (y : Left (Said Outcome)). y.memory) h ∙ rw d.made (sym a.memory);
      }

  last_sets : at (run whole).sets ≡ v
  last_sets = (ended_there whole refl).value ∙ after_all

  -- all that finish leave the sets that the last round leaves
  same_sets : (n : ℕ) → whole < n → (run n).sets ≡ (run whole).sets
  same_sets n l =
      let f = running.finishes S R r m.sets (begins q) n l in
      ext_get_or 0 (run n).sets (run whole).sets (f.places ∙ sym (places whole (le_refl whole)))
      (λ x k. ap (λ (u : Assignment). u x) (f.value ∙ after_all ∙ sym last_sets))

  -- ---- runs

  -- a run of k behind n rounds makes what is left of a run of n + k
  abbrev more : ℕ → ℕ → RunMade
  more n k = run_of S R m.sets k (run n).next (run n).sets

  record Rest (n k : ℕ) : Type 0 where
    rounds : (run (n + k)).rounds ≡ n + (more n k).rounds
    ending : (run (n + k)).ending ≡ (more n k).ending
    sets : (run (n + k)).sets ≡ (more n k).sets

  rest : (n k : ℕ) → n ≤ whole → Rest n k
  rest n k l =
      let p = running.pauses S R r m.sets (begins q) n l in
      let w = running.runs_on S R m.sets n k r m.sets p.ending in
      record {
        rounds = ap (λ (x : RunMade). x.rounds) w ∙ ap (λ (x : ℕ). x + (more n k).rounds) p.rounds;
        ending = ap (λ (x : RunMade). x.ending) w;
        sets = ap (λ (x : RunMade). x.sets) w;
      }

  there : (n k : ℕ) (r₁ : Record) (m₁ : Memory) → Amid q n r₁ m₁ → (run_call t m₁ r₁ k).answer ≡ said (run_outcome (more n k).rounds (more n k).ending)
  there n k r₁ m₁ a = ap (λ (x : Left (Said RunOutcome)). x.answer) (run_there q n k r₁ m₁ a)

  run_pauses : (n k : ℕ) (r₁ : Record) (m₁ : Memory) → Amid q n r₁ m₁ → n + k ≤ whole → (run_call t m₁ r₁ k).answer ≡ said (run_outcome k paused)
  run_pauses n k r₁ m₁ a l =
      let p = running.pauses S R r m.sets (begins q) (n + k) l in
      let d = rest n k a.time in
      let e : (more n k).rounds ≡ k = omega (arith, d.rounds, p.rounds) in
      there n k r₁ m₁ a ∙ ap (λ (x : ℕ). said (run_outcome x (more n k).ending)) e ∙ ap (λ (x : Ending). said (run_outcome k x)) (sym d.ending ∙ p.ending)

  -- a run from the opening on
  opening_run : (n : ℕ) → n ≤ whole → run_call t m r n ≡ leaving (run_outcome n paused) (run n).next (with_sets m (run n).sets)
  unfolding run_of
  opening_run n l =
      let p = running.pauses S R r m.sets (begins q) n l in
      run_there q 0 n r m (amid q at_start)
      ∙ ap (λ (x : ℕ). leaving (run_outcome x (run n).ending) (run n).next (with_sets m (run n).sets)) p.rounds
      ∙ ap (λ (x : Ending). leaving (run_outcome n x) (run n).next (with_sets m (run n).sets)) p.ending

  same : (n : ℕ) (r₁ : Record) (m₁ : Memory) → Amid q n r₁ m₁ → run_call t m r n ≡ leaving (run_outcome n paused) r₁ m₁
  same n r₁ m₁ a = opening_run n a.time ∙ rw (a.next, a.memory)

  -- ---- the circles worked on are the due ones

  rank_of : (i : ℕ) → due i ≡ true → i < length R
  rank_of i h = ⊎_elim
      (λ (l : length R ≤ i). let e : C i ≡ [] = get_or-eq_default R [] l in absurd (omega (arith, some_due S fresh before v (C i) h, ap length e)))
      (λ (l : i < length R). l) (le_or_lt (length R) i)

  is_worked : (i : ℕ) → due i ≡ true → WorkedOn ours t r m (C i)
  is_worked i h =
      let l = rank_of i h in
      let n = over_due due climb i in
      let f : RoundTurn (length R) due climb i 1 (0 + n) = record { rank = l; worked = h; some = omega arith; few = (climbing i l).takes.some; time = omega arith } in
      let k : n ≤ whole = omega (arith, (one_schedule S R (sown_of r) b).within i 1 (0 + n) (from_turn i 1 (0 + n) f)) in
      let w : Working ours t r m (0 + n) (run n).next (with_sets m (run n).sets) = and_run n at_start (opening_run n k) in
      record {
        n = 0 + n;
        k = 1;
        closed = eqb 1 (climb i);
        next = (run n).next;
        memory = with_sets m (run n).sets;
        row = w;
        step = (makes (0 + n) (run n).next (with_sets m (run n).sets) (amid q w) i 1 f).answer;
      }

  -- two circles with one least instance and one size are one
  same_circle : (i j : ℕ) → get_or (C i) 0 0 ≡ get_or (C j) 0 0 → length (C i) ≡ length (C j) → due j ≡ true → j ≡ i
  same_circle i j e n h =
      let s = some_due S fresh before v (C j) h in
      let p : member (C i) (get_or (C i) 0 0) ≡ true = first_member (C i) (omega arith) in
      let o : member (C j) (get_or (C i) 0 0) ≡ true = rw e (first_member (C j) s) in
      ⊎_elim
      (λ (a : i ≤ j). ⊎_elim
      (λ (d : j ≤ i). omega arith)
      (λ (d : i < j). absurd (true≢false (sym o ∙ (in_rank q.sound).apart i j (get_or (C i) 0 0) d p))) (le_or_lt j i))
      (λ (d : j < i). absurd (true≢false (sym p ∙ (in_rank q.sound).apart j i (get_or (C i) 0 0) d o))) (le_or_lt i j)

  worked_due : (i : ℕ) → WorkedOn ours t r m (C i) → due i ≡ true
  worked_due i w = ⊎_elim
      (λ (e : w.n ≡ whole). absurd (round_or_done (sym w.step ∙ (done_there w.n w.next w.memory (amid q w.row) e).answer)))
      (λ (l : w.n < whole).
      let d = running.nth_round S R r m.sets (begins q) w.n l in
      let f = to_turn d.i d.k w.n d.scheduled in
      let e = round_same (sym w.step ∙ (makes w.n w.next w.memory (amid q w.row) d.i d.k f).answer) in
      let j = same_circle i d.i e.0 e.1 f.worked in
      rw j at f.worked)
      (eq-or-lt_of_le (amid q w.row).time)

  pub worked : (i : ℕ) → (due i ≡ true) ↔ WorkedOn ours t r m (C i)
  worked i = (is_worked i, worked_due i)

  -- ---- the record

  -- behind one more round
  next_run : (n : ℕ) → n < whole → (run (n + 1)).next ≡ (step_of S R (run n).next m.sets (run n).sets).next
  unfolding run_of
  next_run n l =
      let w = running.runs_on S R m.sets n 1 r m.sets (running.pauses S R r m.sets (begins q) n (omega arith)).ending in
      ap (λ (x : RunMade). x.next) w ∙ rw (running.nth_round S R r m.sets (begins q) n l).made.outcome

  counted_is : (i k : ℕ) → i ≤ length R → record_at S R r m.sets i k ≡ counted_at r R due climb i k
  counted_is i k l = rw (circles_are i l, evaluations_are i l)

  behind_is : (i k : ℕ) → i < length R → record_behind S R r m.sets i k ≡ counted_behind r R due climb i k
  behind_is i k l = rw (climb_is i l, counted_is (suc i) 0 l, counted_is i k (omega arith))

  pub uncut : Uncut ours t R due climb r m
  unfolding run_of sum_to
  uncut = record {
    opening = λ w. (amid q w).next ∙ same_record r 0 0 0 _ q.fresh.rank q.fresh.round q.fresh.circles (q.fresh.evaluations ∙ omega arith);
    behind = λ {n} {next} {memory} w i k f.
        let s = from_turn i k n f in
        let a : next ≡ (run (n + 1)).next = rw (add-one n) (amid q w).next in
        a ∙ next_run n ((one_schedule S R (sown_of r) b).within i k n s) ∙ (running.each_round S R r m.sets (begins q) i k n s).next ∙ behind_is i k f.rank;
  }

  -- ---- and changed is counted as asked

  module _ (changed : ℕ) (changes : (s : List ℕ) → at s ≡ v → changed_of S r m.sets s ≡ changed) where
    -- done's numbers by the definition of an update are those asked for
    counts_are : (s : List ℕ) → at s ≡ v → Counts (circles_to S R (sown_of r) b (length R)) (evaluations_to S R (sown_of r) b (length R)) (changed_of S r m.sets s)
        (over_due due (λ i. 1) (length R)) (over_due due (λ i. length (C i) * climb i) (length R)) changed
    counts_are s e = record {
      circles = circles_are (length R) (le_refl (length R));
      evaluations = evaluations_are (length R) (le_refl (length R));
      changed = changes s e;
    }

    ends : (n : ℕ) (r₁ : Record) (m₁ : Memory) → Amid q n r₁ m₁ → n ≡ whole
        → Concludes (done (over_due due (λ i. 1) (length R)) (over_due due (λ i. length (C i) * climb i) (length R)) changed) m₁ (step_call t m₁ r₁)
    ends n r₁ m₁ a e =
        let d = done_there n r₁ m₁ a e in
        record { answer = d.answer ∙ ap said (done_same (counts_are (run n).sets ((ended_there n e).value ∙ after_all))); memory = d.memory }

    counts : {c e x : ℕ} {r' : Record} {m' : Memory} → WorkedToDone ours t r m c e x r' m'
        → Counts c e x (over_due due (λ i. 1) (length R)) (over_due due (λ i. length (C i) * climb i) (length R)) changed
    counts w =
        let d = ended q w in
        let f = running.finishes S R r m.sets (begins q) d.budget d.enough in
        both (numbers (sym d.ending ∙ f.ending)) (counts_are (run d.budget).sets (f.value ∙ after_all))

    run_ends : (n k : ℕ) (r₁ : Record) (m₁ m₂ : Memory) → Amid q n r₁ m₁ → m₂ ≡ with_sets m (run whole).sets → whole < n + k → (j : ℕ) × (n + j ≡ whole)
        × Concludes (run_outcome j (finished (over_due due (λ i. 1) (length R)) (over_due due (λ i. length (C i) * climb i) (length R)) changed)) m₂ (run_call t m₁ r₁ k)
    run_ends n k r₁ m₁ m₂ a e l =
        let f = running.finishes S R r m.sets (begins q) (n + k) l in
        let d = rest n k a.time in
        let c = finished_same (counts_are (run (n + k)).sets (f.value ∙ after_all)) in (
          (more n k).rounds,
          omega (arith, f.rounds, d.rounds),
          record {
            answer = there n k r₁ m₁ a ∙ ap (λ (x : Ending). said (run_outcome (more n k).rounds x)) (sym d.ending ∙ f.ending ∙ c);
            memory = ap (λ (x : Left (Said RunOutcome)). x.memory) (run_there q n k r₁ m₁ a) ∙ ap (with_sets m) (sym d.sets ∙ same_sets (n + k) l) ∙ sym e;
          },
        )

    pub as_asked : Update ours t S R fresh before v due climb changed r m
    as_asked =
        let o = one_schedule S R (sown_of r) b in
        record {
          starts = λ x. ap (λ (u : Assignment). u x) starts;
          copied = λ x. ap (λ (u : Assignment). u x) (q.earlier ∙ starts);
          exactly = λ i. due_exactly S fresh before v (C i);
          worked = worked;
          climbing = climbing;
          turn = λ n l. let d = running.nth_round S R r m.sets (begins q) n (omega (arith, whole_is)) in (d.i, d.k, to_turn d.i d.k n d.scheduled);
          one = λ i k j l n f f'. o.one i k j l n (from_turn i k n f) (from_turn j l n f');
          within = λ i k n f. omega (arith, whole_is, o.within i k n (from_turn i k n f));
          makes = λ {n} {next} {memory} w i k f. makes n next memory (amid q w) i k f;
          last = λ {n} {next} {memory} w. omega (arith, whole_is, (amid q w).time);
          ends = λ {n} {next} {memory} w e. ends n next memory (amid q w) (e ∙ sym whole_is);
          same = λ {n} {next} {memory} w. same n next memory (amid q w);
          pauses = λ {n} {next} {memory} w budget l. run_pauses n budget next memory (amid q w) (omega (arith, whole_is));
          finishes = λ {n} {next} {last} {memory} {there} w z budget l.
              let e = run_ends n budget next memory there (amid q w)
              ((amid q z).memory ∙ ap (λ (k : ℕ). with_sets m (run k).sets) (sym whole_is)) (omega (arith, whole_is)) in
              (e.0, e.1 ∙ whole_is, e.2);
          counts = counts;
        }
