-- A row of steps and runs is one run: from an update just opened, none is refused, and after n rounds all stands as a run of n leaves it. Assumes nothing.
use mathlib.Core.Path.{◌≡◌, refl, sym, ap, ◌∙◌}
use mathlib.Core.Bool.{Bool, true, false, cond, not, ◌&&◌}
use mathlib.Core.Logic.{⊎_elim}
use mathlib.Core.List.{List}
use Prim.Native.Nat.{ℕ, zero, suc, ◌+◌, ◌-◌, ◌≤◌, ◌<◌, zero-le}
use native.Mathlib.Numerals.{add-one}
use native.Mathlib.Omega.{arith}
use lib.Dec.{eqb}
use lib.ListN.{length, take}
use Rattle.circles.specs.Ranked.{circle_at, keep, up_from, ranked}
use Rattle.climb.specs.System.{Assignment, System, graph_of}
use Rattle.climb.specs.Climb.{least_from}
use Rattle.climb.specs.Circuit.{due_of}
use Rattle.climb.specs.Memory.{at}
use Rattle.climb.proofs.Lists.{le_or_lt}
use Rattle.wire.specs.Instances.{system}
use Rattle.update.specs.declared.Record.{Record}
use Rattle.update.specs.Records.{is_open_kind, is_load, beyond}
use Rattle.update.specs.Memories.{Memory}
use Rattle.update.specs.Refusals.{held_refusal, step_refusal}
use Rattle.update.specs.Within.{Roomy}
use Rattle.update.specs.Steps.{sown_of, survives, changed_of, due_from, done_made, Outcome, round, done, step_of, continued, Ending, paused, finished, RunMade, run_of}
use Rattle.update.specs.Calls.{leaving, RunOutcome, run_outcome, unless, system_of, circles_of, with_sets, step_left, run_left, step_call, run_call}
use Rattle.update.specs.Course.{ran_of, whole_of}
use Rattle.update.proofs.Within.{short_means}
use Rattle.update.proofs.Refusing.{all_exactly}
use Rattle.update.proofs.Running.{pauses, finishes, runs_on, never_beyond}
use Rattle.update.proofs.Ready.{circles, Ready, begins}
use Rattle.update.proofs.Openings.{parts}
use Rattle.demands.specs.Engine.{ours}
use Rattle.demands.specs.History.{Working, at_start, and_step, and_run, WorkedToDone, by_step, by_run}

-- ---- a step looks at the before values alone, not at the buffer behind them

due_alike : (S : System) (R : List (List ℕ)) (r : Record) (b b' s : List ℕ) → at b ≡ at b' → due_from S R r b s ≡ due_from S R r b' s
unfolding due_from
due_alike S R r b b' s e = ap (λ (u : Assignment). least_from (λ i. due_of S (sown_of r) u (at s) (circle_at R i)) (length R - r.rank) r.rank) e

changed_alike : (S : System) (r : Record) (b b' s : List ℕ) → at b ≡ at b' → changed_of S r b s ≡ changed_of S r b' s
unfolding changed_of
changed_alike S r b b' s e =
    ap (λ (u : Assignment). cond (is_load r.«open») 0 (length (keep (λ x. S.declared x && survives r x && not (eqb (at s x) (u x))) (up_from 0 S.size)))) e

step_alike : (S : System) (R : List (List ℕ)) (r : Record) (b b' s : List ℕ) → at b ≡ at b' → step_of S R r b s ≡ step_of S R r b' s
unfolding step_of done_made
step_alike S R r b b' s e = rw (due_alike S R r b b' s e, changed_alike S r b b' s e)

pub again : (o : Outcome) (r : Record) (s : List ℕ) (f g : Record → List ℕ → RunMade) → f r s ≡ g r s → continued o r s f ≡ continued o r s g
again (round a k c d) r s f g e = rw e
again (done a c d) r s f g e = refl

run_alike : (S : System) (R : List (List ℕ)) (b b' : List ℕ) → at b ≡ at b' → (n : ℕ) (r : Record) (s : List ℕ) → run_of S R b n r s ≡ run_of S R b' n r s
unfolding run_of
run_alike S R b b' e zero r s = refl
run_alike S R b b' e (suc n) r s =
    let k = step_of S R r b' s in
    rw (step_alike S R r b b' s e) (again k.outcome k.next k.sets (run_of S R b n) (run_of S R b' n) (run_alike S R b b' e n k.next k.sets))

-- ---- the calls, while the update is open

never_both : {c e x : ℕ} → paused ≡ finished c e x → ⊥
never_both h = let z : ◌≡◌ {A = ℕ} 0 1 = cc in absurd (omega arith)

taken_step : (t : List ℕ) (m : Memory) (r : Record) → step_refusal t m r ≡ 0
    → step_call t m r ≡ step_left m (step_of (system_of t m r) (circles_of t m r) r m.earlier m.sets)
unfolding step_call
taken_step t m r e = ap (λ (n : ℕ). unless n r m (step_left m (step_of (system_of t m r) (circles_of t m r) r m.earlier m.sets))) e

taken_run : (t : List ℕ) (m : Memory) (r : Record) (k : ℕ) → step_refusal t m r ≡ 0
    → run_call t m r k ≡ run_left m (run_of (system_of t m r) (circles_of t m r) m.earlier k r m.sets)
unfolding run_call
taken_run t m r k e = ap (λ (n : ℕ). unless n r m (run_left m (run_of (system_of t m r) (circles_of t m r) m.earlier k r m.sets))) e

module _ {t ns owns : List ℕ} {r : Record} {m : Memory} (q : Ready t ns owns r m) where
  abbrev S : System
  S = system t ns owns

  abbrev R : List (List ℕ)
  R = circles t ns owns

  -- what a run of n rounds comes to by the definition of a run
  abbrev run : ℕ → RunMade
  run n = ran_of S R r m.sets n

  abbrev whole : ℕ
  whole = whole_of S R r m.sets

  -- the memory with the sets s
  abbrev now : List ℕ → Memory
  now s = with_sets m s

  -- a pause leaves the update the same
  record Same (r' : Record) (s : List ℕ) : Type 0 where
    held : r'.held ≡ true
    isopen : is_open_kind r'.«open» ≡ true
    count : r'.nodes ≡ length ns
    within : beyond r' ≡ false
    places : length s ≡ length m.sets

  stays : (n : ℕ) → n ≤ whole → Same (run n).next (run n).sets
  stays n l =
      let g = (pauses S R r m.sets (begins q) n l).stands in
      record {
        held = ap (λ (k : Record). k.held) g.numbers ∙ q.held;
        isopen = ap (λ (k : Record). is_open_kind k.«open») g.numbers ∙ q.isopen;
        count = ap (λ (k : Record). k.nodes) g.numbers ∙ q.count;
        within = never_beyond S R r m.sets (begins q) q.within n l;
        places = g.places;
      }

  accepts : (r' : Record) (s : List ℕ) → Same r' s → step_refusal t (now s) r' ≡ 0
  accepts r' s h =
      let roomy : Roomy (now s) = record {
        productions = q.roomy.productions;
        owns = q.roomy.owns;
        sets = omega (arith, q.roomy.sets, h.places);
        earlier = q.roomy.earlier;
      } in
      let tree : held_refusal t (now s) r' ≡ 0 = rw (h.count, q.nodes, q.owns') q.sound.tree in
      (all_exactly t (now s) r').step.none.1 ((short_means (now s)).1 roomy, (q.sound.table, (h.within, (h.held, (tree, h.isopen)))))

  system_is : (r' : Record) (s : List ℕ) → Same r' s → system_of t (now s) r' ≡ S
  system_is r' s h =
      let a : take r'.nodes m.productions ≡ ns = rw h.count q.nodes in
      let b : take r'.nodes m.owns ≡ owns = rw h.count q.owns' in
      ap (λ (l : List ℕ). system t l (take r'.nodes m.owns)) a ∙ ap (λ (l : List ℕ). system t ns l) b

  step_is : (r' : Record) (s : List ℕ) → Same r' s → step_call t (now s) r' ≡ step_left (now s) (step_of S R r' m.sets s)
  step_is r' s h = taken_step t (now s) r' (accepts r' s h)
      ∙ ap (λ (k : System). step_left (now s) (step_of k (ranked (graph_of k)) r' m.earlier s)) (system_is r' s h)
      ∙ ap (step_left (now s)) (step_alike S R r' m.earlier m.sets s q.earlier)

  run_is : (r' : Record) (s : List ℕ) → Same r' s → (k : ℕ) → run_call t (now s) r' k ≡ run_left (now s) (run_of S R m.sets k r' s)
  run_is r' s h k = taken_run t (now s) r' k (accepts r' s h)
      ∙ ap (λ (k' : System). run_left (now s) (run_of k' (ranked (graph_of k')) m.earlier k r' s)) (system_is r' s h)
      ∙ ap (run_left (now s)) (run_alike S R m.earlier m.sets q.earlier k r' s)

  -- ---- after n rounds, by whatever row

  pub record Amid (n : ℕ) (r' : Record) (m' : Memory) : Type 0 where
    pub time : n ≤ whole
    pub next : r' ≡ (run n).next
    pub memory : m' ≡ now (run n).sets

  -- a run of k behind n rounds, which makes j rounds
  record Behind (n k j : ℕ) (e : Ending) (r' : Record) (m' : Memory) : Type 0 where
    rounds : (run (n + k)).rounds ≡ n + j
    ending : (run (n + k)).ending ≡ e
    next : r' ≡ (run (n + k)).next
    memory : m' ≡ now (run (n + k)).sets

  -- what the definition of a run gives there
  abbrev more : ℕ → ℕ → RunMade
  more n k = run_of S R m.sets k (run n).next (run n).sets

  behind : (n k j : ℕ) (e : Ending) (r' : Record) (m' : Memory) → n ≤ whole → (more n k).rounds ≡ j → (more n k).ending ≡ e → (more n k).next ≡ r' → now (more n k).sets ≡ m'
      → Behind n k j e r' m'
  behind n k j e r' m' l a b c d =
      let p = pauses S R r m.sets (begins q) n l in
      let o = runs_on S R m.sets n k r m.sets p.ending in
      record {
        rounds = ap (λ (x : RunMade). x.rounds) o ∙ ap (λ (x : ℕ). x + (more n k).rounds) p.rounds ∙ ap (λ (x : ℕ). n + x) a;
        ending = ap (λ (x : RunMade). x.ending) o ∙ b;
        next = sym c ∙ sym (ap (λ (x : RunMade). x.next) o);
        memory = sym d ∙ sym (ap (λ (x : RunMade). now x.sets) o);
      }

  behind_run : (n k j : ℕ) (e : Ending) (r₁ r' : Record) (m₁ m' : Memory) → Amid n r₁ m₁ → run_call t m₁ r₁ k ≡ leaving (run_outcome j e) r' m' → Behind n k j e r' m'
  behind_run n k j e r₁ r' m₁ m' a h =
      let g : run_call t (now (run n).sets) (run n).next k ≡ leaving (run_outcome j e) r' m' = rw (a.next, a.memory) at h in
      let f = parts (sym (run_is (run n).next (run n).sets (stays n a.time) k) ∙ g) in
      behind n k j e r' m' a.time (ap (λ (x : RunOutcome). x.rounds) f.answer) (ap (λ (x : RunOutcome). x.ending) f.answer) f.next f.memory

  -- a step is a run of one round
  behind_round : (n least k size : ℕ) (closed : Bool) (r₁ r' : Record) (m₁ m' : Memory) → Amid n r₁ m₁ → step_call t m₁ r₁ ≡ leaving (round least k size closed) r' m'
      → Behind n 1 1 paused r' m'
  unfolding run_of
  behind_round n least k size closed r₁ r' m₁ m' a h =
      let g : step_call t (now (run n).sets) (run n).next ≡ leaving (round least k size closed) r' m' = rw (a.next, a.memory) at h in
      let f = parts (sym (step_is (run n).next (run n).sets (stays n a.time)) ∙ g) in
      behind n 1 1 paused r' m' a.time (rw f.answer) (rw f.answer) (rw f.answer f.next) (rw f.answer f.memory)

  behind_done : (n c e x : ℕ) (r₁ r' : Record) (m₁ m' : Memory) → Amid n r₁ m₁ → step_call t m₁ r₁ ≡ leaving (done c e x) r' m'
      → Behind n 1 0 (finished c e x) r' m'
  unfolding run_of
  behind_done n c e x r₁ r' m₁ m' a h =
      let g : step_call t (now (run n).sets) (run n).next ≡ leaving (done c e x) r' m' = rw (a.next, a.memory) at h in
      let f = parts (sym (step_is (run n).next (run n).sets (stays n a.time)) ∙ g) in
      behind n 1 0 (finished c e x) r' m' a.time (rw f.answer) (rw f.answer) (rw f.answer f.next) (rw f.answer f.memory)

  -- a pause used up its budget, and done came with budget left
  pauses_amid : (n k j : ℕ) (r' : Record) (m' : Memory) → Behind n k j paused r' m' → Amid (n + j) r' m'
  pauses_amid n k j r' m' b = ⊎_elim
      (λ (l : n + k ≤ whole). let p = pauses S R r m.sets (begins q) (n + k) l in
      let e : n + k ≡ n + j = sym p.rounds ∙ b.rounds in
      let a : Amid (n + k) r' m' = record { time = l; next = b.next; memory = b.memory } in
      rw e at a)
      (λ (l : whole < n + k). absurd (never_both (sym b.ending ∙ (finishes S R r m.sets (begins q) (n + k) l).ending)))
      (le_or_lt (n + k) whole)

  -- done, in a run of some budget
  pub record Ended (c e x : ℕ) (r' : Record) (m' : Memory) : Type 0 where
    pub budget : ℕ
    pub enough : whole < budget
    pub ending : (run budget).ending ≡ finished c e x
    pub next : r' ≡ (run budget).next
    pub memory : m' ≡ now (run budget).sets

  finishes_ended : (n k j c e x : ℕ) (r' : Record) (m' : Memory) → Behind n k j (finished c e x) r' m' → Ended c e x r' m'
  finishes_ended n k j c e x r' m' b = ⊎_elim
      (λ (l : n + k ≤ whole). absurd (never_both (sym (pauses S R r m.sets (begins q) (n + k) l).ending ∙ b.ending)))
      (λ (l : whole < n + k). record { budget = n + k; enough = l; ending = b.ending; next = b.next; memory = b.memory })
      (le_or_lt (n + k) whole)

  pub amid : {n : ℕ} {r' : Record} {m' : Memory} → Working ours t r m n r' m' → Amid n r' m'
  unfolding run_of
  amid at_start = record { time = zero-le; next = refl; memory = refl }
  amid {n = suc n} {r'} {m'} (and_step {least = least} {k = k} {size = size} {closed = closed} {r = r₁} {m = m₁} w h) =
      rw (add-one n) at (pauses_amid n 1 1 r' m' (behind_round n least k size closed r₁ r' m₁ m' (amid w) h))
  amid {r' = r'} {m' = m'} (and_run {n = n} {k = k} {r = r₁} {m = m₁} budget w h) = pauses_amid n budget k r' m' (behind_run n budget k paused r₁ r' m₁ m' (amid w) h)

  pub ended : {c e x : ℕ} {r' : Record} {m' : Memory} → WorkedToDone ours t r m c e x r' m' → Ended c e x r' m'
  ended {c} {e} {x} {r'} {m'} (by_step {n = n} {r = r₁} {m = m₁} w h) = finishes_ended n 1 0 c e x r' m' (behind_done n c e x r₁ r' m₁ m' (amid w) h)
  ended {c} {e} {x} {r'} {m'} (by_run {n = n} {k = k} {r = r₁} {m = m₁} budget w h) =
      finishes_ended n budget k c e x r' m' (behind_run n budget k (finished c e x) r₁ r' m₁ m' (amid w) h)

  -- ---- what comes next

  -- a run of k there is what is left of the whole run
  pub run_there : (n k : ℕ) (r₁ : Record) (m₁ : Memory) → Amid n r₁ m₁ → run_call t m₁ r₁ k ≡ leaving (run_outcome (more n k).rounds (more n k).ending) (more n k).next (now (more n k).sets)
  run_there n k r₁ m₁ a = rw (a.next, a.memory) (run_is (run n).next (run n).sets (stays n a.time) k)

  pub step_there : (n : ℕ) (r₁ : Record) (m₁ : Memory) → Amid n r₁ m₁ → step_call t m₁ r₁ ≡ step_left (now (run n).sets) (step_of S R (run n).next m.sets (run n).sets)
  step_there n r₁ m₁ a = rw (a.next, a.memory) (step_is (run n).next (run n).sets (stays n a.time))

  -- with budget enough it is done
  pub record Done (k : ℕ) (r₁ : Record) (m₁ : Memory) : Type 0 where
    pub rounds : ℕ
    pub c : ℕ
    pub e : ℕ
    pub x : ℕ
    pub next : Record
    pub memory : Memory
    pub call : run_call t m₁ r₁ k ≡ leaving (run_outcome rounds (finished c e x)) next memory

  pub to_done : (n k : ℕ) (r₁ : Record) (m₁ : Memory) → Amid n r₁ m₁ → whole < n + k → Done k r₁ m₁
  to_done n k r₁ m₁ a l =
      let f = finishes S R r m.sets (begins q) (n + k) l in
      let o = runs_on S R m.sets n k r m.sets (pauses S R r m.sets (begins q) n a.time).ending in
      let e = sym (ap (λ (y : RunMade). y.ending) o) ∙ f.ending in
      record {
        rounds = (more n k).rounds;
        c = _;
        e = _;
        x = _;
        next = (more n k).next;
        memory = now (more n k).sets;
        call = run_there n k r₁ m₁ a ∙ ap (λ (y : Ending). leaving (run_outcome (more n k).rounds y) (more n k).next (now (more n k).sets)) e;
      }
