-- The course of an update from its opening to done, over the definition of a step and any system. Assumes nothing.
use Rattle.std.specs.Prelude.{◌≡◌, Bool, true, false, cond, List, ℕ, suc, ◌+◌, ◌*◌, ◌≤◌, ◌<◌, eqb, length, get_or}
use Rattle.circles.specs.Ranked.{circle_at, member, lone_of}
use Rattle.climb.specs.System.{Assignment, System, graph_of}
use Rattle.climb.specs.Climb.{stage, rounds_of}
use Rattle.climb.specs.Inside.{Small}
use Rattle.climb.specs.Circuit.{due_of, after_of, worked_of, rounds_at, circles_to, rounds_to, evaluations_to, Ranked, Few, LawfulCircles, Kept}
use Rattle.climb.specs.ByRank.{LeastByRank}
use Rattle.climb.specs.Memory.{at}
use Rattle.update.specs.declared.Record.{Record}
use Rattle.update.specs.Records.{is_load, beyond, shut, working}
use Rattle.update.specs.Within.{Fresh}
use Rattle.update.specs.Steps.{sown_of, changed_of, round, Made, step_of, paused, finished, RunMade, run_of}

-- ---- an update just opened, over a system S and its circles R by rank, each of them lawful

-- 7.7, 9.7: the record has counted nothing; the sets are the before values, and have their places
pub record Begins (S : System) (R : List (List ℕ)) (r : Record) (earlier : List ℕ) : Type 0 where
  pub lawful : LawfulCircles S R
  pub ranked : Ranked S R
  pub few : Few R
  pub fresh : Fresh r
  pub small : Small (at earlier)
  pub room : (x : ℕ) → S.declared x ≡ true → x < length earlier

-- 12.1: what a run with a budget of n rounds comes to from there
abbrev pub ran_of : System → List (List ℕ) → Record → List ℕ → ℕ → RunMade
ran_of S R r earlier n = run_of S R earlier n r earlier

-- 10.10: the rounds of the whole update: of each due circle those of its climb
abbrev pub whole_of : System → List (List ℕ) → Record → List ℕ → ℕ
whole_of S R r earlier = rounds_to S R (sown_of r) (at earlier) (length R)

-- ---- the schedule: which round of which circle comes when

-- 23.6: round k of circle i is a round that the update makes, after n others
pub record Scheduled (S : System) (R : List (List ℕ)) (sown : ℕ → Bool) (b : Assignment) (i k n : ℕ) : Type 0 where
  pub rank : i < length R
  pub worked : worked_of S R sown b i ≡ true
  pub some : 1 ≤ k
  pub few : k ≤ rounds_at S R sown b i
  pub time : suc n ≡ rounds_to S R sown b i + k

-- 10.3, 23.6: circles come in rank order, the rounds of a circle in theirs; no second schedule fits
pub record Schedule (S : System) (R : List (List ℕ)) (sown : ℕ → Bool) (b : Assignment) : Type 0 where
  pub within : (i k n : ℕ) → Scheduled S R sown b i k n → n < rounds_to S R sown b (length R)
  pub one : (i k j l n : ℕ) → Scheduled S R sown b i k n → Scheduled S R sown b j l n → (i ≡ j) × (k ≡ l)
  pub ranked : (i k j l m n : ℕ) → Scheduled S R sown b i k m → Scheduled S R sown b j l n → i < j → m < n

abbrev pub OneSchedule : Type 0
OneSchedule = (S : System) (R : List (List ℕ)) (sown : ℕ → Bool) (b : Assignment) → Schedule S R sown b

-- ---- each step

-- 7.11: the record at rank i and round k, its circles and evaluations simply counted
abbrev pub record_at : System → List (List ℕ) → Record → List ℕ → ℕ → ℕ → Record
record_at S R r earlier i k =
    working r i k (circles_to S R (sown_of r) (at earlier) i) (evaluations_to S R (sown_of r) (at earlier) i + length (circle_at R i) * k)

-- 10.9: and behind round k of circle i, which may have closed the circle
abbrev pub record_behind : System → List (List ℕ) → Record → List ℕ → ℕ → ℕ → Record
record_behind S R r earlier i k = cond (eqb k (rounds_at S R (sown_of r) (at earlier) i)) (record_at S R r earlier (suc i) 0) (record_at S R r earlier i k)

-- 10.10: the sets there: between two circles, or after some rounds of circle i, which is due and has more to come
pub data Phase (S : System) (R : List (List ℕ)) (sown : ℕ → Bool) (b : Assignment) (i : ℕ) : ℕ → Assignment → Type 0 where
  between : {v : Assignment} → v ≡ after_of S R sown b i → Phase S R sown b i 0 v
  climbing : {k : ℕ} {v : Assignment} → i < length R → worked_of S R sown b i ≡ true → lone_of (graph_of S) (circle_at R i) ≡ false → suc k < rounds_at S R sown b i
      → v ≡ stage S (member (circle_at R i)) (after_of S R sown b i) (suc k) → Phase S R sown b i (suc k) v

-- 23.6: where an update stands after n rounds
pub record StandsAfter (S : System) (R : List (List ℕ)) (r : Record) (earlier : List ℕ) (n : ℕ) (next : Record) (sets : List ℕ) : Type 0 where
  pub i : ℕ
  pub k : ℕ
  pub rank : i ≤ length R
  pub numbers : next ≡ record_at S R r earlier i k
  pub phase : Phase S R (sown_of r) (at earlier) i k (at sets)
  pub time : n ≡ rounds_to S R (sown_of r) (at earlier) i + k
  pub places : length sets ≡ length earlier

-- 23.6: what the step does that makes round k of circle i; s are the sets before it
pub record RoundDone (S : System) (R : List (List ℕ)) (r : Record) (earlier : List ℕ) (i k : ℕ) (s : List ℕ) (m : Made) : Type 0 where
  -- the circle's least instance, the round, the size, and closed at the last of its rounds
  pub outcome : m.outcome ≡ round (get_or (circle_at R i) 0 0) k (length (circle_at R i)) (eqb k (rounds_at S R (sown_of r) (at earlier) i))
  -- the sets are stage k of the circle's climb, and elsewhere as they were
  pub value : at m.sets ≡ stage S (member (circle_at R i)) (after_of S R (sown_of r) (at earlier) i) k
  pub elsewhere : (x : ℕ) → member (circle_at R i) x ≡ false → at m.sets x ≡ at s x
  -- and the record has counted the round, with no number at its limit
  pub next : m.next ≡ record_behind S R r earlier i k

-- 10.3: the step after n rounds, where there are more to make
pub record NextRound (S : System) (R : List (List ℕ)) (r : Record) (earlier : List ℕ) (n : ℕ) (s : List ℕ) (m : Made) : Type 0 where
  pub i : ℕ
  pub k : ℕ
  pub scheduled : Scheduled S R (sown_of r) (at earlier) i k n
  pub made : RoundDone S R r earlier i k s m
  pub stands : StandsAfter S R r earlier (suc n) m.next m.sets

-- 23.6: so it is behind any n rounds of which more are left
abbrev pub NthRound : Type 0
NthRound = (S : System) (R : List (List ℕ)) (r : Record) (earlier : List ℕ) → Begins S R r earlier → (n : ℕ) → n < whole_of S R r earlier
    → NextRound S R r earlier n (ran_of S R r earlier n).sets (step_of S R (ran_of S R r earlier n).next earlier (ran_of S R r earlier n).sets)

-- 23.6: every round of every due circle is made, in its turn
abbrev pub EachRound : Type 0
EachRound = (S : System) (R : List (List ℕ)) (r : Record) (earlier : List ℕ) → Begins S R r earlier → (i k n : ℕ) → Scheduled S R (sown_of r) (at earlier) i k n
    → RoundDone S R r earlier i k (ran_of S R r earlier n).sets (step_of S R (ran_of S R r earlier n).next earlier (ran_of S R r earlier n).sets)

-- ---- runs

-- 12.1: a budget that is used up
pub record Pauses (S : System) (R : List (List ℕ)) (r : Record) (earlier : List ℕ) (n : ℕ) (a : RunMade) : Type 0 where
  pub rounds : a.rounds ≡ n
  pub ending : a.ending ≡ paused
  pub stands : StandsAfter S R r earlier n a.next a.sets

-- 12.1: every run with no more budget than there are rounds
abbrev pub AllPause : Type 0
AllPause = (S : System) (R : List (List ℕ)) (r : Record) (earlier : List ℕ) → Begins S R r earlier → (n : ℕ) → n ≤ whole_of S R r earlier
    → Pauses S R r earlier n (ran_of S R r earlier n)

-- 11.1 to 11.5: done, with its three numbers
pub record Finishes (S : System) (R : List (List ℕ)) (r : Record) (earlier : List ℕ) (a : RunMade) : Type 0 where
  pub rounds : a.rounds ≡ whole_of S R r earlier
  pub ending : a.ending ≡ finished (circles_to S R (sown_of r) (at earlier) (length R)) (evaluations_to S R (sown_of r) (at earlier) (length R)) (changed_of S r earlier a.sets)
  pub next : a.next ≡ shut r.held r.nodes
  pub value : at a.sets ≡ after_of S R (sown_of r) (at earlier) (length R)
  pub places : length a.sets ≡ length earlier
  -- the circles worked are exactly the due ones, and their rounds those of their climbs, by the values at the end too
  pub due : (i : ℕ) → i < length R → worked_of S R (sown_of r) (at earlier) i ≡ due_of S (sown_of r) (at earlier) (at a.sets) (circle_at R i)
  pub climb : (i : ℕ) → i < length R → rounds_at S R (sown_of r) (at earlier) i ≡ rounds_of S (circle_at R i) (at a.sets)

-- 12.2, 23.7: every run with more
abbrev pub AllFinish : Type 0
AllFinish = (S : System) (R : List (List ℕ)) (r : Record) (earlier : List ℕ) → Begins S R r earlier → (n : ℕ) → whole_of S R r earlier < n
    → Finishes S R r earlier (ran_of S R r earlier n)

-- 12.5: a run in two parts is a run: a first that pauses, and one that goes on from where it stands
abbrev pub RunsOn : Type 0
RunsOn = (S : System) (R : List (List ℕ)) (earlier : List ℕ) (n k : ℕ) (r : Record) (s : List ℕ) → (run_of S R earlier n r s).ending ≡ paused
    → let a = run_of S R earlier n r s in
    let b = run_of S R earlier k a.next a.sets in
    run_of S R earlier (n + k) r s ≡ record { rounds = a.rounds + b.rounds; ending = b.ending; next = b.next; sets = b.sets }

-- ---- 23.3: behind done the sets are least by rank

abbrev pub LeastAtDone : Type 0
LeastAtDone = (S : System) (R : List (List ℕ)) (r : Record) (earlier : List ℕ) → Begins S R r earlier → Kept S R (sown_of r) (at earlier)
    → (n : ℕ) → whole_of S R r earlier < n → LeastByRank S R (at (ran_of S R r earlier n).sets)

-- 10.1: a load sows all, so that nothing is asked of its before values
abbrev pub LoadIsKept : Type 0
LoadIsKept = (S : System) (R : List (List ℕ)) (r : Record) (b : Assignment) → is_load r.«open» ≡ true → Kept S R (sown_of r) b

-- 23.7: an update evaluates no more than a load of the same tree
abbrev pub LoadEvaluates : Type 0
LoadEvaluates = (S : System) (R : List (List ℕ)) (r t : Record) (b b' : List ℕ) → Begins S R r b → Begins S R t b' → Kept S R (sown_of r) (at b) → is_load t.«open» ≡ true
    → evaluations_to S R (sown_of r) (at b) (length R) ≤ evaluations_to S R (sown_of t) (at b') (length R)

-- ---- 7.11: no number is cut off

-- 7.9: so no pause leaves a record that is refused by 11
abbrev pub NeverBeyond : Type 0
NeverBeyond = (S : System) (R : List (List ℕ)) (r : Record) (earlier : List ℕ) → Begins S R r earlier → beyond r ≡ false → (n : ℕ) → n ≤ whole_of S R r earlier
    → beyond (ran_of S R r earlier n).next ≡ false
