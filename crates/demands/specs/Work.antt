-- The mathematics of an update: which circles are due, how long each climbs, whose turn it is, and what a round leaves. Assumes nothing.
use Rattle.std.specs.Prelude.{◌≡◌, Bool, true, false, cond, ◌↔◌, ◌≢◌, List, ℕ, suc, ◌+◌, ◌≤◌, ◌<◌, eqb, length, get_or}
use Rattle.circles.specs.Graph.{◌∈◌}
use Rattle.circles.specs.Ranked.{sum_to, circle_at, member, lone_of}
use Rattle.climb.specs.System.{Assignment, System, graph_of, weight}
use Rattle.climb.specs.Climb.{stage, rounds_of}
use Rattle.climb.specs.Circuit.{due_of}
use Rattle.climb.specs.Laws.{Takes}
use Rattle.climb.specs.Memory.{at}
use Rattle.update.specs.Memories.{Memory}
use Rattle.update.specs.Steps.{Outcome, round}
use Rattle.update.specs.Calls.{Said, said, Left, with_sets}

-- ---- due circles

-- 10.2: the circle C is due: it has an instance that is fresh, or it reads, outside itself, a set that is in v not what it was before
pub data Due (S : System) (fresh : ℕ → Bool) (before v : Assignment) (C : List ℕ) : Type 0 where
  by_fresh : (x : ℕ) → member C x ≡ true → fresh x ≡ true → Due S fresh before v C
  by_argument : (x y : ℕ) → member C x ≡ true → y ∈ S.args x → member C y ≡ false → v y ≢ before y → Due S fresh before v C

-- 10.2: `due_of` computes it
abbrev pub DueExactly : Type 0
DueExactly = (S : System) (fresh : ℕ → Bool) (before v : Assignment) (C : List ℕ) → (due_of S fresh before v C ≡ true) ↔ Due S fresh before v C

-- 10.2, 10.10: whether circle i of R is due, and the rounds of its climb, where v are the least sets
abbrev pub due_by : System → List (List ℕ) → (ℕ → Bool) → Assignment → Assignment → ℕ → Bool
due_by S R fresh before v i = due_of S fresh before v (circle_at R i)

abbrev pub climb_by : System → List (List ℕ) → Assignment → ℕ → ℕ
climb_by S R v i = rounds_of S (circle_at R i) v

-- f added up over the due circles of rank below n
abbrev pub over_due : (ℕ → Bool) → (ℕ → ℕ) → ℕ → ℕ
over_due due f n = sum_to (λ i. cond (due i) (f i) 0) n

-- ---- climbs

-- 10.10: the climb of the circle C from empty, the outside held as it is in v: it takes so many rounds
pub record Climbing (S : System) (C : List ℕ) (v : Assignment) (rounds : ℕ) : Type 0 where
  -- the last of them closes the circle, and none before it
  pub takes : Takes S C v rounds
  -- and gives the sets that are in v
  pub ends : (x : ℕ) → member C x ≡ true → stage S (member C) v rounds x ≡ v x
  -- it needs at most one round more than the members it ends with, added up over its sets; a lone circle needs one
  pub few : rounds ≤ 1 + weight C v
  pub lone : lone_of (graph_of S) C ≡ true → rounds ≡ 1

-- ---- turns and rounds

-- 10.3, 23.6: due circles come one after the other by rank, each with all its rounds: after n rounds it is the turn of round k of circle i. climb i are the
-- rounds of circle i, of `count` circles
pub record RoundTurn (count : ℕ) (due : ℕ → Bool) (climb : ℕ → ℕ) (i k n : ℕ) : Type 0 where
  pub rank : i < count
  pub worked : due i ≡ true
  pub some : 1 ≤ k
  pub few : k ≤ climb i
  pub time : suc n ≡ over_due due climb i + k

-- 10.8, 23.6: the step in memory m that makes round k of this climb
pub record Makes (S : System) (C : List ℕ) (v : Assignment) (rounds k : ℕ) (m : Memory) (left : Left (Said Outcome)) : Type 0 where
  -- it tells the circle's first instance, the round, the circle's size, and that the circle is closed if this is its last round
  pub answer : left.answer ≡ said (round (get_or C 0 0) k (length C) (eqb k rounds))
  -- the circle's sets are stage k of the climb; all else in memory is as it was
  pub stage : (x : ℕ) → member C x ≡ true → at left.memory.sets x ≡ stage S (member C) v k x
  pub elsewhere : (x : ℕ) → member C x ≡ false → at left.memory.sets x ≡ at m.sets x
  pub room : length left.memory.sets ≡ length m.sets
  pub rest : left.memory ≡ with_sets m left.memory.sets
