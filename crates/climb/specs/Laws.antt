-- What is promised of a climb; the proofs are in proofs/. Assumes nothing.
use Rattle.std.specs.Prelude.{◌≡◌, Bool, true, ◌||◌, ◌⊎◌, List, ℕ, suc, ◌+◌, ◌*◌, ◌≤◌, ◌<◌, eqb, length}
use Rattle.sets.specs.Members.{◌⊑◌}
use Rattle.circles.specs.Ranked.{member, lone_of}
use Rattle.climb.specs.System.{Assignment, System, graph_of, Gaining, Lawful, Least, weight}
use Rattle.climb.specs.Climb.{patch, stage, Closed, still_of, rounds_of}
use Rattle.climb.specs.Inside.{GainingIn, LawfulIn, Small, Agree, Above, ClosedOn}

-- 5.6: there are no two least assignments
abbrev pub LeastUnique : Type 0
LeastUnique = (S : System) (v w : Assignment) → Least S v → Least S w → (x : ℕ) → S.declared x ≡ true → v x ≡ w x

-- 3.8: what gains everywhere gains inside each circle
abbrev pub GainsInside : Type 0
GainsInside = (S : System) → Gaining S → (C : ℕ → Bool) → GainingIn S C

abbrev pub LawfulInside : Type 0
LawfulInside = (S : System) → Lawful S → (C : ℕ → Bool) → LawfulIn S C

-- ---- stages

-- 10.10: each stage has what the one before it has
abbrev pub StagesGrow : Type 0
StagesGrow = (S : System) (C : ℕ → Bool) (v : Assignment) → GainingIn S C → (k x : ℕ) → stage S C v k x ⊑ stage S C v (suc k) x

-- 10.6: the next stage is one round of this one
abbrev pub StageIsRound : Type 0
StageIsRound = (S : System) (C : ℕ → Bool) (v : Assignment) (k x : ℕ) → stage S C v (suc k) x ≡ patch C (S.eval (stage S C v k)) (stage S C v k) x

-- 10.7: the test that computes is the one that is meant
pub record StillMeans (S : System) (C : List ℕ) (v : Assignment) (k : ℕ) : Type 0 where
  pub closed : still_of S C v k ≡ true → Closed S (member C) v k
  pub still : Closed S (member C) v k → still_of S C v k ≡ true

-- 10.10: once a round alters nothing no later one does
abbrev pub ClosedStays : Type 0
ClosedStays = (S : System) (C : ℕ → Bool) (v : Assignment) → GainingIn S C → (k : ℕ) → Closed S C v k → (n x : ℕ) → stage S C v (n + k) x ≡ stage S C v k x

-- 6.3: where a climb ends it is consistent on the circle and, with the outside held, below whatever is closed under the circle's equations
pub record Ends (S : System) (C : ℕ → Bool) (v : Assignment) (k : ℕ) : Type 0 where
  pub consistent : (x : ℕ) → C x ≡ true → stage S C v k x ≡ S.eval (stage S C v k) x
  pub least : (w : Assignment) → Agree S C v w → ClosedOn S C w → (x : ℕ) → C x ≡ true → stage S C v k x ⊑ w x

-- 6.3: so it is wherever a climb closes
abbrev pub ClosedEnds : Type 0
ClosedEnds = (S : System) (C : ℕ → Bool) (v : Assignment) → GainingIn S C → (k : ℕ) → Closed S C v k → Ends S C v k

-- 5.6: and with an outside that may be larger, where the system gains everywhere
abbrev pub ClosedBelow : Type 0
ClosedBelow = (S : System) (C : ℕ → Bool) (v : Assignment) → Gaining S → (k : ℕ) (w : Assignment) → Above S C v w → ClosedOn S C w
    → (x : ℕ) → C x ≡ true → stage S C v k x ⊑ w x

-- ---- the number of rounds

-- 10.7: round k + 1 closes C, which is lone or is left as it was
abbrev pub Shuts : System → List ℕ → Assignment → ℕ → Type 0
Shuts S C v k = (lone_of (graph_of S) C ≡ true) ⊎ Closed S (member C) v k

-- 10.10: the climb of C takes m rounds: the m-th closes C, and no earlier one does
pub record Takes (S : System) (C : List ℕ) (v : Assignment) (m : ℕ) : Type 0 where
  pub some : 1 ≤ m
  pub last : (k : ℕ) → suc k ≡ m → Shuts S C v k
  pub first : (k : ℕ) → suc k < m → Shuts S C v k → ⊥

-- 10.10: no second number fits
abbrev pub TakesUnique : Type 0
TakesUnique = (S : System) (C : List ℕ) (v : Assignment) (m n : ℕ) → Takes S C v m → Takes S C v n → m ≡ n

-- 10.7: as it computes: of the m rounds the last closes C, and it alone
abbrev pub TakesLast : Type 0
TakesLast = (S : System) (C : List ℕ) (v : Assignment) (m : ℕ) → Takes S C v m → (k : ℕ) → k < m → (lone_of (graph_of S) C || still_of S C v k) ≡ eqb (suc k) m

-- 10.10: a climb needs no more rounds than one and the members that it ends with, of all its sets together
pub record Climbs (S : System) (C : List ℕ) (v : Assignment) : Type 0 where
  pub takes : Takes S C v (rounds_of S C v)
  pub closed : Closed S (member C) v (rounds_of S C v)
  pub within : rounds_of S C v ≤ 1 + weight C (stage S (member C) v (rounds_of S C v))
  pub few : rounds_of S C v ≤ 1 + 64 * length C

-- 10.10: so it is with every climb
abbrev pub AllClimb : Type 0
AllClimb = (S : System) (C : List ℕ) (v : Assignment) → LawfulIn S (member C) → Small v → Climbs S C v

-- 10.10: a circle's climb looks at what its members read outside, and at nothing else
pub record ClimbsAlike (S : System) (C : List ℕ) (u v : Assignment) : Type 0 where
  pub stages : (k x : ℕ) → member C x ≡ true → stage S (member C) u k x ≡ stage S (member C) v k x
  pub rounds : rounds_of S C u ≡ rounds_of S C v

-- 10.10: so it is where they agree on what is read outside
abbrev pub AgreeAlike : Type 0
AgreeAlike = (S : System) (C : List ℕ) → GainingIn S (member C) → (u v : Assignment) → Agree S (member C) u v → ClimbsAlike S C u v

-- ---- lone circles

-- 10.5, 10.7: a lone circle's one round needs no emptied set and no second round, since the set does not depend on itself
pub record Lone (S : System) (C : List ℕ) (v : Assignment) : Type 0 where
  pub one : rounds_of S C v ≡ 1
  pub closed : Closed S (member C) v 1
  pub value : (x : ℕ) → stage S (member C) v 1 x ≡ patch (member C) (S.eval v) v x

-- 10.7: so it is with every lone circle
abbrev pub LoneOnce : Type 0
LoneOnce = (S : System) (C : List ℕ) → GainingIn S (member C) → lone_of (graph_of S) C ≡ true → (v : Assignment) → Lone S C v
