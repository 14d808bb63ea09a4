-- What the tests of a step mean: sown, changed, the least instance of a circle, a budget of nothing. Assumes nothing.
use Rattle.std.specs.Prelude.{◌≡◌, Bool, true, false, ◌⊎◌, ◌↔◌, ◌≢◌, ℕ, ◌+◌, ◌≤◌, ◌<◌, length, get_or}
use mathlib.Core.List.{List, Memᴰ}
use Rattle.circles.specs.Graph.{Graph}
use Rattle.circles.specs.Ranked.{circle_at, member, keep, up_from, ranked}
use Rattle.climb.specs.System.{System}
use Rattle.climb.specs.Memory.{at}
use Rattle.tree.specs.declared.Point.{Point}
use Rattle.wire.specs.Instances.{node_of, index_of}
use Rattle.update.specs.declared.Record.{Record}
use Rattle.update.specs.Records.{is_load, points_of}
use Rattle.update.specs.Steps.{sown_of, changed_of, paused, run_of}

-- q is one of the points
abbrev pub Among : Point → List Point → Type 0
Among q qs = Memᴰ q qs

-- 10.1: sown is all in a load, and else what belongs to one of the points
pub data Sown (r : Record) (x : ℕ) : Type 0 where
  in_load : is_load r.«open» ≡ true → Sown r x
  at_point : (q : Point) → Among q (points_of r) → node_of x ≡ q.node → index_of x < 4 → Sown r x
  below : (q : Point) → Among q (points_of r) → q.node < node_of x → node_of x < q.node + q.count → Sown r x

-- 10.1: the test says so exactly then
abbrev pub SownExactly : Type 0
SownExactly = (r : Record) (x : ℕ) → (sown_of r x ≡ true) ↔ Sown r x

-- 11.4: what done counts as changed: an instance that survives, of each point up to it or behind its new part, and whose value is another than before
pub record Changed (S : System) (r : Record) (earlier sets : List ℕ) (x : ℕ) : Type 0 where
  pub declared : S.declared x ≡ true
  pub survives : (q : Point) → Among q (points_of r) → (node_of x ≤ q.node) ⊎ (q.node + q.count ≤ node_of x)
  pub differs : at sets x ≢ at earlier x

-- 11.4: their number, by whatever test tells them
abbrev pub ChangedExactly : Type 0
ChangedExactly = (S : System) (r : Record) (earlier sets : List ℕ) (test : ℕ → Bool) → is_load r.«open» ≡ false
    → ((x : ℕ) → (test x ≡ true) ↔ Changed S r earlier sets x) → changed_of S r earlier sets ≡ length (keep test (up_from 0 S.size))

-- 11.4: none is counted for a load
abbrev pub LoadChanges : Type 0
LoadChanges = (S : System) (r : Record) (earlier sets : List ℕ) → is_load r.«open» ≡ true → changed_of S r earlier sets ≡ 0

-- 6.2, 10.8: a round's answer names the circle by its first instance, which is its least
abbrev pub FirstIsLeast : Type 0
FirstIsLeast = (G : Graph) (i x : ℕ) → member (circle_at (ranked G) i) x ≡ true
    → (member (circle_at (ranked G) i) (get_or (circle_at (ranked G) i) 0 0) ≡ true) × (get_or (circle_at (ranked G) i) 0 0 ≤ x)

-- 12.3: without a budget nothing is done
abbrev pub NoBudget : Type 0
NoBudget = (S : System) (R : List (List ℕ)) (earlier : List ℕ) (r : Record) (s : List ℕ)
    → run_of S R earlier 0 r s ≡ record { rounds = 0; ending = paused; next = r; sets = s }
