-- Buffers that are long enough, and records within their limits: what the tests `short` and `beyond` say. Assumes nothing.
use Rattle.std.specs.Prelude.{◌≡◌, Bool, true, false, ◌↔◌, List, [], ◌∷◌, ℕ, ◌+◌, ◌≤◌, ◌<◌, max, length}
use Rattle.tree.specs.declared.Point.{Point}
use Rattle.tree.specs.Points.{Part, point_at}
use Rattle.climb.specs.System.{System}
use Rattle.update.specs.declared.Open.{Open}
use Rattle.update.specs.declared.Record.{Record}
use Rattle.update.specs.Records.{is_open_kind, points_of, beyond, opened, shut}
use Rattle.update.specs.Memories.{Memory}
use Rattle.update.specs.Refusals.{short, load_refusal, replace_refusal, points_refusal}
use Rattle.update.specs.Steps.{step_of, run_of}
use Rattle.update.specs.Calls.{load_call, replace_call, points_call}
use Rattle.tree.specs.Tree.{nodes_most}
use Rattle.circles.specs.Marks.{slots_most}
use Rattle.climb.specs.Circuit.{evaluations_most, round_most, circles_most}

-- 7.2, 14.15: each of the four buffers has its length
pub record Roomy (m : Memory) : Type 0 where
  pub productions : nodes_most ≤ length m.productions
  pub owns : nodes_most ≤ length m.owns
  pub sets : slots_most ≤ length m.sets
  pub earlier : slots_most ≤ length m.earlier

-- 14.15: the test for 15 says no exactly then
abbrev pub ShortMeans : Type 0
ShortMeans = (m : Memory) → (short m ≡ false) ↔ Roomy m

-- 14.11: points at `from` or behind it, which rise, inside a tree of so many nodes with their parts, none in the part of another
pub data Apart (nodes : ℕ) : ℕ → List Point → Type 0 where
  none : {from : ℕ} → Apart nodes from []
  more : {from : ℕ} {q : Point} {qs : List Point} → from ≤ q.node → q.node < nodes → q.node + q.count ≤ nodes → Apart nodes (q.node + max 1 q.count) qs → Apart nodes from (q ∷ qs)

-- 14.11: every number of the record within its limit, and the points of an open update in their places
pub record WithinLimits (r : Record) : Type 0 where
  pub nodes : r.nodes ≤ nodes_most
  pub count : r.count ≤ 8
  pub numbers : (i : ℕ) → i < 8 → ((point_at r.points i).node ≤ nodes_most) × ((point_at r.points i).count ≤ nodes_most)
  pub rank : r.rank ≤ circles_most
  pub round : r.round ≤ round_most
  pub circles : r.circles ≤ circles_most
  pub evaluations : r.evaluations ≤ evaluations_most
  pub inside : is_open_kind r.«open» ≡ true → (0 < r.count) × Apart r.nodes 0 (points_of r)

-- 14.11: the test for 11 says no exactly then
abbrev pub BeyondMeans : Type 0
BeyondMeans = (r : Record) → (beyond r ≡ false) ↔ WithinLimits r

-- 7.6, 7.7: what just opened and what is not open has counted nothing, and is within its limits
pub record Fresh (r : Record) : Type 0 where
  pub rank : r.rank ≡ 0
  pub round : r.round ≡ 0
  pub circles : r.circles ≡ 0
  pub evaluations : r.evaluations ≡ 0

-- 7.7: an update just opened
pub record OpenedRecord (o : Open) (nodes : ℕ) (qs : List Point) : Type 0 where
  pub fresh : Fresh (opened o nodes qs)
  pub held : (opened o nodes qs).held ≡ true
  pub points : points_of (opened o nodes qs) ≡ qs
  pub within : nodes ≤ nodes_most → 0 < length qs → length qs ≤ 8 → Apart nodes 0 qs → beyond (opened o nodes qs) ≡ false

abbrev pub AllOpen : Type 0
AllOpen = (o : Open) (nodes : ℕ) (qs : List Point) → OpenedRecord o nodes qs

-- 7.6: no update open
pub record ShutRecord (held : Bool) (nodes : ℕ) : Type 0 where
  pub fresh : Fresh (shut held nodes)
  pub closed : is_open_kind (shut held nodes).«open» ≡ false
  pub within : nodes ≤ nodes_most → beyond (shut held nodes) ≡ false

abbrev pub AllShut : Type 0
AllShut = (held : Bool) (nodes : ℕ) → ShutRecord held nodes

-- ---- 7.9: no call leaves a record that the next one refuses by 11

-- 7.9: a step keeps within the limits, whatever record within them it is lent
abbrev pub StepWithin : Type 0
StepWithin = (S : System) (R : List (List ℕ)) (earlier : List ℕ) (r : Record) (s : List ℕ) → length R ≤ circles_most → beyond r ≡ false
    → beyond (step_of S R r earlier s).next ≡ false

-- 7.9: so does a run
abbrev pub RunWithin : Type 0
RunWithin = (S : System) (R : List (List ℕ)) (earlier : List ℕ) (n : ℕ) (r : Record) (s : List ℕ) → length R ≤ circles_most → beyond r ≡ false
    → beyond (run_of S R earlier n r s).next ≡ false

-- 7.9: and so does what opens an update
pub record OpensWithin (t : List ℕ) (m : Memory) (r : Record) : Type 0 where
  pub load : (ns owns : List ℕ) → load_refusal t m r ns owns ≡ 0 → beyond (load_call t m r ns owns).next ≡ false
  pub replace : (point : ℕ) (new new_owns : List ℕ) → replace_refusal t m r point new new_owns ≡ 0 → beyond (replace_call t m r point new new_owns).next ≡ false
  pub points : (ps : List Part) → points_refusal t m r ps ≡ 0 → beyond (points_call t m r ps).next ≡ false

abbrev pub AllOpenWithin : Type 0
AllOpenWithin = (t : List ℕ) (m : Memory) (r : Record) → OpensWithin t m r
