-- The update record and its limits. Assumes nothing.
use Rattle.std.specs.Prelude.{◌≡◌, Bool, true, false, ◌&&◌, ◌||◌, List, [], ◌∷◌, ◌++◌, ℕ, ◌+◌, ◌-◌, max, eqb, ltb, leb, length, replicate}
use Rattle.tree.specs.declared.Point.{Point}
use Rattle.tree.specs.Points.{some_point}
use Rattle.tree.specs.Handed.{places_from}
use Rattle.update.specs.declared.Open.{Open}
use Rattle.update.specs.declared.Open.TheVariants.{Nothing, Load, Replacement}
use Rattle.update.specs.declared.Record.{Record}
-- 7.8: the limits of the record's numbers: nodes and both numbers of a point; rank and circles, the round, evaluations
pub use Rattle.tree.specs.Tree.{nodes_most}
pub use Rattle.climb.specs.Circuit.{circles_most, round_most, evaluations_most}

-- 7.8: so many points have a place in the record
abbrev pub points_most : ℕ
points_most = 8

-- 7.3: whether an update is open, and whether it is a load
abbrev pub is_open_kind : Open → Bool
is_open_kind Nothing = false
is_open_kind Load = true
is_open_kind Replacement = true

abbrev pub is_load : Open → Bool
is_load Nothing = false
is_load Load = true
is_load Replacement = false

-- 7.4: a place of the array that no point has
abbrev pub nowhere : Point
nowhere = record { node = 0; count = 0 }

-- 7.4: the array of the points qs; places that none has are zero
unfoldable pub padded : List Point → List Point
padded qs = qs ++ replicate (8 - length qs) nowhere

-- 7.3: the points of a record: as many as it says
abbrev pub points_of : Record → List Point
points_of r = places_from 0 r.count r.points

-- 14.11: a number of a point beyond the limit
abbrev pub large : Point → Bool
large q = ltb nodes_most q.node || ltb nodes_most q.count

-- 14.11: of a tree of so many nodes: a point before `from`, or a point or part outside the tree, or points behind that don't rise or lie in a part
unfoldable pub astray : ℕ → ℕ → List Point → Bool
astray nodes from [] = false
astray nodes from (q ∷ qs) = ltb q.node from || leb nodes q.node || ltb nodes (q.node + q.count) || astray nodes (q.node + max 1 q.count) qs

-- 14.11: a number of the record is beyond its limit, any of the points' too, used or not; or an update is open and has no point, a point or part outside the
-- tree, or points that don't rise or lie apart
unfoldable pub beyond : Record → Bool
beyond r =
    ltb nodes_most r.nodes
    || ltb points_most r.count
    || some_point large (places_from 0 8 r.points)
    || ltb circles_most r.rank
    || ltb round_most r.round
    || ltb circles_most r.circles
    || ltb evaluations_most r.evaluations
    || is_open_kind r.«open» && (eqb r.count 0 || astray r.nodes 0 (points_of r))

-- 7.6: no update is open, and nothing but the tree and its nodes is recorded
unfoldable pub shut : Bool → ℕ → Record
shut held nodes = record { held = held; «open» = Nothing; nodes = nodes; count = 0; points = replicate 8 nowhere; rank = 0; round = 0; circles = 0; evaluations = 0 }

-- 7.6: neither is a tree held
unfoldable pub empty_record : Record
unfolding shut
empty_record = shut false 0

-- 7.3, 7.7: an update is open, and nothing is counted yet
unfoldable pub opened : Open → ℕ → List Point → Record
opened o nodes qs = record { held = true; «open» = o; nodes = nodes; count = length qs; points = padded qs; rank = 0; round = 0; circles = 0; evaluations = 0 }

-- 10.9: the same update with other numbers of the work
abbrev pub working : Record → ℕ → ℕ → ℕ → ℕ → Record
working r rank round circles evaluations = record {
  held = r.held;
  «open» = r.«open»;
  nodes = r.nodes;
  count = r.count;
  points = r.points;
  rank = rank;
  round = round;
  circles = circles;
  evaluations = evaluations;
}

-- 7.6: what `Record::empty` promises
abbrev pub EmptySays : Record → Type 0
EmptySays a = a ≡ empty_record
