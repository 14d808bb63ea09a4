-- What is known of a record's points before their order is judged. Assumes nothing.
use Rattle.std.specs.Prelude.{ℕ, Bool, ◌||◌, ◌≤◌, ◌<◌, ltb}
use Rattle.std.specs.List.{list_any}
use Rattle.tree.specs.Points.{point_at}
use Rattle.update.specs.declared.Record.{Record}
use Rattle.tree.specs.Tree.{nodes_most}
use Rattle.update.specs.Records.{points_most, circles_most, round_most, evaluations_most, large}

-- 7.8: no more than eight, and both numbers of every place within the limit
pub record Numbers (r : Record) : Type 0 where
  pub few : r.count ≤ 8
  pub each : (i : ℕ) → i < 8 → ((point_at r.points i).node ≤ nodes_most) × ((point_at r.points i).count ≤ nodes_most)

-- 14.11: a number of the record is above its limit, any of the points' too, used or not
abbrev pub over : Record → Bool
over r =
    ltb nodes_most r.nodes
    || ltb points_most r.count
    || list_any large r.points
    || ltb circles_most r.rank
    || ltb round_most r.round
    || ltb circles_most r.circles
    || ltb evaluations_most r.evaluations
