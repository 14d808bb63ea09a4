-- Points in an array of eight, and the record that is opened with them. Assumes nothing.
use Rattle.std.specs.Prelude.{◌≡◌, true, false, List, ℕ, ◌≤◌, length}
use Rattle.tree.specs.declared.Point.{Point}
use Rattle.tree.specs.declared.Places.{Places}
use Rattle.tree.specs.declared.Cuts.{Cuts}
use Rattle.tree.specs.Handed.{named_points, bare_row}
use Rattle.update.specs.declared.Open.{Open}
use Rattle.update.specs.declared.Record.{Record}
use Rattle.update.specs.Memories.{Memory}
use Rattle.update.specs.Records.{padded}
use Rattle.update.specs.Refusals.{held_refusal}
use Rattle.update_judge.specs.Order.{Grounded, Named}
use Rattle.update_judge.specs.Inner.Cuts.{named_cuts, meeting, coming, Small}
use Rattle.tree.specs.Tree.{nodes_most}

abbrev pub point_of : ℕ → ℕ → Point
point_of node count = record { node = node; count = count }

-- 7.4: the points qs, and zeros behind them
abbrev pub placed : List Point → Places
placed qs = record { count = length qs; points = padded qs }

-- 7.3, 7.7: the record just opened with the points that lie there
abbrev pub opened_at : Open → ℕ → Places → Record
opened_at o nodes places =
    record { held = true; «open» = o; nodes = nodes; count = places.count; points = places.points; rank = 0; round = 0; circles = 0; evaluations = 0 }

-- 9.3, 14.8: cuts that lie apart in a tree, and no more parts than a tree may have nodes: their points can be shifted
pub record Shiftable (cs : Cuts) : Type 0 where
  pub small : Small nodes_most cs
  pub apart : meeting 0 (named_cuts cs) ≡ false
  pub few : coming (named_cuts cs) ≤ nodes_most

-- 9.3, 9.10: the points are nodes of a sound tree that is held
pub record Pointed (t : List ℕ) (m : Memory) (r : Record) (points : Places) : Type 0 where
  pub grounded : Grounded t m r
  pub sound : held_refusal t m r ≡ 0
  pub named : Named r (bare_row (named_points points))
