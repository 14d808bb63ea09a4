-- Tests that code makes one limit at a time. Assumes nothing.
use mathlib.Core.Path.{◌≡◌, ap, ◌∙◌}
use mathlib.Core.Bool.{◌&&◌, ◌||◌}
use native.Mathlib.Omega.{arith}
use lib.Dec.{eqb}
use lib.ListN.{length}
use lib.Seq.{take_all}
use Rattle.std.specs.List.{list_any}
use Rattle.tree.specs.Points.{some_point}
use Rattle.tree.specs.Handed.{places_from}
use Rattle.update.specs.declared.Record.{Record}
use Rattle.update.specs.Records.{is_open_kind, points_of, large, astray, beyond}
use Rattle.update_judge.specs.Inner.Limits.{over}
use Rattle.update_judge.proofs.Walks.{places_front, some_any}

-- the limits of the record's numbers, then the order of its points
pub beyond_is : (r : Record) → length r.points ≡ 8 → beyond r ≡ (over r || is_open_kind r.«open» && (eqb r.count 0 || astray r.nodes 0 (points_of r)))
unfolding beyond
beyond_is r h =
    let e : some_point large (places_from 0 8 r.points) ≡ list_any large r.points =
    ap (some_point large) (places_front 8 r.points (omega arith) ∙ take_all 8 r.points (omega arith)) ∙ some_any large r.points in
    rw e
