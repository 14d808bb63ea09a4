-- Parts handed in as one list of nodes and one of own sets, part after part. Assumes nothing.
use Rattle.std.specs.Prelude.{ℕ, zero, suc, ◌+◌, ◌≤◌, ◌<◌, ◌≡◌, Bool, cond, ◌&&◌, List, [], ◌∷◌, eqb, length, get_or, take, drop, replicate}
use Rattle.tree.specs.declared.Point.{Point}
use Rattle.tree.specs.declared.Places.{Places}
use Rattle.tree.specs.declared.Cut.{Cut}
use Rattle.tree.specs.declared.Cuts.{Cuts}
use Rattle.tree.specs.Replace.{part}
use Rattle.tree.specs.Points.{Part, point_at}

-- 9.10: n places of an array of points from i on, as code reads them; past its end they are zero
unfoldable pub places_from : ℕ → ℕ → List Point → List Point
places_from i zero l = []
places_from i (suc n) l = point_at l i ∷ places_from (suc i) n l

-- 9.10: the points that a call names, each with the count of its part: as many as they say they are
abbrev pub named_points : Places → List Point
named_points qs = places_from 0 qs.count qs.points

-- 9.10: how many nodes the points announce
unfoldable pub announced : List Point → ℕ
announced [] = 0
announced (q ∷ qs) = q.count + announced qs

-- 9.10: each point's part: as many nodes and own sets as it announces, behind those of the points before it
unfoldable pub cut_row : List Point → List ℕ → List ℕ → List Part
cut_row [] ns owns = []
cut_row (q ∷ qs) ns owns =
    record { point = q.node; nodes = take q.count ns; owns = take q.count owns } ∷ cut_row qs (drop q.count ns) (drop q.count owns)

-- 9.11: parts with the counts that are announced, and without own sets: none is a tree whose nodes have their own sets
unfoldable pub bare_row : List Point → List Part
bare_row [] = []
bare_row (q ∷ qs) = record { point = q.node; nodes = replicate q.count 0; owns = [] } ∷ bare_row qs

-- 9.11: as many nodes and own sets came as the points announce
unfoldable pub evenly : List Point → List ℕ → List ℕ → Bool
evenly qs ns owns = eqb (length ns) (announced qs) && eqb (length owns) (announced qs)

-- 9.10, 9.11: the parts. Where nodes or own sets are missing or left over, the counts are as announced, so 8 goes by them,
-- and the first part then gets its 7
unfoldable pub handed_row : List Point → List ℕ → List ℕ → List Part
handed_row qs ns owns = cond (evenly qs ns owns) (cut_row qs ns owns) (bare_row qs)

-- what code holds of the points qs of the tree ns: each with the count of its subtree and of its part
abbrev pub cut_at : List Cut → ℕ → Cut
cut_at cs i = get_or cs i (record { node = 0; old = 0; count = 0 })

abbrev pub cut_of : List ℕ → List ℕ → Point → Cut
cut_of t ns q = record { node = q.node; old = part t ns q.node; count = q.count }

pub record Cutting (t ns : List ℕ) (qs : List Point) (cs : Cuts) : Type 0 where
  pub count : cs.count ≡ length qs
  pub few : length qs ≤ 8
  pub each : (i : ℕ) → i < length qs → cut_at cs.cuts i ≡ cut_of t ns (point_at qs i)
