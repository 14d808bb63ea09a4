-- The points of a record, looked at one by one. Assumes nothing.
use mathlib.Core.Path.{◌≡◌, refl, ap, ◌∙◌}
use mathlib.Core.Bool.{Bool, ◌&&◌, ◌||◌}
use mathlib.Core.List.{List, [], ◌∷◌}
use Prim.Native.Nat.{ℕ, zero, suc, ◌+◌, ◌≤◌, ◌<◌}
use native.Mathlib.Nat.{add-zero, add-suc, suc-add, zero-add}
use native.Mathlib.Omega.{arith}
use lib.ListN.{length, get_or, take, drop}
use lib.Seq.{drop-cons}
use Rattle.std.specs.List.{list_any, list_all}
use Rattle.tree.specs.declared.Point.{Point}
use Rattle.tree.specs.Handed.{places_from}
use Rattle.tree.specs.Points.{point_at, some_point, every_point}
use Rattle.tree.specs.Tree.{nodes_most}
use Rattle.update.specs.declared.Record.{Record}
use Rattle.update.specs.Records.{points_of}
use Rattle.update.specs.Within.{WithinLimits}

-- n places from i on are what stands there
taken_from : (l : List Point) (n i : ℕ) → i + n ≤ length l → places_from i n l ≡ take n (drop i l)
unfolding places_from
taken_from l zero i h = refl
taken_from l (suc n) i h = rw (drop-cons l i (record { node = 0; count = 0 }) (omega arith)) (ap (λ (t : List Point). point_at l i ∷ t) (taken_from l n (suc i) (omega arith)))

pub places_taken : (l : List Point) (n : ℕ) → n ≤ length l → places_from 0 n l ≡ take n l
places_taken l n h = taken_from l n 0 (omega arith)

length_places : (l : List Point) (n i : ℕ) → length (places_from i n l) ≡ n
unfolding places_from
length_places l zero i = refl
length_places l (suc n) i = ap suc (length_places l n (suc i))

get_places : (l : List Point) (n i k : ℕ) (d : Point) → k < n → get_or (places_from i n l) k d ≡ point_at l (i + k)
unfolding places_from
get_places l zero i k d h = absurd (omega arith)
get_places l (suc n) i zero d h = rw add-zero
get_places l (suc n) i (suc k) d h = get_places l n (suc i) k d (omega arith) ∙ rw (suc-add, add-suc)

-- each has its numbers
pub numbers_at : {r : Record} → WithinLimits r → (q : Point) (k : ℕ) → k < length (points_of r) → q ≡ get_or (points_of r) k q → (q.node ≤ nodes_most) × (q.count ≤ nodes_most)
numbers_at {r} w q k h e =
    let l : k < r.count = omega (arith, length_places r.points r.count 0) in
    let p : q ≡ point_at r.points k = e ∙ get_places r.points r.count 0 k q l ∙ rw zero-add in
    rw p (w.numbers k (omega (arith, w.count)))

pub any_some : (f : Point → Bool) (qs : List Point) → list_any f qs ≡ some_point f qs
any_some f [] = refl
any_some f (q ∷ qs) = ap (λ (b : Bool). f q || b) (any_some f qs)

pub all_every : (f : Point → Bool) (qs : List Point) → list_all f qs ≡ every_point f qs
all_every f [] = refl
all_every f (q ∷ qs) = ap (λ (b : Bool). f q && b) (all_every f qs)
