-- Buffers that are long enough, and records within their limits. Assumes nothing.
use mathlib.Core.Path.{◌≡◌, refl, sym}
use mathlib.Core.Bool.{Bool, true, false, true≢false}
use mathlib.Core.Logic.{⊎_elim}
use mathlib.Core.List.{List, [], ◌∷◌, ◌++◌}
use Prim.Native.Nat.{ℕ, zero, suc, ◌+◌, ◌-◌, ◌≤◌, ◌<◌, max}
use native.Mathlib.Decide.{ℕ_discrete}
use native.Mathlib.Omega.{arith}
use lib.ListN.{length, replicate}
use borrow.Author.Tests.{ltb-false, leb-false, eqb-false, ne_eqb, le-ltb, lt-leb}
use Rattle.tree.specs.declared.Point.{Point}
use Rattle.tree.specs.Points.{point_at, some_point}
use Rattle.climb.proofs.Lists.{either, or_false_is}
use Rattle.update.specs.declared.Record.{Record}
use Rattle.tree.specs.Handed.{places_from}
use Rattle.update.specs.Records.{is_open_kind, nowhere, padded, points_of, large, astray, beyond, opened, shut}
use Rattle.update.specs.Memories.{Memory}
use Rattle.update.specs.Refusals.{short}
use Rattle.update.specs.Within.{Roomy, ShortMeans, Apart, none, more, WithinLimits, BeyondMeans, AllOpen, AllShut}

roomy : (m : Memory) → short m ≡ false → Roomy m
unfolding short
roomy m h =
    let a = or_false_is h in
    let b = or_false_is a.0 in
    let c = or_false_is b.0 in
    record {
      productions = ltb-false (length m.productions) 512 c.0;
      owns = ltb-false (length m.owns) 512 c.1;
      sets = ltb-false (length m.sets) 4096 b.1;
      earlier = ltb-false (length m.earlier) 4096 a.1;
    }

not_short : (m : Memory) → Roomy m → short m ≡ false
unfolding short
not_short m h = rw (
  le-ltb (length m.productions) 512 h.productions,
  le-ltb (length m.owns) 512 h.owns,
  le-ltb (length m.sets) 4096 h.sets,
  le-ltb (length m.earlier) 4096 h.earlier,
)

pub short_means : ShortMeans
short_means m = (roomy m, not_short m)

-- ---- the points of a record

some_none : (f : Point → Bool) (l : List Point) (i n : ℕ) → some_point f (places_from i n l) ≡ false → (j : ℕ) → i ≤ j → j < i + n → f (point_at l j) ≡ false
unfolding places_from
some_none f l i zero h j a b = absurd (omega arith)
some_none f l i (suc n) h j a b =
    let o = or_false_is {a = f (point_at l i)} h in
    elim (ℕ_discrete i j) [ yes e ↦ rw e at o.0 | no e ↦ some_none f l (suc i) n o.1 j (omega arith) (omega arith) ]

none_some : (f : Point → Bool) (l : List Point) (i n : ℕ) → ((j : ℕ) → i ≤ j → j < i + n → f (point_at l j) ≡ false) → some_point f (places_from i n l) ≡ false
unfolding places_from
none_some f l i zero h = refl
none_some f l i (suc n) h = rw (h i (omega arith) (omega arith), none_some f l (suc i) n (λ j a b. h j (omega arith) (omega arith)))

apart : (nodes from : ℕ) (qs : List Point) → astray nodes from qs ≡ false → Apart nodes from qs
unfolding astray
apart nodes from [] h = none
apart nodes from (q ∷ qs) h =
    let a = or_false_is h in
    let b = or_false_is a.0 in
    let c = or_false_is b.0 in
    more (ltb-false q.node from c.0) (leb-false nodes q.node c.1) (ltb-false nodes (q.node + q.count) b.1) (apart nodes (q.node + max 1 q.count) qs a.1)

pub not_astray : (nodes from : ℕ) (qs : List Point) → Apart nodes from qs → astray nodes from qs ≡ false
unfolding astray
not_astray nodes from [] none = refl
not_astray nodes from (q ∷ qs) (more a b c d) =
    rw (le-ltb q.node from a, lt-leb nodes q.node b, le-ltb nodes (q.node + q.count) c, not_astray nodes (q.node + max 1 q.count) qs d)

within : (r : Record) → beyond r ≡ false → WithinLimits r
unfolding beyond
within r h =
    let a = or_false_is h in
    let b = or_false_is a.0 in
    let c = or_false_is b.0 in
    let d = or_false_is c.0 in
    let e = or_false_is d.0 in
    let f = or_false_is e.0 in
    let g = or_false_is f.0 in
    record {
      nodes = ltb-false 512 r.nodes g.0;
      count = ltb-false 8 r.count g.1;
      numbers = λ i k. let n = or_false_is (some_none large r.points 0 8 f.1 i (omega arith) (omega arith)) in
          (ltb-false 512 (point_at r.points i).node n.0, ltb-false 512 (point_at r.points i).count n.1);
      rank = ltb-false 4092 r.rank e.1;
      round = ltb-false 262145 r.round d.1;
      circles = ltb-false 4092 r.circles c.1;
      evaluations = ltb-false 1073745920 r.evaluations b.1;
      inside = λ o. let i = or_false_is (rw o at a.1) in
          let n : (r.count ≡ 0) → ⊥ = eqb-false r.count 0 i.0 in
          (omega arith, apart r.nodes 0 (points_of r) i.1);
    }

not_beyond : (r : Record) → WithinLimits r → beyond r ≡ false
unfolding beyond
not_beyond r h = rw (
  le-ltb 512 r.nodes h.nodes,
  le-ltb 8 r.count h.count,
  none_some large r.points 0 8 (λ i a b. let n = h.numbers i (omega arith) in rw (le-ltb 512 (point_at r.points i).node n.0, le-ltb 512 (point_at r.points i).count n.1)),
  le-ltb 4092 r.rank h.rank,
  le-ltb 262145 r.round h.round,
  le-ltb 4092 r.circles h.circles,
  le-ltb 1073745920 r.evaluations h.evaluations,
)
    (⊎_elim
    (λ (o : is_open_kind r.«open» ≡ true). let i = h.inside o in
    let n : (r.count ≡ 0) → ⊥ = λ e. omega (arith, i.0) in
    rw (o, ne_eqb r.count 0 n, not_astray r.nodes 0 (points_of r) i.1))
    (λ (o : is_open_kind r.«open» ≡ false). rw o) (either (is_open_kind r.«open»)))

pub beyond_means : BeyondMeans
beyond_means r = (within r, not_beyond r)

-- ---- opened and shut

-- the places behind the first
places_next : (i n : ℕ) (q : Point) (l : List Point) → places_from (suc i) n (q ∷ l) ≡ places_from i n l
unfolding places_from
places_next i zero q l = refl
places_next i (suc n) q l = rw (places_next (suc i) n q l)

places_front : (qs ms : List Point) → places_from 0 (length qs) (qs ++ ms) ≡ qs
unfolding places_from
places_front [] ms = refl
places_front (q ∷ qs) ms = rw (places_next 0 (length qs) q (qs ++ ms), places_front qs ms)

opened_points : (qs : List Point) → places_from 0 (length qs) (padded qs) ≡ qs
unfolding padded
opened_points qs = places_front qs (replicate (8 - length qs) nowhere)

-- the numbers of points inside a tree
apart_numbers : (nodes from : ℕ) (qs ms : List Point) → nodes ≤ 512 → Apart nodes from qs → ((i : ℕ) → ((point_at ms i).node ≤ 512) × ((point_at ms i).count ≤ 512))
    → (i : ℕ) → ((point_at (qs ++ ms) i).node ≤ 512) × ((point_at (qs ++ ms) i).count ≤ 512)
apart_numbers nodes from [] ms h none z i = z i
apart_numbers nodes from (q ∷ qs) ms h (more a b c d) z zero = (omega arith, omega arith)
apart_numbers nodes from (q ∷ qs) ms h (more a b c d) z (suc i) = apart_numbers nodes (q.node + max 1 q.count) qs ms h d z i

nowhere_numbers : (n i : ℕ) → ((point_at (replicate n nowhere) i).node ≤ 512) × ((point_at (replicate n nowhere) i).count ≤ 512)
nowhere_numbers zero i = (omega arith, omega arith)
nowhere_numbers (suc n) zero = (omega arith, omega arith)
nowhere_numbers (suc n) (suc i) = nowhere_numbers n i

padded_numbers : (nodes : ℕ) (qs : List Point) → nodes ≤ 512 → Apart nodes 0 qs → (i : ℕ) → ((point_at (padded qs) i).node ≤ 512) × ((point_at (padded qs) i).count ≤ 512)
unfolding padded
padded_numbers nodes qs h d = apart_numbers nodes 0 qs (replicate (8 - length qs) nowhere) h d (nowhere_numbers (8 - length qs))

pub all_open : AllOpen
unfolding opened
all_open o nodes qs = record {
  fresh = record { rank = refl; round = refl; circles = refl; evaluations = refl };
  held = refl;
  points = opened_points qs;
  within = λ a b c d. not_beyond (opened o nodes qs) (record {
    nodes = a;
    count = c;
    numbers = λ i k. padded_numbers nodes qs a d i;
    rank = omega arith;
    round = omega arith;
    circles = omega arith;
    evaluations = omega arith;
    inside = λ e. (b, rw (opened_points qs) d);
  });
}

pub all_shut : AllShut
unfolding shut
all_shut held nodes = record {
  fresh = record { rank = refl; round = refl; circles = refl; evaluations = refl };
  closed = refl;
  within = λ a. not_beyond (shut held nodes) (record {
    nodes = a;
    count = omega arith;
    numbers = λ i k. nowhere_numbers 8 i;
    rank = omega arith;
    round = omega arith;
    circles = omega arith;
    evaluations = omega arith;
    inside = λ e. absurd (true≢false (sym e));
  });
}
