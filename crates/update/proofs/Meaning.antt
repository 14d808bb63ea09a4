-- The tests of a step mean what chapters 10 and 11 say. Assumes nothing.
use mathlib.Core.Path.{◌≡◌, refl, sym, ap}
use mathlib.Core.Bool.{Bool, true, false, not, ◌&&◌, true≢false, or-true}
use mathlib.Core.Logic.{◌⊎◌, inl, inr, ⊎_elim}
use mathlib.Core.List.Memᴰ
use mathlib.Core.List.{List, [], ◌∷◌, map}
use Prim.Native.Nat.{ℕ, zero, suc, ◌+◌, ◌≤◌}
use native.Mathlib.Omega.{arith}
use lib.Dec.{eqb, ltb, leb}
use lib.ListN.{length, get_or}
use borrow.Author.Tests.{eqb-true, eqb-false, eq-eqb, ne_eqb, ltb-true, lt-ltb, leb-true, le-leb, not-true}
use Rattle.circles.specs.Graph.{Graph}
use Rattle.circles.specs.Ranked.{circle_at, member, keep, up_from, circle_of, ranking, labels_of, ranked_by, ranked}
use Rattle.circles.proofs.Lists.{or_parts, bool_same, keep_same}
use Rattle.climb.specs.System.{System}
use Rattle.climb.specs.Memory.{at}
use Rattle.climb.proofs.Lists.{either, and_is}
use Rattle.tree.specs.declared.Point.{Point}
use Rattle.tree.specs.Points.{some_point, every_point, survives_at}
use Rattle.wire.specs.Instances.{node_of, index_of}
use Rattle.wire.specs.Replaced.{sown_by}
use Rattle.update.specs.declared.Record.{Record}
use Rattle.update.specs.Records.{is_load, points_of}
use Rattle.update.specs.Steps.{sown_of, survives, changed_of, run_of}
use Rattle.update.specs.Meaning.{Among, Sown, in_load, at_point, below, SownExactly, Changed, ChangedExactly, LoadChanges, FirstIsLeast, NoBudget}

-- ---- sown

-- a point for which the test holds
record Found (f : Point → Bool) (qs : List Point) : Type 0 where
  q : Point
  among : Among q qs
  holds : f q ≡ true

some_found : (f : Point → Bool) (qs : List Point) → some_point f qs ≡ true → Found f qs
some_found f [] h = absurd (true≢false (sym h))
some_found f (q ∷ qs) h = ⊎_elim (λ p. record { q = q; among = Memᴰ.head refl; holds = p })
    (λ p. let s = some_found f qs p in record { q = s.q; among = Memᴰ.tail s.among; holds = s.holds }) (or_parts (f q) (some_point f qs) h)

found_some : (f : Point → Bool) (qs : List Point) (q : Point) → Among q qs → f q ≡ true → some_point f qs ≡ true
found_some f [] q m h = elim m [ ]
found_some f (p ∷ qs) q (Memᴰ.head e) h = let i : f p ≡ true = rw e at h in rw i
found_some f (p ∷ qs) q (Memᴰ.tail m) h = rw (found_some f qs q m h) (or-true (f p))

sown_to : (r : Record) (x : ℕ) → sown_of r x ≡ true → Sown r x
unfolding sown_of sown_by
sown_to r x h = ⊎_elim in_load
    (λ a. let s = some_found (λ q. sown_by q.node q.count x) (points_of r) a in
    ⊎_elim
    (λ p. let q = and_is p in at_point s.q s.among (eqb-true (node_of x) s.q.node q.0) (ltb-true (index_of x) 4 q.1))
    (λ p. let q = and_is p in below s.q s.among (ltb-true s.q.node (node_of x) q.0) (ltb-true (node_of x) (s.q.node + s.q.count) q.1))
    (or_parts _ _ s.holds))
    (or_parts (is_load r.«open») _ h)

sown_from : (r : Record) (x : ℕ) → Sown r x → sown_of r x ≡ true
unfolding sown_of sown_by
sown_from r x (in_load h) = rw h
sown_from r x (at_point q a e l) =
    rw (found_some (λ q. sown_by q.node q.count x) (points_of r) q a (rw (eq-eqb (node_of x) q.node e, lt-ltb (index_of x) 4 l))) (or-true (is_load r.«open»))
sown_from r x (below q a l m) =
    rw (found_some (λ q. sown_by q.node q.count x) (points_of r) q a (rw (lt-ltb q.node (node_of x) l, lt-ltb (node_of x) (q.node + q.count) m)
    (or-true (eqb (node_of x) q.node && ltb (index_of x) 4)))) (or-true (is_load r.«open»))

pub sown_exactly : SownExactly
sown_exactly r x = (sown_to r x, sown_from r x)

-- ---- changed

every_at : (f : Point → Bool) (qs : List Point) → every_point f qs ≡ true → (q : Point) → Among q qs → f q ≡ true
every_at f [] h q m = elim m [ ]
every_at f (p ∷ qs) h q (Memᴰ.head e) = rw e (and_is h).0
every_at f (p ∷ qs) h q (Memᴰ.tail m) = every_at f qs (and_is {a = f p} h).1 q m

at_every : (f : Point → Bool) (qs : List Point) → ((q : Point) → Among q qs → f q ≡ true) → every_point f qs ≡ true
at_every f [] h = refl
at_every f (p ∷ qs) h = rw (h p (Memᴰ.head refl), at_every f qs (λ q m. h q (Memᴰ.tail m)))

module _ (S : System) (r : Record) (earlier sets : List ℕ) (x : ℕ) where
  abbrev counted : Bool
  counted = S.declared x && survives r x && not (eqb (at sets x) (at earlier x))

  outlives : (p : Point) → survives_at p (node_of x) ≡ true → (node_of x ≤ p.node) ⊎ (p.node + p.count ≤ node_of x)
  unfolding survives_at
  outlives p o = ⊎_elim (λ a. inl (leb-true (node_of x) p.node a)) (λ a. inr (leb-true (p.node + p.count) (node_of x) a)) (or_parts _ _ o)

  counted_to : counted ≡ true → Changed S r earlier sets x
  unfolding survives
  counted_to h =
      let p = and_is h in
      let q = and_is p.0 in
      record {
        declared = q.0;
        survives = λ p a. let o = every_at (λ p. survives_at p (node_of x)) (points_of r) q.1 p a in outlives p o;
        differs = eqb-false (at sets x) (at earlier x) (not-true (eqb (at sets x) (at earlier x)) p.1);
      }

  stays_at : (p : Point) → (node_of x ≤ p.node) ⊎ (p.node + p.count ≤ node_of x) → survives_at p (node_of x) ≡ true
  unfolding survives_at
  stays_at p (inl l) = rw (le-leb (node_of x) p.node l)
  stays_at p (inr l) = rw (le-leb (p.node + p.count) (node_of x) l) (or-true (leb (node_of x) p.node))

  stays : ((p : Point) → Among p (points_of r) → (node_of x ≤ p.node) ⊎ (p.node + p.count ≤ node_of x)) → survives r x ≡ true
  unfolding survives
  stays h = at_every (λ p. survives_at p (node_of x)) (points_of r) (λ p a. stays_at p (h p a))

  counted_from : Changed S r earlier sets x → counted ≡ true
  counted_from c = rw (c.declared, stays c.survives, ne_eqb (at sets x) (at earlier x) c.differs)

pub changed_exactly : ChangedExactly
unfolding changed_of
changed_exactly S r earlier sets test o h = rw o (ap length (keep_same (counted S r earlier sets) test (up_from 0 S.size)
    (λ x k. bool_same (counted S r earlier sets x) (test x) (λ c. (h x).1 (counted_to S r earlier sets x c)) (λ c. counted_from S r earlier sets x ((h x).0 c)))))

pub load_changes : LoadChanges
unfolding changed_of
load_changes S r earlier sets h = rw h

-- ---- the least instance of a circle

module _ (p : ℕ → Bool) where
  from_start : (n k x : ℕ) → member (keep p (up_from k n)) x ≡ true → k ≤ x
  unfolding keep up_from
  from_start zero k x h = absurd (true≢false (sym h))
  from_start (suc n) k x h = ⊎_elim
      (λ (t : p k ≡ true). ⊎_elim (λ e. let q : x ≡ k = eqb-true x k e in omega arith) (λ m. omega (arith, from_start n (suc k) x m))
      (or_parts (eqb x k) (member (keep p (up_from (suc k) n)) x) (rw t at h)))
      (λ (t : p k ≡ false). omega (arith, from_start n (suc k) x (rw t at h))) (either (p k))

  first_least : (n k x : ℕ) → member (keep p (up_from k n)) x ≡ true
      → (member (keep p (up_from k n)) (get_or (keep p (up_from k n)) 0 0) ≡ true) × (get_or (keep p (up_from k n)) 0 0 ≤ x)
  unfolding keep up_from
  first_least zero k x h = absurd (true≢false (sym h))
  first_least (suc n) k x h = ⊎_elim
      (λ (t : p k ≡ true). let l : k ≤ x = from_start (suc n) k x h in rw t (rw (eq-eqb k k refl), l))
      (λ (t : p k ≡ false). rw t (first_least n (suc k) x (rw t at h))) (either (p k))

first_of : (G : Graph) (labels ls : List ℕ) (i x : ℕ) → member (circle_at (map (circle_of G labels) ls) i) x ≡ true
    → (member (circle_at (map (circle_of G labels) ls) i) (get_or (circle_at (map (circle_of G labels) ls) i) 0 0) ≡ true) × (get_or (circle_at (map (circle_of G labels) ls) i) 0 0 ≤ x)
unfolding circle_of
first_of G labels [] i x h = absurd (true≢false (sym h))
first_of G labels (l ∷ ls) zero x h = first_least (λ x. eqb (get_or labels x 65535) l) G.size 0 x h
first_of G labels (l ∷ ls) (suc i) x h = first_of G labels ls i x h

pub first_is_least : FirstIsLeast
unfolding ranked ranked_by
first_is_least G i x h = first_of G (labels_of G) (ranking G.size G (labels_of G) []) i x h

pub no_budget : NoBudget
unfolding run_of
no_budget S R earlier r s = refl
