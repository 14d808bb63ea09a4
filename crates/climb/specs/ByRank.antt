-- Least by rank: what every set is where an equation may lose members as what it reads in another circle gains some. Assumes nothing.
use Rattle.std.specs.Prelude.{◌≡◌, Bool, true, ◌↔◌, List, ℕ, ◌<◌}
use Rattle.sets.specs.Members.{◌⊑◌}
use Rattle.circles.specs.Ranked.{circle_at, member}
use Rattle.climb.specs.System.{Assignment, System, Lawful, Least}
use Rattle.climb.specs.Inside.{Small}
use Rattle.climb.specs.Ordered.{climbed_all, InOrder}
use Rattle.climb.specs.Circuit.{Ranked, LawfulCircles}

-- 5.5: each set of C is in v what its equation gives
abbrev pub ConsistentOn : System → (ℕ → Bool) → Assignment → Type 0
ConsistentOn S C v = (x : ℕ) → C x ≡ true → v x ≡ S.eval v x

-- 6.3: C has in v its least sets, those of P given: consistent in C, and there below any assignment that is consistent in C and has in P what v has
pub record LeastGiven (S : System) (P : ℕ → Type 0) (C : ℕ → Bool) (v : Assignment) : Type 0 where
  pub consistent : ConsistentOn S C v
  pub least : (w : Assignment) → ((x : ℕ) → P x → w x ≡ v x) → ConsistentOn S C w → (x : ℕ) → C x ≡ true → v x ⊑ w x

-- 6.3: in a circle of rank below n
abbrev pub Before : List (List ℕ) → ℕ → ℕ → Type 0
Before R n x = (j : ℕ) × (j < n) × (member (circle_at R j) x ≡ true)

-- 6.3: every circle has its least sets, those of lower rank given
pub record LeastByRank (S : System) (R : List (List ℕ)) (v : Assignment) : Type 0 where
  pub circle : (i : ℕ) → LeastGiven S (Before R i) (member (circle_at R i)) v

-- ---- what is promised of it

-- 6.5: it determines every set of the circles, whatever the equations are
abbrev pub ByRankUnique : Type 0
ByRankUnique = (S : System) (R : List (List ℕ)) (v w : Assignment) → LeastByRank S R v → LeastByRank S R w
    → (i x : ℕ) → member (circle_at R i) x ≡ true → v x ≡ w x

-- 6.4: a list of circles in order is ranked
abbrev pub InOrderRanked : Type 0
InOrderRanked = (S : System) (R : List (List ℕ)) → InOrder S R → Ranked S R

-- 6.5: and circle by circle, from any values, leads there, whether or not the members of a circle reach each other
abbrev pub InOrderByRank : Type 0
InOrderByRank = (S : System) (R : List (List ℕ)) → LawfulCircles S R → InOrder S R → (v : Assignment) → Small v → LeastByRank S R (climbed_all S R v)

-- every circle of R' is one of R
abbrev pub CirclesOf : List (List ℕ) → List (List ℕ) → Type 0
CirclesOf R R' = (i : ℕ) → (j : ℕ) × ((x : ℕ) → member (circle_at R' i) x ≡ member (circle_at R j) x)

-- 6.4: of the orders in which no circle reads a later one any will do
abbrev pub AnyOrder : Type 0
AnyOrder = (S : System) (R R' : List (List ℕ)) → LawfulCircles S R → Ranked S R → Ranked S R' → CirclesOf R R'
    → (v : Assignment) → LeastByRank S R v → LeastByRank S R' v

-- 6.4: where every equation gains with all that it reads, it says no more and no less than that v is the least of all consistent assignments
abbrev pub ByRankLeast : Type 0
ByRankLeast = (S : System) → Lawful S → (R : List (List ℕ)) → Ranked S R → (v : Assignment) → LeastByRank S R v ↔ Least S v
