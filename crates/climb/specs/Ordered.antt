-- Circle by circle, in an order in which arguments come first. Assumes nothing.
use Rattle.std.specs.Prelude.{◌≡◌, Bool, true, false, ◌⊎◌, List, [], ◌∷◌, ℕ}
use Rattle.sets.specs.Members.{◌⊑◌}
use Rattle.circles.specs.Graph.{◌∈◌}
use Rattle.circles.specs.Ranked.{member, keep, up_from}
use Rattle.climb.specs.System.{Assignment, System, Lawful, Least}
use Rattle.climb.specs.Climb.{stage, rounds_of}
use Rattle.climb.specs.Inside.{Small}

-- 10.10: the values at the end of the climb of C
unfoldable pub climbed : System → List ℕ → Assignment → Assignment
climbed S C v = stage S (member C) v (rounds_of S C v)

-- 10.10: the circles of a list, climbed one after the other
unfoldable pub climbed_all : System → List (List ℕ) → Assignment → Assignment
climbed_all S [] v = v
climbed_all S (C ∷ R) v = climbed_all S R (climbed S C v)

-- the instances of P and those of C
abbrev pub And : (ℕ → Type 0) → (ℕ → Bool) → ℕ → Type 0
And P C x = P x ⊎ (C x ≡ true)

-- 6.4: C shares no instance with P, and reads itself and P alone
pub record Next (S : System) (P : ℕ → Type 0) (C : ℕ → Bool) : Type 0 where
  pub apart : (x : ℕ) → P x → C x ≡ false
  pub reads : (x : ℕ) → C x ≡ true → (y : ℕ) → y ∈ S.args x → And P C y

-- 6.4: a list of circles each of which reads itself and what is in front of it; P is what stands before the list
abbrev pub Ordered : System → List (List ℕ) → (ℕ → Type 0) → Type 0
Ordered S [] P = Unit {0}
Ordered S (C ∷ R) P = Next S P (member C) × Ordered S R (And P (member C))

-- the instances of P and of the circles of a list
abbrev pub Covered : List (List ℕ) → (ℕ → Type 0) → ℕ → Type 0
Covered [] P = P
Covered (C ∷ R) P = Covered R (And P (member C))

-- 6.4: a list of circles that are in order and have the declared instances between them
pub record InOrder (S : System) (R : List (List ℕ)) : Type 0 where
  pub ordered : Ordered S R (λ x. ⊥)
  pub declared : (x : ℕ) → Covered R (λ x. ⊥) x → S.declared x ≡ true
  pub covers : (x : ℕ) → S.declared x ≡ true → Covered R (λ x. ⊥) x

-- 6.4: to climb one circle after the other ends with the least sets, from any values, and whether or not the members of a circle reach each other
abbrev pub InOrderLeast : Type 0
InOrderLeast = (S : System) → Lawful S → (R : List (List ℕ)) → InOrder S R → (v : Assignment) → Small v → Least S (climbed_all S R v)

-- all instances as one circle, climbed from nothing
unfoldable pub bottom : System → Assignment
bottom S = climbed_all S (keep S.declared (up_from 0 S.size) ∷ []) (λ x. 0)

-- 6.4, 6.5: there is a least assignment
abbrev pub ThereIsLeast : Type 0
ThereIsLeast = (S : System) → Lawful S → Least S (bottom S)

-- 5.6: and it is below all that is closed under the equations, not only below what is consistent
abbrev pub LeastClosed : Type 0
LeastClosed = (S : System) → Lawful S → (v : Assignment) → Least S v → (w : Assignment)
    → ((x : ℕ) → S.declared x ≡ true → S.eval w x ⊑ w x) → (x : ℕ) → S.declared x ≡ true → v x ⊑ w x
