-- The graph that two arrays hold, and what the ranked circles are as arrays. Assumes nothing.
use Rattle.std.specs.Prelude.{ℕ, ◌+◌, ◌≤◌, ◌≡◌, cond, not, ◌&&◌, List, [], ◌∷◌, ◌++◌, get_or, length, drop, eqb, ltb}
use Rattle.circles.specs.Graph.{Graph, Closed}
use Rattle.circles.specs.Ranked.{labels_of, ranked}
use Rattle.circles.specs.Marks.{slots_most, not_declared}

-- 5.1: slot x has the arguments a[x] and b[x], of which a number past the slots is none; a[x] is 65534 where x is not declared
abbrev pub given : ℕ → ℕ → ℕ → List ℕ
given n y z = cond (ltb y n) (y ∷ cond (ltb z n) (z ∷ []) []) (cond (ltb z n) (z ∷ []) [])

abbrev pub graph_of : ℕ → List ℕ → List ℕ → Graph
graph_of n a b = record {
  size = n;
  declared = λ x. ltb x n && not (eqb (get_or a x not_declared) not_declared);
  args = λ x. given n (get_or a x not_declared) (get_or b x not_declared);
}

-- 4.5, 4.6: what is asked of the arguments: slots for all, and what a declared slot reads is declared
pub record Given (n : ℕ) (a b : List ℕ) : Type 0 where
  pub few : n ≤ slots_most
  pub long_a : n ≤ length a
  pub long_b : n ≤ length b
  pub closed : Closed (graph_of n a b)

-- list behind list, as circle behind circle
unfoldable pub joined : List (List ℕ) → List ℕ
joined [] = []
joined (C ∷ R) = C ++ joined R

-- where each circle ends, the first begins at k
unfoldable pub ends_from : ℕ → List (List ℕ) → List ℕ
ends_from k [] = k ∷ []
ends_from k (C ∷ R) = k ∷ ends_from (k + length C) R

-- l with its first elements replaced by xs
abbrev pub over : List ℕ → List ℕ → List ℕ
over xs l = xs ++ drop (length xs) l

-- 6.1, 6.2: what is written: the labels, the members by rank and rising inside a circle,
-- the ends (of circle i the members from ends[i] up to ends[i + 1]), the count
pub record Laid (G : Graph) (label₀ members₀ ends₀ label members ends : List ℕ) (count : ℕ) : Type 0 where
  pub labelled : label ≡ over (labels_of G) label₀
  pub listed : members ≡ over (joined (ranked G)) members₀
  pub ended : ends ≡ over (ends_from 0 (ranked G)) ends₀
  pub counted : count ≡ length (ranked G)
