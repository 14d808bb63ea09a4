-- Sets in memory, and a round of a circle there. Assumes nothing.
use Rattle.std.specs.Prelude.{◌≡◌, Bool, true, List, [], ◌∷◌, ℕ, suc, ◌<◌, eqb, length, get_or, set}
use Rattle.circles.specs.Ranked.{member, all_of, lone_of}
use Rattle.climb.specs.System.{Assignment, System, graph_of}
use Rattle.climb.specs.Climb.{stage, still_of}
use Rattle.climb.specs.Inside.{GainingIn}

-- 7.2: the sets that a list holds, empty past its end
abbrev pub at : List ℕ → Assignment
at s x = get_or s x 0

-- s with the sets of the members of C replaced by those of g
unfoldable pub stores : List ℕ → List ℕ → Assignment → List ℕ
stores s [] g = s
stores s (x ∷ C) g = stores (set s x (g x)) C g

-- s with the sets of the members of C replaced by those of a list, in its order
unfoldable pub puts : List ℕ → List ℕ → List ℕ → List ℕ
puts s [] ws = s
puts s (x ∷ C) [] = s
puts s (x ∷ C) (w ∷ ws) = puts (set s x w) C ws

-- 10.5: the circle's sets become empty
abbrev pub empty_on : List ℕ → List ℕ → List ℕ
empty_on C s = stores s C (λ x. 0)

-- 10.6: each value is worked out over s, which none of them has been stored in
abbrev pub round_on : System → List ℕ → List ℕ → List ℕ
round_on S C s = stores s C (S.eval (at s))

-- 10.7: such a round would leave s as it is
abbrev pub still_on : System → List ℕ → List ℕ → Bool
still_on S C s = all_of (λ x. eqb (S.eval (at s) x) (at s x)) C

-- ---- what is promised of them

-- the members of C have their places in s
abbrev pub Within : List ℕ → List ℕ → Type 0
Within C s = (x : ℕ) → member C x ≡ true → x < length s

-- 10.10: s holds v, or stage k of the climb from v: then emptying, a round and its test are those of the climb
pub record InMemory (S : System) (C : List ℕ) (v : Assignment) (s : List ℕ) : Type 0 where
  pub emptied : at s ≡ v → at (empty_on C s) ≡ stage S (member C) v 0
  pub round : (k : ℕ) → at s ≡ stage S (member C) v k → at (round_on S C s) ≡ stage S (member C) v (suc k)
  pub still : (k : ℕ) → at s ≡ stage S (member C) v k → still_on S C s ≡ still_of S C v k
  -- the test compares the sets after the round with those before it
  pub altered : still_on S C s ≡ all_of (λ x. eqb (at (round_on S C s) x) (at s x)) C
  -- the one round of a lone circle needs no emptied set
  pub lone : GainingIn S (member C) → lone_of (graph_of S) C ≡ true → at s ≡ v → at (round_on S C s) ≡ stage S (member C) v 1
