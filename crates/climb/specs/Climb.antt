-- The climb of a circle: from empty sets, round by round, until a round alters nothing. Assumes nothing.
use Rattle.std.specs.Prelude.{◌≡◌, Bool, true, cond, List, ℕ, zero, suc, ◌*◌, eqb, length}
use Rattle.circles.specs.Ranked.{member, all_of, lone_of}
use Rattle.climb.specs.System.{Assignment, System, graph_of}

-- v with the sets of the members of C replaced by those of g
abbrev pub patch : (ℕ → Bool) → Assignment → Assignment → Assignment
patch C g v x = cond (C x) (g x) (v x)

-- 10.6, 10.10: stage 0 is v with the circle emptied; stage k + 1 is what one round makes of stage k, each value worked out from that stage alone
unfoldable pub stage : System → (ℕ → Bool) → Assignment → ℕ → Assignment
stage S C v zero = patch C (λ x. 0) v
stage S C v (suc k) = patch C (S.eval (stage S C v k)) v

-- 10.7: the round after stage k alters nothing
pub record Closed (S : System) (C : ℕ → Bool) (v : Assignment) (k : ℕ) : Type 0 where
  pub still : (x : ℕ) → C x ≡ true → S.eval (stage S C v k) x ≡ stage S C v k x

-- 10.7: the same as it computes, for the circle with the members C
unfoldable pub still_of : System → List ℕ → Assignment → ℕ → Bool
still_of S C v k = all_of (λ x. eqb (stage S (member C) v (suc k) x) (stage S (member C) v k x)) C

-- the least place from i on, before i + n, where d holds; i + n where there is none
unfoldable pub least_from : (ℕ → Bool) → ℕ → ℕ → ℕ
least_from d zero i = i
least_from d (suc n) i = cond (d i) i (least_from d n (suc i))

-- 10.7, 10.10: how many rounds the climb of a circle takes: one if it is lone, and else those up to the first that alters nothing
unfoldable pub rounds_of : System → List ℕ → Assignment → ℕ
rounds_of S C v = cond (lone_of (graph_of S) C) 1 (suc (least_from (still_of S C v) (64 * length C) 0))
