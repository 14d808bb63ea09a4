-- Session A's load (25.1, case 7): its circle of 8, 12, 16 and 20 climbs from empty to four members. Assumes nothing.
use Rattle.std.specs.Prelude.{ℕ, ◌≡◌, refl, List, [], ◌∷◌, set, replicate}
use Rattle.std.specs.Int.Count.{ones}
use Rattle.sets.specs.Operations.{value_of}
use Rattle.table.specs.Words.{head_at, constant_at}
use Rattle.table.specs.Equations.{op_number, a_field, b_field, argument, op_of, equation_at}
use Rattle.circles.specs.Ranked.{member, lone_of}
use Rattle.climb.specs.System.{System, weight}
use Rattle.climb.specs.Climb.{stage, still_of, least_from, rounds_of}
use Rattle.climb.specs.Inner.Wired.{eval_of, wired}
use Rattle.circles.specs.Marks.{not_declared, no_slot}

abbrev U : ℕ
U = not_declared

abbrev N : ℕ
N = no_slot

-- the words of A's rules 0, 4, 8 and 20; the others are not read
words : List ℕ
words = set (set (set (set (replicate 140 0) 97 17196646912) 105 8623489024) 113 8606711808) 137 34360000512

first : List ℕ
first = 8 ∷ U ∷ U ∷ U ∷ U ∷ U ∷ U ∷ U ∷ 12 ∷ U ∷ U ∷ U ∷ 16 ∷ U ∷ U ∷ U ∷ 20 ∷ U ∷ U ∷ U ∷ 8 ∷ U ∷ U ∷ U ∷ []

second : List ℕ
second = set (replicate 24 N) 0 16

-- 8 and 16 are defined at the nodes 1 and 2, the others at node 0
lefts : List ℕ
lefts = set (set (replicate 24 0) 8 1) 16 2

rules : List ℕ
rules = set (set (set (set (replicate 24 0) 8 20) 12 4) 16 20) 20 8

owns : List ℕ
owns = 0 ∷ 2 ∷ 0 ∷ []

ring : List ℕ
ring = 8 ∷ 12 ∷ 16 ∷ 20 ∷ []

pub session_a : System
session_a = wired 24 words owns first second lefts rules

-- 25.1: case 7, in five rounds, with four members in the end
five : rounds_of session_a ring (λ x. 0) ≡ 5
unfolding session_a words first second lefts rules owns ring value_of head_at constant_at op_number a_field b_field argument op_of equation_at lone_of stage still_of least_from rounds_of eval_of
five = refl

four : weight ring (stage session_a (member ring) (λ x. 0) 5) ≡ 4
unfolding session_a words first second lefts rules owns ring value_of head_at constant_at op_number a_field b_field argument op_of equation_at stage eval_of ones
four = refl
