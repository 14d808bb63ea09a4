-- Reason sets as numbers: their members, their order and their two counts. Assumes nothing.
use Rattle.std.specs.Prelude.{◌≡◌, ℕ, zero, suc, ◌/◌, ◌%◌, ◌^◌, ◌≤◌}
use Rattle.std.specs.Int.Count.{ones}

infix 4 ◌⊑◌
-- 1.2: digit n of a, 1 where code n is a member and 0 where it is not
abbrev pub digit : ℕ → ℕ → ℕ
digit zero a = a % 2
digit (suc n) a = digit n (a / 2)

-- 1.3: a lies below b, which has whatever a has
pub record ◌⊑◌ (a b : ℕ) : Type 0 where
  pub at : (n : ℕ) → digit n a ≤ digit n b

-- 1.5: how many members a set has, notes included: the measure of a climb
abbrev pub members_of : ℕ → ℕ
members_of a = ones a

-- 1.4, 1.5: what operation 7 compares with its constant: how many members there are, the notes 56 to 63 left out
abbrev pub count_of : ℕ → ℕ
count_of a = members_of (a % 2 ^ 56)

-- 1.5: what `members` and `count` promise: of a set, how many members it has, and how many operation 7 counts
abbrev pub MembersSay : ℕ → ℕ → Type 0
MembersSay s a = a ≡ members_of s

abbrev pub CountSays : ℕ → ℕ → Type 0
CountSays s a = a ≡ count_of s
