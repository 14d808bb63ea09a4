-- Orders of refusals as data: each call's is one list of checks, and one law says of every order when it gives which number. Assumes nothing.
use Rattle.std.specs.Prelude.{◌≡◌, Bool, true, false, cond, not, ◌&&◌, ◌||◌, ◌⊎◌, ◌↔◌, List, [], ◌∷◌, ℕ, zero, suc, ◌≤◌, ◌<◌, ltb, leb}

-- ---- numbers, where 0 refuses nothing

-- the first of two that is not 0
abbrev pub or_else : ℕ → ℕ → ℕ
or_else zero b = b
or_else (suc a) b = suc a

-- n where the condition holds
abbrev pub when : Bool → ℕ → ℕ
when b n = cond b n 0

-- ---- a check

-- 15.2: an entry of an order: it may give the numbers from `low` to `high`; it gives `given`, or nothing where that is 0; and in words, when it gives n and when nothing.
-- By and Silent are what is promised; that `given` is so is for each check to be shown (`Agrees`)
pub record Check : Type 1 where
  pub low : ℕ
  pub high : ℕ
  pub given : ℕ
  pub By : ℕ → Type 0
  pub Silent : Type 0

-- k where the test holds, which says that Holds; where it doesn't, Fails
abbrev pub meant : ℕ → Bool → Type 0 → Type 0 → Check
meant k b Holds Fails = record { low = k; high = k; given = when b k; By = λ n. Holds; Silent = Fails }

-- k where the test holds; k unless it does
abbrev pub test : ℕ → Bool → Check
test k b = meant k b (b ≡ true) (b ≡ false)

abbrev pub unless : ℕ → Bool → Check
unless k b = meant k (not b) (b ≡ false) (b ≡ true)

-- k where n is above the limit; k where n is not below the count
abbrev pub above : ℕ → ℕ → ℕ → Check
above k limit n = meant k (ltb limit n) (limit < n) (n ≤ limit)

abbrev pub outside : ℕ → ℕ → ℕ → Check
outside k count n = meant k (leb count n) (count ≤ n) (n < count)

-- what another judgement gives, from low to high
abbrev pub judged : ℕ → ℕ → ℕ → Check
judged low high given = record { low = low; high = high; given = given; By = λ n. given ≡ n; Silent = given ≡ 0 }

-- ---- an order

abbrev pub Order : Type 1
Order = List Check

-- 15.2: the first number that its checks give, 0 where none gives one
unfoldable pub refusal_by : Order → ℕ
refusal_by [] = 0
refusal_by (c ∷ o) = or_else c.given (refusal_by o)

-- whether a check may give n, and whether one of an order may
abbrev pub may_give : Check → ℕ → Bool
may_give c n = leb c.low n && leb n c.high

abbrev pub lists : Order → ℕ → Bool
lists [] n = false
lists (c ∷ o) n = may_give c n || lists o n

-- where a check may give a number, and where those behind it may: its condition; or that it is silent, and what is to hold behind it
abbrev pub choose : Bool → Bool → Type 0 → Type 0 → Type 0 → Type 0
choose true true Here Silent Behind = Here ⊎ (Silent × Behind)
choose true false Here Silent Behind = Here
choose false b Here Silent Behind = Silent × Behind

-- 15.2: n's check holds, and those before it are silent. For a number as such this is a plain product of conditions, in the order's own order
abbrev pub Given : Order → ℕ → Type 0
Given [] n = ⊥
Given (c ∷ o) n = choose (may_give c n) (lists o n) (c.By n) c.Silent (Given o n)

abbrev pub AllSilent : Order → Type 0
AllSilent [] = Unit {0}
AllSilent (c ∷ []) = c.Silent
AllSilent (c ∷ (d ∷ o)) = c.Silent × AllSilent (d ∷ o)

-- ---- the law

-- 15.2: a number that an order gives: each above 0 exactly when its check holds and none before it, 0 exactly when none holds, and no number that the order doesn't list
pub record Gives (o : Order) (given : ℕ) : Type 0 where
  pub some : (n : ℕ) → 0 < n → (given ≡ n) ↔ Given o n
  pub none : (given ≡ 0) ↔ AllSilent o
  pub among : (given ≡ 0) ⊎ (lists o given ≡ true)

-- what a check gives is as its words say
pub record Agrees (c : Check) : Type 0 where
  pub some : (n : ℕ) → 0 < n → (c.given ≡ n) ↔ ((may_give c n ≡ true) × c.By n)
  pub none : (c.given ≡ 0) ↔ c.Silent

-- and so of each check of an order, where those before it are silent
abbrev pub Right : Order → Type 0
Right [] = Unit {0}
Right (c ∷ o) = Agrees c × (c.Silent → Right o)

abbrev pub EveryOrderGives : Type 1
EveryOrderGives = (o : Order) → Right o → Gives o (refusal_by o)

-- 15.1: two refusals of one order never both fit
abbrev pub OneRefusal : Type 1
OneRefusal = (o : Order) → Right o → (m n : ℕ) → 0 < m → 0 < n → Given o m → Given o n → m ≡ n
