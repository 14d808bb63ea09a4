-- The count of marks. Assumes nothing.
use Prim.Native.Nat.{ℕ, zero, suc, ◌<◌, ◌≤◌, zero-le, suc-le-suc}
use native.Mathlib.Nat.{le_trans, le_of_suc-le-suc, not-suc-le-zero, le-suc}
use mathlib.Core.Path.{◌≡◌, refl, sym, ap, ◌∙◌}
use mathlib.Core.Bool.{Bool, true, false}
use mathlib.Core.List.{List, [], ◌∷◌}
use lib.ListN.{get_or, length, set}
use lib.Dec.{eqb}
use borrow.Author.Tests.{eq-eqb, ne_eqb}
use Rattle.circles_find.specs.Inner.Search.{stamped}

-- one more or not, by a test
step : Bool → ℕ → ℕ
step true n = suc n
step false n = n

stamped_is : (x m : ℕ) (ms : List ℕ) → stamped x (m ∷ ms) ≡ step (eqb m x) (stamped x ms)
unfolding stamped step
stamped_is x m ms = go (eqb m x)
  where
    go : (t : Bool) → (elim t as (λ u. ℕ) [ true ↦ suc (stamped x ms) | false ↦ stamped x ms ]) ≡ step t (stamped x ms)
    go true = refl
    go false = refl

step_le : (t : Bool) (k n : ℕ) → k ≤ n → step t k ≤ suc n
unfolding step
step_le true k n h = suc-le-suc h
step_le false k n h = le_trans h (le-suc n)

step_true : (k : ℕ) → step true k ≡ suc k
unfolding step
step_true k = refl

step_false : (k : ℕ) → step false k ≡ k
unfolding step
step_false k = refl

step_lt : (t : Bool) (k n : ℕ) → k < n → step t k < suc n
unfolding step
step_lt true k n l = suc-le-suc l
step_lt false k n l = le_trans l (le-suc n)

step_suc : (t : Bool) (k : ℕ) → step t (suc k) ≡ suc (step t k)
unfolding step
step_suc true k = refl
step_suc false k = refl

pub stamped_le : (x : ℕ) (ms : List ℕ) → stamped x ms ≤ length ms
stamped_le x [] = unfold stamped in zero-le
stamped_le x (m ∷ ms) = rw (stamped_is x m ms) (step_le (eqb m x) (stamped x ms) (length ms) (stamped_le x ms))

-- where some mark is not x, not all are counted
pub stamped_lt : (x : ℕ) (ms : List ℕ) (i : ℕ) → i < length ms → (get_or ms i 0 ≡ x → ⊥) → stamped x ms < length ms
stamped_lt x [] i h ne = absurd (not-suc-le-zero h)
stamped_lt x (m ∷ ms) zero h ne = rw (stamped_is x m ms, ne_eqb m x ne) (unfold step in suc-le-suc (stamped_le x ms))
stamped_lt x (m ∷ ms) (suc i) h ne =
    rw (stamped_is x m ms) (step_lt (eqb m x) (stamped x ms) (length ms) (stamped_lt x ms i (le_of_suc-le-suc h) ne))

-- one more mark
pub stamped_set : (x : ℕ) (ms : List ℕ) (i : ℕ) → i < length ms → (get_or ms i 0 ≡ x → ⊥) → stamped x (set ms i x) ≡ suc (stamped x ms)
stamped_set x [] i h ne = absurd (not-suc-le-zero h)
stamped_set x (m ∷ ms) zero h ne = stamped_is x x ms ∙ ap (λ (t : Bool). step t (stamped x ms)) (eq-eqb x x refl) ∙ step_true (stamped x ms) ∙ ap suc (sym (stamped_is x m ms ∙ ap (λ (t : Bool). step t (stamped x ms)) (ne_eqb m x ne) ∙ step_false (stamped x ms)))
stamped_set x (m ∷ ms) (suc i) h ne =
    stamped_is x m (set ms i x) ∙ ap (step (eqb m x)) (stamped_set x ms i (le_of_suc-le-suc h) ne) ∙ step_suc (eqb m x) (stamped x ms) ∙ ap suc (sym (stamped_is x m ms))
