-- A round of a circle, emptied first where it must be. Assumes nothing.
use mathlib.Core.Path.{◌≡◌, refl, sym, ap, ◌∙◌}
use mathlib.Core.Bool.{Bool, true, false, cond, not, ◌&&◌, ◌||◌, and-false, true≢false}
use mathlib.Core.Logic.{⊎_elim}
use mathlib.Core.List.{List, [], ◌∷◌}
use Prim.Native.Nat.{ℕ, suc, ◌<◌, zero-le}
use native.Mathlib.Omega.{arith}
use lib.Dec.{eqb}
use borrow.Author.Tests.{eq-eqb, ne_eqb, eqb-true}
use lib.ListN.{length, get_or}
use Rattle.circles.specs.Ranked.{member, lone_of}
use Rattle.climb.specs.System.{System, graph_of}
use Rattle.climb.specs.Memory.{at, empty_on, round_on, still_on, Within}
use Rattle.climb.specs.Inner.Wired.{Span}
use Rattle.climb.proofs.Lists.{either}
use Rattle.climb.proofs.Storing.{length_stores, in_memory}
use Rattle.update.specs.Steps.{from_of, to_of, closed_of}
use Rattle.update_round.specs.Inner.Says.{RoundSays}

-- ---- before the round

pub ready_later : (k : ℕ) (alone : Bool) (s e : List ℕ) → (k ≡ 1 → ⊥) → s ≡ cond (eqb k 1 && not alone) e s
ready_later k alone s e h = rw (ne_eqb k 1 h)

pub ready_alone : (k : ℕ) (alone : Bool) (s e : List ℕ) → alone ≡ true → s ≡ cond (eqb k 1 && not alone) e s
ready_alone k alone s e h = rw (h, and-false (eqb k 1))

pub ready_first : (k : ℕ) (alone : Bool) (s e : List ℕ) → k ≡ 1 → alone ≡ false → e ≡ cond (eqb k 1 && not alone) e s
ready_first k alone s e h l = rw (eq-eqb k 1 h, l)

-- the sets keep their number
pub length_ready : (k : ℕ) (alone : Bool) (s C s' : List ℕ) → s' ≡ cond (eqb k 1 && not alone) (empty_on C s) s → length s' ≡ length s
length_ready k alone s C s' e = ap length e ∙ by (eqb k 1 && not alone)
  where
    by : (t : Bool) → length (cond t (empty_on C s) s) ≡ length s
    by true = length_stores C s (λ x. 0)
    by false = refl

-- ---- the members of a span

all_below : (l : List ℕ) (n : ℕ) → ((i : ℕ) → i < length l → get_or l i 0 < n) → (x : ℕ) → member l x ≡ true → x < n
all_below [] n h x t = absurd (true≢false (sym t))
all_below (y ∷ l) n h x t = ⊎_elim
    (λ (e : eqb x y ≡ true). let p : x ≡ y = eqb-true x y e in rw p (h 0 (omega arith)))
    (λ (e : eqb x y ≡ false). all_below l n (λ i k. h (suc i) (omega arith)) x (rw e at t)) (either (eqb x y))

pub span_member : {C : List ℕ} {n : ℕ} → Span C n 0 (length C) → (x : ℕ) → member C x ≡ true → x < n
span_member {C} {n} h = all_below C n (λ i l. h.inside i zero-le l)

-- ---- the round

module _ (S : System) (C : List ℕ) (k : ℕ) (s s₁ s' : List ℕ) (alone : Bool)
    (lone : alone ≡ lone_of (graph_of S) C) (ready : s₁ ≡ cond (eqb k 1 && not alone) (empty_on C s) s) (round : s' ≡ round_on S C s₁) where
  from_is : s₁ ≡ from_of S C k s
  unfolding from_of
  from_is = ready ∙ rw lone

  to_is : s' ≡ to_of S C (from_of S C k s)
  unfolding to_of
  to_is = rw (← from_is) round

  pub round_says : (still : Bool) → Within C s₁ → still ≡ still_on S C s₁ → RoundSays S C k s s' (alone || still)
  unfolding closed_of
  round_says still i t = record { sets = to_is; closed = rw (← to_is, ← from_is, ← lone, round) (ap (λ (b : Bool). alone || b) (t ∙ (in_memory S C (at s₁) s₁ i).altered)) }
