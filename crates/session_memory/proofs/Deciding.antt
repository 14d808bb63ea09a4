-- Tests that hold exactly where something does. Assumes nothing.
use mathlib.Core.Path.{◌≡◌}
use mathlib.Core.Bool.{Bool, false}
use Prim.Native.Nat.{ℕ}
use native.Mathlib.Omega.{arith}
use borrow.Author.Tests.{eqb-true, eq-eqb}
use lib.Dec.{eqb}
use Rattle.session_memory.specs.Suspended.{Tests}

module _ {P : Type 0} where
  pub tests_equal : (a b : ℕ) → (a ≡ b → P) → (P → a ≡ b) → Tests (eqb a b) P
  tests_equal a b f g = record { yes = λ e. f (eqb-true a b e); no = λ p. eq-eqb a b (g p) }

-- what is not so where a test is false
pub tested_not : {b : Bool} {P : Type 0} → Tests b P → b ≡ false → P → ⊥
tested_not d s p = let e = d.no p in let z : ◌≡◌ {A = ℕ} 0 1 = cc in omega arith
