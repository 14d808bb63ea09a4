-- What it is that no second answer fits a call's statement. Assumes nothing.
use Rattle.std.specs.Prelude.{◌≡◌}

-- 23.9: of all that a call could answer and leave, no two fit its statement
pub record Only {A : Type 0} (Fits : A → Type 0) : Type 0 where
  pub one : (a b : A) → Fits a → Fits b → a ≡ b

-- what is there after a call: its answer, and what it left in lent memory
pub record After (A B : Type 0) : Type 0 where
  pub answer : A
  pub found : B
