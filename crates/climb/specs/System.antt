-- A system of equations over instances; consistent and least assignments of sets to them. Assumes nothing.
use Rattle.std.specs.Prelude.{◌≡◌, Bool, true, List, [], ◌∷◌, ℕ, ◌+◌, ◌^◌, ◌<◌}
use Rattle.sets.specs.Members.{◌⊑◌, members_of}
use Rattle.circles.specs.Graph.{◌∈◌, Graph}

-- 5.5: each instance's set
abbrev pub Assignment : Type 0
Assignment = ℕ → ℕ

-- 4.4, 5.1: the instances are those below the size that are declared; args are the arguments of an instance's equation, and eval is the equation's
-- value under an assignment. Data alone, so that a contract can name the system of the lists that a program is given
pub record System : Type 0 where
  pub size : ℕ
  pub declared : ℕ → Bool
  pub args : ℕ → List ℕ
  pub eval : Assignment → ℕ → ℕ

-- 5.1: who reads whom
abbrev pub graph_of : System → Graph
graph_of S = record { size = S.size; declared = S.declared; args = S.args }

-- 3.8: no equation loses members where its arguments gain some
abbrev pub Gaining : System → Type 0
Gaining S = (v w : Assignment) (x : ℕ) → ((y : ℕ) → y ∈ S.args x → v y ⊑ w y) → S.eval v x ⊑ S.eval w x

-- 3.8, 3.9, 4.5: what is asked of a system: gaining, sets stay sets of 64 codes, instances lie below the size, and what is read is declared
pub record Lawful (S : System) : Type 0 where
  pub gaining : Gaining S
  pub small : (v : Assignment) (x : ℕ) → ((y : ℕ) → y ∈ S.args x → v y < 2 ^ 64) → S.eval v x < 2 ^ 64
  pub bound : (x : ℕ) → S.declared x ≡ true → x < S.size
  pub closed : (x : ℕ) → S.declared x ≡ true → (y : ℕ) → y ∈ S.args x → S.declared y ≡ true

-- 5.5: every declared set is what its equation gives
pub record Consistent (S : System) (v : Assignment) : Type 0 where
  pub holds : (x : ℕ) → S.declared x ≡ true → v x ≡ S.eval v x

-- 5.6: consistent, and below every consistent assignment, of all that there are
pub record Least (S : System) (v : Assignment) : Type 0 where
  pub consistent : Consistent S v
  pub least : (w : Assignment) → Consistent S w → (x : ℕ) → S.declared x ≡ true → v x ⊑ w x

-- 10.10: how many members the sets of a list of instances have, counted set by set
abbrev pub weight : List ℕ → Assignment → ℕ
weight [] v = 0
weight (x ∷ l) v = members_of (v x) + weight l v
