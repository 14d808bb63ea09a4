-- What is asked of a system inside one circle, with the outside held. Assumes nothing.
use Rattle.std.specs.Prelude.{◌≡◌, Bool, true, false, ℕ, ◌^◌, ◌<◌}
use Rattle.sets.specs.Members.{◌⊑◌}
use Rattle.circles.specs.Graph.{◌∈◌}
use Rattle.climb.specs.System.{Assignment, System}

-- 3.8: gaining for the members of C alone, between assignments that agree on what they read outside C
abbrev pub GainingIn : System → (ℕ → Bool) → Type 0
GainingIn S C = (v w : Assignment) (x : ℕ) → C x ≡ true → ((y : ℕ) → y ∈ S.args x → v y ⊑ w y)
    → ((y : ℕ) → y ∈ S.args x → C y ≡ false → v y ≡ w y) → S.eval v x ⊑ S.eval w x

-- 3.9: the sets of the members stay sets of 64 codes
abbrev pub SmallIn : System → (ℕ → Bool) → Type 0
SmallIn S C = (v : Assignment) (x : ℕ) → C x ≡ true → ((y : ℕ) → y ∈ S.args x → v y < 2 ^ 64) → S.eval v x < 2 ^ 64

-- 3.8, 3.9: what a climb of C asks of its system, and nothing of other circles
pub record LawfulIn (S : System) (C : ℕ → Bool) : Type 0 where
  pub gaining : GainingIn S C
  pub small : SmallIn S C

-- 1.2: each set is one of 64 codes
abbrev pub Small : Assignment → Type 0
Small v = (x : ℕ) → v x < 2 ^ 64

-- v and w agree on what the members of C read outside C
abbrev pub Agree : System → (ℕ → Bool) → Assignment → Assignment → Type 0
Agree S C v w = (x : ℕ) → C x ≡ true → (y : ℕ) → y ∈ S.args x → C y ≡ false → v y ≡ w y

-- w is above v on what the members of C read outside C
abbrev pub Above : System → (ℕ → Bool) → Assignment → Assignment → Type 0
Above S C v w = (x : ℕ) → C x ≡ true → (y : ℕ) → y ∈ S.args x → C y ≡ false → v y ⊑ w y

-- each member of C has in w all that its equation gives there
abbrev pub ClosedOn : System → (ℕ → Bool) → Assignment → Type 0
ClosedOn S C w = (x : ℕ) → C x ≡ true → S.eval w x ⊑ w x
