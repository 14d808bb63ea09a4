-- Arguments with which an equation may lose: what is in a and not in b is less where b has more. Assumes nothing.
use Rattle.std.specs.Prelude.{◌≡◌, true, false, List, [], ℕ, ◌^◌, ◌<◌}
use Rattle.sets.specs.Members.{◌⊑◌}
use Rattle.circles.specs.Graph.{◌∈◌}
use Rattle.circles.specs.Ranked.{circle_at, member}
use Rattle.climb.specs.System.{Assignment, System, Lawful}
use Rattle.climb.specs.Circuit.{LawfulCircles}

-- 3.8: no equation loses members where what it reads gains some and what it waives stays: `waived x` are some of x's arguments
abbrev pub GainingBut : System → (ℕ → List ℕ) → Type 0
GainingBut S waived = (v w : Assignment) (x : ℕ) → ((y : ℕ) → y ∈ S.args x → v y ⊑ w y) → ((y : ℕ) → y ∈ waived x → v y ≡ w y) → S.eval v x ⊑ S.eval w x

-- 3.7, 3.8, 3.9: what is asked of a system with waived arguments
pub record LawfulBut (S : System) (waived : ℕ → List ℕ) : Type 0 where
  pub gaining : GainingBut S waived
  pub among : (x y : ℕ) → y ∈ waived x → y ∈ S.args x
  pub small : (v : Assignment) (x : ℕ) → ((y : ℕ) → y ∈ S.args x → v y < 2 ^ 64) → S.eval v x < 2 ^ 64
  pub bound : (x : ℕ) → S.declared x ≡ true → x < S.size
  pub closed : (x : ℕ) → S.declared x ≡ true → (y : ℕ) → y ∈ S.args x → S.declared y ≡ true

-- 5.7: no instance has a waived argument in its own circle
abbrev pub WaivedOutside : (ℕ → List ℕ) → List (List ℕ) → Type 0
WaivedOutside waived R = (i x : ℕ) → member (circle_at R i) x ≡ true → (y : ℕ) → y ∈ waived x → member (circle_at R i) y ≡ false

-- 3.8: then each circle is a climb
abbrev pub OutsideLawful : Type 0
OutsideLawful = (S : System) (waived : ℕ → List ℕ) → LawfulBut S waived → (R : List (List ℕ)) → WaivedOutside waived R → LawfulCircles S R

-- 3.8: and where nothing is waived the whole system is one
abbrev pub NoneLawful : Type 0
NoneLawful = (S : System) (waived : ℕ → List ℕ) → LawfulBut S waived → ((x : ℕ) → waived x ≡ []) → Lawful S
