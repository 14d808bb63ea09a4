-- Instances and what they read; what reaches what; circles. Assumes nothing.
use Rattle.std.specs.Prelude.{ℕ, ◌<◌, ◌≤◌, ◌≡◌, Bool, true}
use mathlib.Core.List.{List, Memᴰ}

infix 4 ◌∈◌
abbrev pub ◌∈◌ : ℕ → List ℕ → Type 0
x ∈ l = Memᴰ x l

-- 4.4: the slots 0 to size - 1, which of them are declared instances, and the arguments of each one's equation
pub record Graph : Type 0 where
  pub size : ℕ
  pub declared : ℕ → Bool
  pub args : ℕ → List ℕ

-- 5.1: y's equation uses x
pub record Reads (G : Graph) (y x : ℕ) : Type 0 where
  pub from : y < G.size
  pub to : x < G.size
  pub argument : x ∈ G.args y

-- 5.2: from x, by steps of E, one gets to the index
pub data Path⁺ (E : ℕ → ℕ → Type 0) (x : ℕ) : ℕ → Type 0 where
  here : Path⁺ E x x
  there : {y z : ℕ} → Path⁺ E x y → E y z → Path⁺ E x z

-- 5.2: x is y, or depends on what reaches y
abbrev pub Reaches : Graph → ℕ → ℕ → Type 0
Reaches G x y = Path⁺ (Reads G) x y

-- 5.3: x and y are in one circle
abbrev pub Together : Graph → ℕ → ℕ → Type 0
Together G x y = Reaches G x y × Reaches G y x

-- 6.2: l is the least instance of x's circle
pub record LeastOf (G : Graph) (x l : ℕ) : Type 0 where
  pub within : Together G x l
  pub least : (y : ℕ) → Together G x y → l ≤ y

-- 4.5: every declared instance is one of the slots, and what it reads is declared
pub record Closed (G : Graph) : Type 0 where
  pub bound : (x : ℕ) → G.declared x ≡ true → x < G.size
  pub closed : (x : ℕ) → G.declared x ≡ true → (y : ℕ) → y ∈ G.args x → G.declared y ≡ true
