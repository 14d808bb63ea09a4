-- What the labelling of circles says as it goes. Assumes nothing.
use Rattle.std.specs.Prelude.{ℕ, ◌+◌, ◌-◌, ◌<◌, ◌≤◌, ◌≡◌, List, ◌⊎◌, get_or, length, drop}
use Rattle.circles.specs.Graph.{Path⁺}
use Rattle.circles_find.specs.Inner.Search.{unmarked, Arg, Next, value_in, Marked}
use Rattle.circles.specs.Marks.{slots_most, not_declared, no_slot}

-- x and y get to each other by arguments
abbrev pub Round : ℕ → List ℕ → List ℕ → ℕ → ℕ → Type 0
Round n a b x y = Path⁺ (Arg n a b) x y × Path⁺ (Arg n a b) y x

-- each slot is labelled by one of its circle or by none, 65533; a circle is labelled whole, and from a declared slot
pub record Reps (n : ℕ) (a b r : List ℕ) : Type 0 where
  pub long : n ≤ length r
  pub own : (y : ℕ) → y < n → (get_or r y 0 ≡ unmarked) ⊎ ((get_or r y 0 < n) × Round n a b (get_or r y 0) y)
  pub whole : (y z : ℕ) → y < n → z < n → get_or r y 0 < n → Round n a b y z → get_or r z 0 ≡ get_or r y 0
  pub stated : (y : ℕ) → y < n → get_or r y 0 < n → get_or a (get_or r y 0) 0 ≡ not_declared → ⊥

-- each mark is none or a labelled slot
pub record Stale (n : ℕ) (m r : List ℕ) : Type 0 where
  pub long : n ≤ length m
  pub used : (y : ℕ) → y < n → get_or m y 0 < n → get_or r (get_or m y 0) 0 < n

-- from the labels r to the labels r', of which x is one where it is declared
pub record Took (n : ℕ) (a b : List ℕ) (x : ℕ) (r r' m' : List ℕ) : Type 0 where
  pub reps : Reps n a b r'
  pub stale : Stale n m' r'
  pub kept : (y : ℕ) → get_or r y 0 < n → get_or r' y 0 < n
  pub here : x < n → (get_or a x 0 ≡ not_declared → ⊥) → get_or r' x 0 < n

-- r is the first place of the list from i on whose slot has no label, or past the end
pub record Unlabelled (d : ℕ) (slots rep : List ℕ) (i r : ℕ) : Type 0 where
  pub from : i ≤ r
  pub within : r ≤ d
  pub skip : (k : ℕ) → i ≤ k → k < r → get_or rep (get_or slots k 0) 0 ≡ unmarked → ⊥
  pub hit : r < d → get_or rep (get_or slots r 0) 0 ≡ unmarked

-- x is to be tried next: all of the list from j up to j' but x have their label, and the order or the search goes on
pub record Seeded (n d : ℕ) (slots rep : List ℕ) (i j x i' j' : ℕ) : Type 0 where
  pub falls : (n - i') + (d - j') < (n - i) + (d - j)
  pub within : j' ≤ d
  pub skip : (k : ℕ) → j ≤ k → k < j' → get_or rep (get_or slots k 0) 0 ≡ unmarked → x ≡ get_or slots k 0

-- the first i are 65535; the rest is as it was
pub record Cleared (label₀ : List ℕ) (i : ℕ) (label : List ℕ) : Type 0 where
  pub none : (y : ℕ) → y < i → get_or label y 0 ≡ no_slot
  pub long : length label ≡ length label₀
  pub rest : drop i label ≡ drop i label₀

-- each has the least of its label's slots, or 65535 where it has no label; the rest is as it was
pub record Lowered (n : ℕ) (rep low label₀ label : List ℕ) : Type 0 where
  pub some : (x : ℕ) → x < n → Marked n rep x → get_or label x 0 ≡ get_or low (get_or rep x 0) 0
  pub none : (x : ℕ) → x < n → n ≤ get_or rep x 0 → get_or label x 0 ≡ no_slot
  pub long : length label ≡ length label₀
  pub rest : drop n label ≡ drop n label₀

-- a label is the least of its circle and its own label, and after has the next member of each one's circle
pub record Kin (n : ℕ) (label after : List ℕ) : Type 0 where
  pub few : n ≤ slots_most
  pub long : n ≤ length label
  pub room : n ≤ length after
  pub own : (z : ℕ) → z < n → get_or label z 0 < n → get_or label (get_or label z 0) 0 ≡ get_or label z 0
  pub least : (z : ℕ) → z < n → get_or label z 0 < n → get_or label z 0 ≤ z
  pub next : (x : ℕ) → x < n → get_or label x 0 < n → Next (value_in label) n (get_or label x 0) (x + 1) (get_or after x 0)
