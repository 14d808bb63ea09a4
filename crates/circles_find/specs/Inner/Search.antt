-- What a search over marks and a queue finds, and chains of places. Assumes nothing.
use Rattle.std.specs.Prelude.{ℕ, suc, ◌+◌, ◌/◌, ◌%◌, ◌<◌, ◌≤◌, ◌≡◌, List, [], ◌∷◌, true, false, cond, ◌⊎◌, get_or, set, length, eqb}
use Rattle.circles.specs.Graph.{Path⁺}
use Rattle.circles.specs.Marks.{not_declared}

-- y is declared
abbrev pub Stated : List ℕ → ℕ → Type 0
Stated a y = get_or a y 0 ≡ not_declared → ⊥

-- y is one of the two that the declared slot x holds; a number past the slots is none
abbrev pub Arg : ℕ → List ℕ → List ℕ → ℕ → ℕ → Type 0
Arg n a b x y = (x < n) × (y < n) × Stated a x × ((get_or a x 0 ≡ y) ⊎ (get_or b x 0 ≡ y))

-- ---- chains of the places at which a function has a value

-- the arguments in one row: slot x has the places 2 x, for a, and 2 x + 1, for b; one that is not declared has none at either
unfoldable pub arg_of : List ℕ → List ℕ → ℕ → ℕ
arg_of a b e = cond (eqb (get_or a (e / 2) 0) not_declared) not_declared (cond (eqb (e % 2) 0) (get_or a (e / 2) 0) (get_or b (e / 2) 0))

abbrev pub value_in : List ℕ → ℕ → ℕ
value_in l x = get_or l x 0

-- e is the least place from k on, of those below m, at which f has y, or is past the end
pub record Next (f : ℕ → ℕ) (m y k e : ℕ) : Type 0 where
  pub from : k ≤ e
  pub hit : e < m → f e ≡ y
  pub skip : (x : ℕ) → k ≤ x → x < e → x < m → f x ≡ y → ⊥

-- for each y below n, the places at which f has y are a chain from first[y] by next, rising
pub record Chained (f : ℕ → ℕ) (m n : ℕ) (first next : List ℕ) : Type 0 where
  pub firsts : n ≤ length first
  pub nexts : m ≤ length next
  pub start : (y : ℕ) → y < n → Next f m y 0 (get_or first y 0)
  pub step : (x : ℕ) → x < m → f x < n → Next f m (f x) (x + 1) (get_or next x 0)

-- the place e is put before the chain of y
pub data Linked (n y e : ℕ) (first next first' next' : List ℕ) : Type 0 where
  off : n ≤ y → first' ≡ first → next' ≡ next → Linked n y e first next first' next'
  on : y < n → first' ≡ set first y e → next' ≡ set next e (get_or first y 0) → Linked n y e first next first' next'

-- the mark of a slot that has no label yet, and of a chain that has no place
abbrev pub unmarked : ℕ
unmarked = 65533

-- the first n are none
pub record Blank (n : ℕ) (l : List ℕ) : Type 0 where
  pub long : n ≤ length l
  pub blank : (y : ℕ) → y < n → get_or l y 0 ≡ unmarked

-- ---- the list of the slots of a kind

-- y has a number of a slot
abbrev pub Marked : ℕ → List ℕ → ℕ → Type 0
Marked n l y = get_or l y 0 < n

-- the first d of the list are the slots below n of which P holds, rising
pub record Roll (P : ℕ → Type 0) (n : ℕ) (slots : List ℕ) (d : ℕ) : Type 0 where
  pub few : d ≤ n
  pub long : d ≤ length slots
  pub within : (k : ℕ) → k < d → get_or slots k 0 < n
  pub is : (k : ℕ) → k < d → P (get_or slots k 0)
  pub rises : (j k : ℕ) → j < k → k < d → get_or slots j 0 < get_or slots k 0
  pub all : (y : ℕ) → y < n → P y → (k : ℕ) × (k < d) × (get_or slots k 0 ≡ y)

-- ---- searches

-- how many of the marks are x
unfoldable pub stamped : ℕ → List ℕ → ℕ
stamped x [] = 0
stamped x (m ∷ ms) = elim (eqb m x) [ true ↦ suc (stamped x ms) | false ↦ stamped x ms ]

-- what one look at y does to the marks m, the queue q and its length t: nothing, where y is no slot, is not allowed or has the mark; else y is marked and queued
pub data Visited (n y x : ℕ) (okay : List ℕ) (k : ℕ) (m q m' q' : List ℕ) (t r : ℕ) : Type 0 where
  skipped : (y < n → get_or okay y 0 ≡ k → get_or m y 0 ≡ x) → m' ≡ m → q' ≡ q → r ≡ t → Visited n y x okay k m q m' q' t r
  added : y < n → get_or okay y 0 ≡ k → (get_or m y 0 ≡ x → ⊥) → m' ≡ set m y x → q' ≡ set q t y → r ≡ t + 1 → Visited n y x okay k m q m' q' t r

-- there is room for marks and queue, and for one more in the queue while a mark is not x
pub record Room (n x : ℕ) (m q : List ℕ) (t : ℕ) : Type 0 where
  pub marks : n ≤ length m
  pub queue : length m ≤ length q
  pub counted : t ≤ stamped x m

-- x is a slot, and no mark is x
pub record Clean (n x : ℕ) (m : List ℕ) : Type 0 where
  pub small : x < n
  pub none : (y : ℕ) → y < n → get_or m y 0 ≡ x → ⊥

-- E the other way
abbrev pub Back : (ℕ → ℕ → Type 0) → ℕ → ℕ → Type 0
Back E u v = E v u

-- a step of E to what is allowed
abbrev pub Via : (ℕ → ℕ → Type 0) → List ℕ → ℕ → ℕ → ℕ → Type 0
Via E okay k u v = E u v × (get_or okay v 0 ≡ k)

-- the marks m' have x at just what x gets to by such steps, and are elsewhere as they were
pub record Found (n : ℕ) (E : ℕ → ℕ → Type 0) (okay : List ℕ) (k x : ℕ) (m m' : List ℕ) : Type 0 where
  pub sound : (y : ℕ) → y < n → get_or m' y 0 ≡ x → Path⁺ (Via E okay k) x y
  pub complete : (y : ℕ) → Path⁺ (Via E okay k) x y → get_or m' y 0 ≡ x
  pub frame : (y : ℕ) → (get_or m' y 0 ≡ x) ⊎ (get_or m' y 0 ≡ get_or m y 0)

-- r of them are marked: where r is 1, none but x
pub record Lone (n x : ℕ) (m : List ℕ) (r : ℕ) : Type 0 where
  pub alone : r ≡ 1 → (y : ℕ) → y < n → get_or m y 0 ≡ x → y ≡ x

-- looks, one after the other, at things that P holds of
pub data Looks (n : ℕ) (P : ℕ → Type 0) (x : ℕ) (okay : List ℕ) (k : ℕ) (m q : List ℕ) (t : ℕ) : List ℕ → List ℕ → ℕ → Type 0 where
  begin : Looks n P x okay k m q t m q t
  look : (y : ℕ) {m₁ q₁ m₂ q₂ : List ℕ} {t₁ t₂ : ℕ} → P y → Looks n P x okay k m q t m₁ q₁ t₁ → Visited n y x okay k m₁ q₁ m₂ q₂ t₁ t₂ → Looks n P x okay k m q t m₂ q₂ t₂

-- the looks at all that read v
pub record Swept (n : ℕ) (a b : List ℕ) (v x : ℕ) (okay : List ℕ) (k : ℕ) (m q m' q' : List ℕ) (t r : ℕ) : Type 0 where
  pub looks : Looks n (Back (Arg n a b) v) x okay k m q t m' q' r
  pub all : (y : ℕ) → Arg n a b y v → get_or okay y 0 ≡ k → get_or m' y 0 ≡ x
  pub room : Room n x m' q' r
