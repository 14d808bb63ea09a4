-- What the definitions come to: statements, proved in proofs/. Assumes nothing.
use Rattle.std.specs.Prelude.{ℕ, suc, ◌<◌, ◌≤◌, ◌≡◌, true, false, List, [], ◌∷◌, map, ◌⊎◌, length}
use Rattle.circles.specs.Graph.{Graph, Reaches, Together, LeastOf, ◌∈◌}
use Rattle.circles.specs.Ranked.{sum_to, circle_at, member, keep, slots, has, reaching, labels_of, label_at, circle_of, ranked, lone_of}

-- A and B say the same
abbrev pub Iff : Type 0 → Type 0 → Type 0
Iff A B = (A → B) × (B → A)

-- 5.2: `reaching` computes what reaches what
pub record Searches (G : Graph) : Type 0 where
  pub searches : (x y : ℕ) → x < G.size → y < G.size → Iff (has (reaching G y) x ≡ true) (Reaches G x y)

-- 5.3, 6.2: two instances have one label exactly when they reach each other, and the label is the least of them
pub record Circles (G : Graph) : Type 0 where
  pub one : (x y : ℕ) → G.declared x ≡ true → G.declared y ≡ true → Iff (label_at (labels_of G) x ≡ label_at (labels_of G) y) (Together G x y)
  pub least : (x : ℕ) → G.declared x ≡ true → LeastOf G x (label_at (labels_of G) x)

-- the list rises, from k on
pub data Rising : ℕ → List ℕ → Type 0 where
  end : {k : ℕ} → Rising k []
  step : {k x : ℕ} {l : List ℕ} → k ≤ x → Rising (suc x) l → Rising k (x ∷ l)

-- 4.4: how many instances are declared
unfoldable pub declared_count : Graph → ℕ
declared_count G = length (keep G.declared (slots G))

-- 5.3, 6.2, 6.4: R lists each declared instance once and nothing else, rising in each circle, and no circle reads a later one
pub record Ordered (G : Graph) (R : List (List ℕ)) : Type 0 where
  pub apart : (i j x : ℕ) → i < j → member (circle_at R i) x ≡ true → member (circle_at R j) x ≡ false
  pub reads : (i x : ℕ) → member (circle_at R i) x ≡ true → (y : ℕ) → y ∈ G.args x → (j : ℕ) × (j ≤ i) × (member (circle_at R j) y ≡ true)
  pub declared : (i x : ℕ) → member (circle_at R i) x ≡ true → G.declared x ≡ true
  pub covers : (x : ℕ) → G.declared x ≡ true → (i : ℕ) × (i < length R) × (member (circle_at R i) x ≡ true)
  pub together : (i x : ℕ) → member (circle_at R i) x ≡ true → (y : ℕ) → Iff (member (circle_at R i) y ≡ true) (Together G x y)
  pub rising : (i : ℕ) → Rising 0 (circle_at R i)
  pub count : length R ≤ declared_count G
  pub total : sum_to (λ i. length (circle_at R i)) (length R) ≡ declared_count G
  pub few : declared_count G ≤ G.size

-- 6.1: l is the least of a circle that is not taken and is ready: whatever it reads outside is in taken circles, each named by its least
pub record CanTake (G : Graph) (taken : List ℕ) (l : ℕ) : Type 0 where
  pub declared : G.declared l ≡ true
  pub least : LeastOf G l l
  pub untaken : l ∈ taken → ⊥
  pub outside : (x y : ℕ) → Together G l x → y ∈ G.args x → (Together G l y) ⊎ ((m : ℕ) × (m ∈ taken) × LeastOf G y m)

-- 6.1: the least of those that are ready is taken, over and over, till there is none
pub data Greedy (G : Graph) : List ℕ → List ℕ → Type 0 where
  stop : {taken : List ℕ} → ((l : ℕ) → CanTake G taken l → ⊥) → Greedy G taken []
  take : {taken ls : List ℕ} (l : ℕ) → CanTake G taken l → ((m : ℕ) → CanTake G taken m → l ≤ m) → Greedy G (l ∷ taken) ls → Greedy G taken (l ∷ ls)

-- 6.2: the circles that the list names
unfoldable pub circles_of : Graph → List ℕ → List (List ℕ)
circles_of G ls = map (circle_of G (labels_of G)) ls

-- 6.1: the ranked circles are those of the order that takes so, and of no other
pub record Taken (G : Graph) : Type 0 where
  pub order : List ℕ
  pub greedy : Greedy G [] order
  pub circles : ranked G ≡ circles_of G order
  pub only : (ls : List ℕ) → Greedy G [] ls → ls ≡ order

-- 5.4: the test for a lone circle says what is meant
pub record Lonely (G : Graph) (C : List ℕ) : Type 0 where
  pub lonely : Iff (lone_of G C ≡ true) ((x : ℕ) × (C ≡ x ∷ []) × (x ∈ G.args x → ⊥))

-- 6.1: only the slots count: graphs that agree on them have the same labels and the same ranked circles
pub record Alike (G H : Graph) : Type 0 where
  pub labels : labels_of G ≡ labels_of H
  pub circles : ranked G ≡ ranked H
