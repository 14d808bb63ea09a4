-- What the code asks of the arrays that hold the ranked circles, and of the sets lent with them. Assumes nothing.
use Rattle.std.specs.Prelude.{◌≡◌, true, List, ℕ, suc, ◌≤◌, ◌<◌, eqb, length, get_or}
use Rattle.std.proofs.Math.Seq.{slice}
use Rattle.circles.specs.Graph.{Graph}
use Rattle.circles.specs.Arrays.{graph_of, joined, Laid}
use Rattle.circles.specs.Ranked.{circle_at, member, ranked, labels_of, label_at}
use Rattle.climb.specs.Circuit.{circles_most}
use Rattle.circles.specs.Marks.{slots_most}

-- 6.1, 6.2: the arrays hold the circles R by rank: the members of circle i stand from ends[i] up to ends[i + 1], its least instance first, and are
-- declared; a slot's label is its circle's least instance, so that y lies outside circle i exactly where its label is another
pub record Arranged (R : List (List ℕ)) (n : ℕ) (a b label members ends : List ℕ) (count : ℕ) : Type 0 where
  pub counted : count ≡ length R
  pub few : count ≤ circles_most
  pub labels : n ≤ length label
  pub ended : count < length ends
  pub rise : (i : ℕ) → i < count → get_or ends i 0 < get_or ends (suc i) 0
  pub room : (i : ℕ) → i < count → get_or ends (suc i) 0 ≤ length members
  pub most : (i : ℕ) → i < count → get_or ends (suc i) 0 ≤ n
  pub circle : (i : ℕ) → i < count → circle_at R i ≡ slice (get_or ends i 0) (get_or ends (suc i) 0) members
  pub declared : (i : ℕ) → i < count → (x : ℕ) → member (circle_at R i) x ≡ true → (graph_of n a b).declared x ≡ true
  pub placed : (i : ℕ) → i < count → (y : ℕ) → y < n → member (circle_at R i) y ≡ eqb (get_or label y 0) (get_or (circle_at R i) 0 0)

-- 6.1: the circles of the graph that a and b hold
abbrev pub circles_in : ℕ → List ℕ → List ℕ → List (List ℕ)
circles_in n a b = ranked (graph_of n a b)

abbrev pub Circles : ℕ → List ℕ → List ℕ → List ℕ → List ℕ → List ℕ → ℕ → Type 0
Circles n a b label members ends count = Arranged (circles_in n a b) n a b label members ends count

-- 4.6, 5.3, 6.2: what the arrays come to lies in the circles themselves: none is empty, their members are declared, no more than there are slots, and a
-- slot is a member exactly where its label is the first of the circle
pub record Listed (G : Graph) (R : List (List ℕ)) : Type 0 where
  pub count : length R ≤ circles_most
  pub total : length (joined R) ≤ G.size
  pub some : (i : ℕ) → i < length R → 0 < length (circle_at R i)
  pub declared : (i x : ℕ) → member (circle_at R i) x ≡ true → G.declared x ≡ true
  pub placed : (i : ℕ) → i < length R → (y : ℕ) → y < G.size → member (circle_at R i) y ≡ eqb (label_at (labels_of G) y) (get_or (circle_at R i) 0 0)

-- what `rank_circles` writes is arranged
abbrev pub LaidArranged : Type 0
LaidArranged = (n : ℕ) (a b label₀ members₀ ends₀ label members ends : List ℕ) (count : ℕ) → Laid (graph_of n a b) label₀ members₀ ends₀ label members ends count
    → Listed (graph_of n a b) (circles_in n a b) → Circles n a b label members ends count

-- 4.4, 7.2: no more than 8 × 512 slots, each with its set, its before value and its place for the value that a round computes
pub record Lent (n : ℕ) (earlier sets values : List ℕ) : Type 0 where
  pub limit : n ≤ slots_most
  pub olds : n ≤ length earlier
  pub sets_room : n ≤ length sets
  pub values_room : n ≤ length values

-- what a due test reads has its place
pub record Looks (n : ℕ) (a b label earlier sets : List ℕ) : Type 0 where
  pub firsts : n ≤ length a
  pub seconds : n ≤ length b
  pub labels : n ≤ length label
  pub olds : n ≤ length earlier
  pub news : n ≤ length sets
