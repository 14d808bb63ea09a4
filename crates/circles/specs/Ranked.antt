-- The circles of a graph, ranked, as they compute. Assumes nothing.
use Rattle.std.specs.Prelude.{ℕ, zero, suc, ◌+◌, Bool, true, false, cond, ◌&&◌, ◌||◌, not, List, [], ◌∷◌, map, get_or, eqb, ltb}
use Rattle.circles.specs.Graph.{Graph}
use Rattle.circles.specs.Marks.{no_slot}

-- ---- lists

abbrev pub member : List ℕ → ℕ → Bool
member [] x = false
member (y ∷ l) x = eqb x y || member l x

abbrev pub any_of : (ℕ → Bool) → List ℕ → Bool
any_of p [] = false
any_of p (x ∷ l) = p x || any_of p l

abbrev pub all_of : (ℕ → Bool) → List ℕ → Bool
all_of p [] = true
all_of p (x ∷ l) = p x && all_of p l

-- those that pass
unfoldable pub keep : (ℕ → Bool) → List ℕ → List ℕ
keep p [] = []
keep p (x ∷ l) = cond (p x) (x ∷ keep p l) (keep p l)

-- the first that passes, or d
unfoldable pub first_of : (ℕ → Bool) → List ℕ → ℕ → ℕ
first_of p [] d = d
first_of p (x ∷ l) d = cond (p x) x (first_of p l d)

-- n numbers from k on
unfoldable pub up_from : ℕ → ℕ → List ℕ
up_from k zero = []
up_from k (suc n) = k ∷ up_from (suc k) n

abbrev pub slots : Graph → List ℕ
slots G = up_from 0 G.size

-- ---- 5.2: who reaches y. A set of slots is a Bool for each

unfoldable pub has : List Bool → ℕ → Bool
has S x = get_or S x false

-- 5.2: what is in S already, and what reads something in S
unfoldable pub wider : Graph → List Bool → List Bool
wider G S = map (λ x. has S x || any_of (has S) (G.args x)) (slots G)

unfoldable pub widened : ℕ → Graph → List Bool → List Bool
widened zero G S = S
widened (suc k) G S = widened k G (wider G S)

-- 5.2: the slots that reach y: from y alone, widened as often as there are slots
unfoldable pub reaching : Graph → ℕ → List Bool
reaching G y = widened G.size G (map (λ x. eqb x y) (slots G))

-- 5.2: for each slot, those that reach it
unfoldable pub reachings : Graph → List (List Bool)
reachings G = map (reaching G) (slots G)

-- ---- 6.2: a circle's name, its label, is the least of its instances

-- 5.3, 6.2: the least y that x reaches and that reaches x
unfoldable pub label_in : Graph → List (List Bool) → ℕ → ℕ
label_in G R x = first_of (λ y. has (get_or R y []) x && has (get_or R x []) y) (slots G) G.size

-- 6.2: each slot's label; 65535 where it is not declared
unfoldable pub labels_by : Graph → List (List Bool) → List ℕ
labels_by G R = map (λ x. cond (G.declared x) (label_in G R x) no_slot) (slots G)

unfoldable pub labels_of : Graph → List ℕ
labels_of G = labels_by G (reachings G)

abbrev pub label_at : List ℕ → ℕ → ℕ
label_at labels x = get_or labels x no_slot

-- 5.3, 6.2: the instances of the circle l, rising
unfoldable pub circle_of : Graph → List ℕ → ℕ → List ℕ
circle_of G labels l = keep (λ x. eqb (label_at labels x) l) (slots G)

-- ---- 6.1: the rank of a circle is how many are taken before it

-- 6.1: the argument y of the circle l is inside it or in a taken circle
unfoldable pub settled : List ℕ → List ℕ → ℕ → ℕ → Bool
settled labels taken l y = eqb (label_at labels y) l || member taken (label_at labels y)

-- 6.1: all that the circle reads is settled
unfoldable pub ready : Graph → List ℕ → List ℕ → ℕ → Bool
ready G labels taken l = all_of (λ x. all_of (settled labels taken l) (G.args x)) (circle_of G labels l)

-- 6.1: l names a circle that is not taken and is ready
unfoldable pub takeable : Graph → List ℕ → List ℕ → ℕ → Bool
takeable G labels taken l = eqb (label_at labels l) l && not (member taken l) && ready G labels taken l

-- 6.1: the labels in the order in which the circles are taken, k of them at most
unfoldable pub ranking : ℕ → Graph → List ℕ → List ℕ → List ℕ
ranking zero G labels taken = []
ranking (suc k) G labels taken =
    let l = first_of (takeable G labels taken) (slots G) G.size in
    cond (ltb l G.size) (l ∷ ranking k G labels (l ∷ taken)) []

-- 6.1, 6.2: the circles by rank, each rising
unfoldable pub ranked_by : Graph → List ℕ → List (List ℕ)
ranked_by G labels = map (circle_of G labels) (ranking G.size G labels [])

unfoldable pub ranked : Graph → List (List ℕ)
ranked G = ranked_by G (labels_of G)

-- 5.4: one instance, and not among its own arguments
unfoldable pub lone_of : Graph → List ℕ → Bool
lone_of G [] = false
lone_of G (x ∷ []) = not (member (G.args x) x)
lone_of G (x ∷ y ∷ l) = false

-- 6.1: the circle of rank i
abbrev pub circle_at : List (List ℕ) → ℕ → List ℕ
circle_at R i = get_or R i []

-- f 0 + .. + f (n - 1)
unfoldable pub sum_to : (ℕ → ℕ) → ℕ → ℕ
sum_to f zero = 0
sum_to f (suc n) = sum_to f n + f n
