-- The order in which circles are taken: greedy and the only one that is, each circle once and after what it reads. Assumes nothing.
use Prim.Native.Nat.{ℕ, zero, suc, ◌+◌, ◌≤◌, ◌<◌}
use native.Mathlib.Omega.{arith}
use native.Mathlib.Nat.{le_refl}
use native.Mathlib.Decide.{dec_lt}
use mathlib.Core.Path.{◌≡◌, refl, sym, ap, subst, ◌∙◌}
use mathlib.Core.Bool.{Bool, true, false, true≢false, false≢true}
use mathlib.Core.List.Memᴰ
use mathlib.Core.List.{List, [], ◌∷◌, map}
use mathlib.Core.Logic.{◌⊎◌, inl, inr, ⊎_elim, dite}
use lib.ListN.{length, get_or, length-map, get_or-eq_default}
use lib.Dec.{eqb}
use borrow.Author.Tests.{eq-eqb, eqb-true}
use Rattle.circles.specs.Graph.{Graph, LeastOf, Closed, ◌∈◌}
use Rattle.circles.specs.Ranked.{sum_to, circle_at, member, keep, up_from, slots, label_at, labels_of, circle_of, takeable, ranking, ranked}
use Rattle.circles.specs.Arrays.{joined}
use Rattle.circles.specs.Laws.{Rising, end, step, declared_count, Ordered, CanTake, Greedy, stop, take, circles_of, Taken, Circles, Searches}
use Rattle.circles.proofs.Lists.{not_true_false, or_parts, or_one, or_two, member_of, of_member, bool_same, keep_same, keep_here, keep_step, keep_none, in_slots, first_cases, length_up, up_step, up_none}
use Rattle.circles.proofs.Reach.{reaching_sound, reaching_complete}
use Rattle.circles.proofs.Least.{least_label, label_is, reached_declared}
use Rattle.circles.proofs.Ranking.{ranking_takes, ranking_ends, ranking_zero, keep_le, held_by, held_more, held_none, ranked_is, joined_cons, joined_none}
use Rattle.circles.proofs.Listing.{some_long, same_label, one_label, labelled, in_circle, of_circle, Parts, parts_of, of_parts, held_full, listed}

-- ---- lists

pub searches : (G : Graph) → Searches G
searches G = record { searches = λ x y xl yl. (reaching_sound G x y, reaching_complete G x y yl) }

pub at_map : (f : ℕ → List ℕ) (l : List ℕ) (i : ℕ) → i < length l → get_or (map f l) i [] ≡ f (get_or l i 0)
at_map f [] i h = absurd (omega arith)
at_map f (x ∷ l) zero h = refl
at_map f (x ∷ l) (suc i) h = at_map f l i (omega arith)

in_at : (l : List ℕ) (i : ℕ) → i < length l → get_or l i 0 ∈ l
in_at [] i h = absurd (omega arith)
in_at (x ∷ l) zero h = Memᴰ.head refl
in_at (x ∷ l) (suc i) h = Memᴰ.tail (in_at l i (omega arith))

place : {x : ℕ} {l : List ℕ} → x ∈ l → (i : ℕ) × (i < length l) × (get_or l i 0 ≡ x)
place (Memᴰ.head e) = (0, omega arith, sym e)
place (Memᴰ.tail h) = let w = place h in (suc w.0, omega (arith, w.1), w.2)

data Distinct : List ℕ → Type 0 where
  none : Distinct []
  more : {x : ℕ} {l : List ℕ} → member l x ≡ false → Distinct l → Distinct (x ∷ l)

distinct_at : {l : List ℕ} → Distinct l → (i j : ℕ) → i < j → j < length l → get_or l i 0 ≡ get_or l j 0 → ⊥
distinct_at none i j h₁ h₂ e = omega arith
distinct_at (more u d) i zero h₁ h₂ e = omega arith
distinct_at (more {x} {l} u d) zero (suc j) h₁ h₂ e = true≢false (sym (of_member (subst (λ (v : ℕ). v ∈ l) (sym e) (in_at l j (omega arith)))) ∙ u)
distinct_at (more u d) (suc i) (suc j) h₁ h₂ e = distinct_at d i j (omega arith) (omega arith) e

rising_less : {k m : ℕ} {l : List ℕ} → k ≤ m → Rising m l → Rising k l
rising_less h end = end
rising_less {k} h (step {x} g r) = step {k = k} {x = x} (omega arith) r

pub rising_keep : (p : ℕ → Bool) (k n : ℕ) → Rising k (keep p (up_from k n))
rising_keep p k zero = subst (λ (u : List ℕ). Rising k u) (sym (ap (keep p) (up_none k) ∙ keep_none p)) end
rising_keep p k (suc n) = go (p k) refl (rising_keep p (suc k) n)
  where
    go : (t : Bool) → p k ≡ t → Rising (suc k) (keep p (up_from (suc k) n)) → Rising k (keep p (up_from k (suc n)))
    go true e r = subst (λ (u : List ℕ). Rising k u) (sym (ap (keep p) (up_step k n) ∙ keep_here p k (up_from (suc k) n) e)) (step (le_refl k) r)
    go false e r = subst (λ (u : List ℕ). Rising k u) (sym (ap (keep p) (up_step k n) ∙ keep_step p k (up_from (suc k) n) e)) (rising_less (omega arith) r)

sum_front : (f : ℕ → ℕ) (n : ℕ) → sum_to f (suc n) ≡ f 0 + sum_to (λ i. f (suc i)) n
unfolding sum_to
sum_front f zero = omega arith
sum_front f (suc n) = omega (arith, sum_front f n)

pub joined_sum : (R : List (List ℕ)) → sum_to (λ i. length (circle_at R i)) (length R) ≡ length (joined R)
unfolding sum_to
joined_sum [] = ap length (sym joined_none)
joined_sum (C ∷ R) = sum_front (λ i. length (circle_at (C ∷ R) i)) (length R) ∙ (let q : length C + sum_to (λ i. length (circle_at R i)) (length R) ≡ length (joined (C ∷ R)) = omega (arith, joined_sum R, joined_cons C R) in q)

module _ (G : Graph) (C : Closed G) (few : G.size ≤ 65535) where
  abbrev L : List ℕ
  L = labels_of G

  -- ---- one turn

  data Turning (k : ℕ) (tk : List ℕ) : List ℕ → Type 0 where
    takes : (r : ℕ) → r < G.size → Parts G C tk r → ((j : ℕ) → j < r → takeable G L tk j ≡ false) → Turning k tk (r ∷ ranking k G L (r ∷ tk))
    ends : ((j : ℕ) → j < G.size → takeable G L tk j ≡ false) → Turning k tk []

  turning : (k : ℕ) (tk : List ℕ) → Turning k tk (ranking (suc k) G L tk)
  turning k tk =
      ⊎_elim
      (λ w. subst (λ (u : List ℕ). Turning k tk u) (sym (ranking_takes G L tk k _ refl w.below)) (takes _ w.below (parts_of G C tk _ w.passes) (λ j h. w.least j (omega arith) h)))
      (λ w. subst (λ (u : List ℕ). Turning k tk u) (sym (ranking_ends G L tk k _ refl (omega (arith, w.past)))) (ends (λ j h. w.none j (omega arith) h)))
      (first_cases (takeable G L tk) 0 G.size G.size (omega arith))

  -- ---- each label is listed once, and is a label

  fresh_turn : {k l : ℕ} {tk ls : List ℕ} → Turning k tk ls → (l ∈ ranking k G L (get_or ls 0 0 ∷ tk) → (l < G.size) × (label_at L l ≡ l) × (member (get_or ls 0 0 ∷ tk) l ≡ false)) → l ∈ ls → (l < G.size) × (label_at L l ≡ l) × (member tk l ≡ false)
  fresh_turn {l} {tk} (takes r rl P f) ih h =
      ⊎_elim
      (λ e. (omega (arith, e), ap (label_at L) e ∙ P.own ∙ sym e, ap (λ (u : ℕ). member tk u) e ∙ P.untaken))
      (λ m. let w = ih m in (w.0, w.1, not_true_false (member tk l) (λ e. true≢false (sym (or_two (eqb l r) (member tk l) e) ∙ w.2))))
      (Memᴰ.cases_cons h)
  fresh_turn (ends f) ih h = absurd (Memᴰ.not-nil h)

  fresh : (k : ℕ) (tk : List ℕ) {l : ℕ} → l ∈ ranking k G L tk → (l < G.size) × (label_at L l ≡ l) × (member tk l ≡ false)
  fresh zero tk {l} h = absurd (Memᴰ.not-nil (subst (λ (u : List ℕ). l ∈ u) (ranking_zero G L tk) h))
  fresh (suc k) tk h = fresh_turn (turning k tk) (λ m. fresh k (get_or (ranking (suc k) G L tk) 0 0 ∷ tk) m) h

  distinct_turn : {k : ℕ} {tk ls : List ℕ} → Turning k tk ls → Distinct (ranking k G L (get_or ls 0 0 ∷ tk)) → Distinct ls
  distinct_turn {k} {tk} (takes r rl P f) ih = more (not_true_false (member (ranking k G L (r ∷ tk)) r) (λ e. true≢false (sym (or_one (eqb r r) (member tk r) (eq-eqb r r refl)) ∙ (fresh k (r ∷ tk) (member_of (ranking k G L (r ∷ tk)) e)).2))) ih
  distinct_turn (ends f) ih = none

  distinct : (k : ℕ) (tk : List ℕ) → Distinct (ranking k G L tk)
  distinct zero tk = subst Distinct (sym (ranking_zero G L tk)) none
  distinct (suc k) tk = distinct_turn (turning k tk) (distinct k (get_or (ranking (suc k) G L tk) 0 0 ∷ tk))

  -- ---- what a circle reads is in it or taken before

  abbrev Before : List ℕ → List ℕ → ℕ → ℕ → Type 0
  Before tk ls i m = (member tk m ≡ true) ⊎ ((j : ℕ) × (j ≤ i) × (j < length ls) × (get_or ls j 0 ≡ m))

  reads_turn : {k : ℕ} {tk ls : List ℕ} (i x y : ℕ) → Turning k tk ls → ((i : ℕ) → i < length (ranking k G L (get_or ls 0 0 ∷ tk)) → label_at L x ≡ get_or (ranking k G L (get_or ls 0 0 ∷ tk)) i 0 → Before (get_or ls 0 0 ∷ tk) (ranking k G L (get_or ls 0 0 ∷ tk)) i (label_at L y)) → i < length ls → x < G.size → label_at L x ≡ get_or ls i 0 → y ∈ G.args x → Before tk ls i (label_at L y)
  reads_turn zero x y (takes r rl P f) ih h xl e a = ⊎_elim (λ u. inr (0, omega arith, omega arith, sym u)) (λ u. inl u) (P.outside x y xl e a)
  reads_turn (suc i) x y (takes r rl P f) ih h xl e a =
      ⊎_elim
      (λ u. ⊎_elim (λ v. inr (0, omega arith, omega arith, sym (eqb-true (label_at L y) r v))) (λ v. inl v) (or_parts (eqb (label_at L y) r) _ u))
      (λ u. inr (suc u.0, omega (arith, u.1), omega (arith, u.2), u.3))
      (ih i (omega arith) e)
  reads_turn i x y (ends f) ih h xl e a = absurd (omega arith)

  reads_at : (k : ℕ) (tk : List ℕ) (i x y : ℕ) → i < length (ranking k G L tk) → x < G.size → label_at L x ≡ get_or (ranking k G L tk) i 0 → y ∈ G.args x → Before tk (ranking k G L tk) i (label_at L y)
  reads_at zero tk i x y h xl e a = absurd (omega (arith, h, ap length (ranking_zero G L tk)))
  reads_at (suc k) tk i x y h xl e a = reads_turn i x y (turning k tk) (λ i h e. reads_at k (get_or (ranking (suc k) G L tk) 0 0 ∷ tk) i x y h xl e a) h xl e a

  -- ---- the order is greedy

  can_take : (tk : List ℕ) (l : ℕ) → l < G.size → Parts G C tk l → CanTake G tk l
  can_take tk l ll P =
      let d : G.declared l ≡ true = labelled G C l l ll few P.own in
      record {
        declared = d;
        least = subst (λ (u : ℕ). LeastOf G l u) P.own (least_label G l ll d);
        untaken = λ h. true≢false (sym (of_member h) ∙ P.untaken);
        outside = λ x y t a.
            let dx : G.declared x ≡ true = reached_declared C d t.0 in
            let dy : G.declared y ≡ true = C.closed x dx y a in
            ⊎_elim
            (λ e. inl (same_label G C l y d dy (P.own ∙ sym e)))
            (λ e. inr (label_at L y, member_of tk e, least_label G y (C.bound y dy) dy))
            (P.outside x y (C.bound x dx) (sym (one_label G C l x d t) ∙ P.own) a);
      }

  takes_can : (tk : List ℕ) (l : ℕ) → CanTake G tk l → (l < G.size) × Parts G C tk l
  takes_can tk l c =
      let ll : l < G.size = C.bound l c.declared in
      let own : label_at L l ≡ l = label_is G l l ll c.declared c.least in (
        ll,
        record {
          own = own;
          untaken = not_true_false (member tk l) (λ e. c.untaken (member_of tk e));
          outside = λ x y xl e a.
              let dx : G.declared x ≡ true = labelled G C x l ll few e in
              let dy : G.declared y ≡ true = C.closed x dx y a in
              ⊎_elim
              (λ t. inl (sym (one_label G C l y c.declared t) ∙ own))
              (λ m. inr (ap (λ (u : ℕ). member tk u) (label_is G y m.0 (C.bound y dy) dy m.2) ∙ of_member m.1))
              (c.outside x y (same_label G C l x c.declared dx (own ∙ sym e)) a);
        },
      )

  greedy_turn : {k : ℕ} {tk ls : List ℕ} → Turning k tk ls → ((r : ℕ) → r < G.size → Parts G C tk r → Greedy G (r ∷ tk) (ranking k G L (r ∷ tk))) → Greedy G tk ls
  greedy_turn {tk} (takes r rl P f) ih =
      take r (can_take tk r rl P)
      (λ m c. let w = takes_can tk m c in dite (dec_lt m r) (λ h. absurd (true≢false (sym (of_parts G C tk m w.1) ∙ f m h))) (λ h. omega (arith, h)))
      (ih r rl P)
  greedy_turn {tk} (ends f) ih = stop (λ l c. let w = takes_can tk l c in true≢false (sym (of_parts G C tk l w.1) ∙ f l w.0))

  greedy : (k : ℕ) (tk : List ℕ) → G.size ≤ k + held_by G L tk → Greedy G tk (ranking k G L tk)
  greedy zero tk h =
      subst (λ (u : List ℕ). Greedy G tk u) (sym (ranking_zero G L tk))
      (stop (λ l c. let w = takes_can tk l c in true≢false (sym (ap (λ (u : ℕ). member tk u) (sym w.1.own) ∙ held_full G L tk (omega arith) l w.0) ∙ w.1.untaken)))
  greedy (suc k) tk h =
      greedy_turn (turning k tk) (λ r rl P. greedy k (r ∷ tk) (omega (arith, h, held_more G L tk r P.untaken, some_long (of_circle G C r r rl P.own))))

-- no second order is greedy
pub greedy_one : {G : Graph} {tk ls ms : List ℕ} → Greedy G tk ls → Greedy G tk ms → ls ≡ ms
greedy_one (stop f) (stop g) = refl
greedy_one (stop f) (take m c h g) = absurd (f m c)
greedy_one (take l c h f) (stop g) = absurd (g l c)
greedy_one {G} {tk} (take {ls} l c h f) (take {ls = ms} m d i g) =
    let e : l ≡ m = omega (arith, h m d, i l c) in
    ap (λ (u : List ℕ). l ∷ u) (greedy_one f (subst (λ (u : ℕ). Greedy G (u ∷ tk) ms) (sym e) g)) ∙ ap (λ (u : ℕ). u ∷ ms) e

-- ---- the statements

pub circles : (G : Graph) → Closed G → Circles G
circles G C = record {
  one = λ x y d e. (same_label G C x y d e, one_label G C x y d);
  least = λ x d. least_label G x (C.bound x d) d;
}

pub taken : (G : Graph) → Closed G → G.size ≤ 65535 → Taken G
unfolding circles_of
taken G C few =
    let g = greedy G C few G.size [] (omega arith) in
    record {
      order = ranking G.size G (labels_of G) [];
      greedy = g;
      circles = sym (ranked_is G);
      only = λ ls h. greedy_one h g;
    }

-- the circles of distinct labels, counted
held_joined : (G : Graph) (labels : List ℕ) {ls : List ℕ} → Distinct ls → length (joined (map (circle_of G labels) ls)) ≡ held_by G labels ls
held_joined G labels none = ap length joined_none ∙ sym (held_none G labels)
held_joined G labels (more {x} {l} u d) = omega (arith, joined_cons (circle_of G labels x) (map (circle_of G labels) l), held_joined G labels d, held_more G labels l x u)

held_count : (G : Graph) (labels : List ℕ) {ls : List ℕ} → Distinct ls → ((l : ℕ) → l ∈ ls → 0 < length (circle_of G labels l)) → length ls ≤ held_by G labels ls
held_count G labels none f = omega arith
held_count G labels (more {x} {l} u d) f = omega (arith, held_count G labels d (λ y h. f y (Memᴰ.tail h)), held_more G labels l x u, f x (Memᴰ.head refl))

held_same : (G : Graph) (labels ls : List ℕ) → ((x : ℕ) → x < G.size → member ls (label_at labels x) ≡ G.declared x) → held_by G labels ls ≡ declared_count G
unfolding held_by declared_count
held_same G labels ls f = ap length (keep_same (λ x. member ls (label_at labels x)) G.declared (slots G) (λ x h. f x (in_slots G.size h)))

declared_few : (G : Graph) → declared_count G ≤ G.size
unfolding declared_count
declared_few G = omega (arith, keep_le G.declared (slots G), length_up 0 G.size)

rising_circle : (G : Graph) (labels : List ℕ) (l : ℕ) → Rising 0 (circle_of G labels l)
unfolding circle_of
rising_circle G labels l = rising_keep (λ x. eqb (label_at labels x) l) 0 G.size

module _ (G : Graph) (C : Closed G) (few : G.size ≤ 65535) where
  abbrev ls : List ℕ
  ls = ranking G.size G (labels_of G) []

  R : List (List ℕ)
  R = map (circle_of G (labels_of G)) ls

  long : length R ≡ length ls
  unfolding R
  long = length-map ls (circle_of G (labels_of G))

  in_at_circle : (i x : ℕ) → member (circle_at R i) x ≡ true → (i < length ls) × (x < G.size) × (label_at (labels_of G) x ≡ get_or ls i 0)
  unfolding R
  in_at_circle i x h =
      dite (dec_lt i (length ls))
      (λ c. let w = in_circle G C (get_or ls i 0) (subst (λ (u : List ℕ). x ∈ u) (at_map (circle_of G (labels_of G)) ls i c) (member_of (circle_at R i) h)) in (c, w.0, w.1))
      (λ c. absurd (false≢true (sym (ap (λ (u : List ℕ). member u x) (get_or-eq_default R [] {n = i} (omega (arith, c, long)))) ∙ h)))

  of_at_circle : (i x : ℕ) → i < length ls → x < G.size → label_at (labels_of G) x ≡ get_or ls i 0 → member (circle_at R i) x ≡ true
  unfolding R
  of_at_circle i x il xl e = of_member (subst (λ (u : List ℕ). x ∈ u) (sym (at_map (circle_of G (labels_of G)) ls i il)) (of_circle G C x (get_or ls i 0) xl e))

  label_in : (i : ℕ) → i < length ls → (get_or ls i 0 < G.size) × (label_at (labels_of G) (get_or ls i 0) ≡ get_or ls i 0)
  label_in i h = let w = fresh G C few G.size [] (in_at ls i h) in (w.0, w.1)

  declared_in : (i x : ℕ) → member (circle_at R i) x ≡ true → G.declared x ≡ true
  declared_in i x h = let w = in_at_circle i x h in labelled G C x (get_or ls i 0) (label_in i w.0).0 few w.2

  all_listed : (x : ℕ) → G.declared x ≡ true → label_at (labels_of G) x ∈ ls
  all_listed x d = ⊎_elim (λ e. absurd (false≢true e)) (λ h. h) (listed G C few G.size [] (omega arith) x d)

  by_label : (x : ℕ) → x < G.size → member ls (label_at (labels_of G) x) ≡ G.declared x
  by_label x xl =
      bool_same (member ls (label_at (labels_of G) x)) (G.declared x)
      (λ e. labelled G C x (label_at (labels_of G) x) (fresh G C few G.size [] (member_of ls e)).0 few refl)
      (λ d. of_member (all_listed x d))

  whole_count : held_by G (labels_of G) ls ≡ declared_count G
  whole_count = held_same G (labels_of G) ls by_label

  reads_in : (i x y : ℕ) → member (circle_at R i) x ≡ true → y ∈ G.args x → (j : ℕ) × (j ≤ i) × (member (circle_at R j) y ≡ true)
  reads_in i x y h a =
      let w = in_at_circle i x h in
      let dy : G.declared y ≡ true = C.closed x (declared_in i x h) y a in
      ⊎_elim
      (λ e. absurd (false≢true e))
      (λ b. (b.0, b.1, of_at_circle b.0 y b.2 (C.bound y dy) (sym b.3)))
      (reads_at G C few G.size [] i x y w.0 w.1 w.2 a)

  ordered_r : Ordered G R
  unfolding R
  ordered_r = record {
    apart = λ i j x ij h. not_true_false (member (circle_at R j) x) (λ e. let u = in_at_circle i x h in let v = in_at_circle j x e in distinct_at (distinct G C few G.size []) i j ij v.0 (sym u.2 ∙ v.2));
    reads = λ i x h y a. reads_in i x y h a;
    declared = declared_in;
    covers = λ x d. let p = place (all_listed x d) in (p.0, subst (λ (u : ℕ). p.0 < u) (sym long) p.1, of_at_circle p.0 x p.1 (C.bound x d) (sym p.2));
    together = λ i x h y. let w = in_at_circle i x h in let d = declared_in i x h in (
      (λ e. let v = in_at_circle i y e in same_label G C x y d (declared_in i y e) (w.2 ∙ sym v.2)),
      (λ t. let dy : G.declared y ≡ true = reached_declared C d t.0 in of_at_circle i y w.0 (C.bound y dy) (sym (one_label G C x y d t) ∙ w.2)),
    );
    rising = λ i. dite (dec_lt i (length ls))
        (λ c. subst (λ (u : List ℕ). Rising 0 u) (sym (at_map (circle_of G (labels_of G)) ls i c)) (rising_circle G (labels_of G) (get_or ls i 0)))
        (λ c. subst (λ (u : List ℕ). Rising 0 u) (sym (get_or-eq_default R [] {n = i} (omega (arith, c, long)))) end);
    count = omega (arith, long, whole_count, held_count G (labels_of G) (distinct G C few G.size []) (λ l h. let w = fresh G C few G.size [] h in some_long (of_circle G C l l w.0 w.1)));
    total = joined_sum R ∙ held_joined G (labels_of G) (distinct G C few G.size []) ∙ whole_count;
    few = declared_few G;
  }

  pub ordered : Ordered G (ranked G)
  unfolding R
  ordered = subst (Ordered G) (ranked_is G) ordered_r
