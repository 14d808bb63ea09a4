-- The ranking as it computes. Assumes nothing.
use Prim.Native.Nat.{ℕ, suc, ◌+◌, ◌≤◌, ◌<◌}
use native.Mathlib.Omega.{arith}
use mathlib.Core.Path.{◌≡◌, refl, sym, ap, ◌∙◌}
use mathlib.Core.Bool.{Bool, true, false, cond, true≢false, false≢true}
use mathlib.Core.List.{List, [], ◌∷◌, map}
use mathlib.Core.Logic.{◌⊎◌, ⊎_elim}
use lib.ListN.{length, length-append}
use lib.Dec.{eqb, ltb}
use borrow.Author.Tests.{eqb-true, lt-ltb, le-ltb}
use Rattle.circles.specs.Graph.{Graph}
use Rattle.circles.specs.Ranked.{member, keep, slots, first_of, label_at, labels_of, circle_of, takeable, ranking, ranked_by, ranked}
use Rattle.circles.specs.Arrays.{joined}
use Rattle.circles.proofs.Lists.{or_parts, or_one, or_two, keep_step, keep_here, keep_none, length_up}

-- ---- one turn of the ranking

pub ranking_takes : (G : Graph) (labels tk : List ℕ) (k r : ℕ) → first_of (takeable G labels tk) (slots G) G.size ≡ r → r < G.size → ranking (suc k) G labels tk ≡ r ∷ ranking k G labels (r ∷ tk)
unfolding ranking
ranking_takes G labels tk k r e h =
    ap (λ (u : ℕ). cond (ltb u G.size) (u ∷ ranking k G labels (u ∷ tk)) []) e ∙ ap (λ (t : Bool). cond t (r ∷ ranking k G labels (r ∷ tk)) []) (lt-ltb r G.size h)

pub ranking_ends : (G : Graph) (labels tk : List ℕ) (k r : ℕ) → first_of (takeable G labels tk) (slots G) G.size ≡ r → G.size ≤ r → ranking (suc k) G labels tk ≡ []
unfolding ranking
ranking_ends G labels tk k r e h =
    ap (λ (u : ℕ). cond (ltb u G.size) (u ∷ ranking k G labels (u ∷ tk)) []) e ∙ ap (λ (t : Bool). cond t (r ∷ ranking k G labels (r ∷ tk)) []) (le-ltb r G.size h)

pub ranking_zero : (G : Graph) (labels tk : List ℕ) → ranking 0 G labels tk ≡ []
unfolding ranking
ranking_zero G labels tk = refl

-- ---- the members of taken circles, counted

bit : Bool → ℕ
bit true = 1
bit false = 0

keep_length : (p : ℕ → Bool) (k : ℕ) (ks : List ℕ) (t : Bool) → p k ≡ t → length (keep p (k ∷ ks)) ≡ bit t + length (keep p ks)
unfolding bit
keep_length p k ks true e = ap length (keep_here p k ks e) ∙ (let q : suc (length (keep p ks)) ≡ 1 + length (keep p ks) = omega arith in q)
keep_length p k ks false e = ap length (keep_step p k ks e) ∙ (let q : length (keep p ks) ≡ 0 + length (keep p ks) = omega arith in q)

bits : (s t u : Bool) → (s ≡ true → t ≡ true → ⊥) → (s ≡ true → u ≡ true) → (t ≡ true → u ≡ true) → (u ≡ true → (s ≡ true) ⊎ (t ≡ true)) → bit s + bit t ≡ bit u
unfolding bit
bits true true u a f g h = absurd (a refl refl)
bits true false true a f g h = refl
bits true false false a f g h = absurd (false≢true (f refl))
bits false true true a f g h = refl
bits false true false a f g h = absurd (false≢true (g refl))
bits false false true a f g h = ⊎_elim (λ e. absurd (false≢true e)) (λ e. absurd (false≢true e)) (h refl)
bits false false false a f g h = refl

pub count_two : (p q r : ℕ → Bool) (ks : List ℕ) → ((x : ℕ) → p x ≡ true → q x ≡ true → ⊥) → ((x : ℕ) → p x ≡ true → r x ≡ true) → ((x : ℕ) → q x ≡ true → r x ≡ true) → ((x : ℕ) → r x ≡ true → (p x ≡ true) ⊎ (q x ≡ true)) → length (keep p ks) + length (keep q ks) ≡ length (keep r ks)
count_two p q r [] apart f g h = omega (arith, ap length (keep_none p), ap length (keep_none q), ap length (keep_none r))
count_two p q r (k ∷ ks) apart f g h =
    omega (arith, count_two p q r ks apart f g h, keep_length p k ks (p k) refl, keep_length q k ks (q k) refl, keep_length r k ks (r k) refl, bits (p k) (q k) (r k) (apart k) (f k) (g k) (h k))

bit_le : (t : Bool) → bit t ≤ 1
unfolding bit
bit_le true = omega arith
bit_le false = omega arith

pub keep_le : (p : ℕ → Bool) (ks : List ℕ) → length (keep p ks) ≤ length ks
keep_le p [] = omega (arith, ap length (keep_none p))
keep_le p (k ∷ ks) = omega (arith, keep_le p ks, keep_length p k ks (p k) refl, bit_le (p k))

unfoldable pub held_by : Graph → List ℕ → List ℕ → ℕ
held_by G labels tk = length (keep (λ x. member tk (label_at labels x)) (slots G))

pub held_le : (G : Graph) (labels tk : List ℕ) → held_by G labels tk ≤ G.size
unfolding held_by
held_le G labels tk = omega (arith, keep_le (λ x. member tk (label_at labels x)) (slots G), length_up 0 G.size)

pub held_none : (G : Graph) (labels : List ℕ) → held_by G labels [] ≡ 0
unfolding held_by
held_none G labels = none (slots G)
  where
    none : (ks : List ℕ) → length (keep (λ x. member [] (label_at labels x)) ks) ≡ 0
    none [] = ap length (keep_none (λ x. member [] (label_at labels x)))
    none (k ∷ ks) = ap length (keep_step (λ x. member [] (label_at labels x)) k ks refl) ∙ none ks

pub held_more : (G : Graph) (labels tk : List ℕ) (l : ℕ) → member tk l ≡ false → length (circle_of G labels l) + held_by G labels tk ≡ held_by G labels (l ∷ tk)
unfolding held_by circle_of
held_more G labels tk l e =
    count_two (λ x. eqb (label_at labels x) l) (λ x. member tk (label_at labels x)) (λ x. member (l ∷ tk) (label_at labels x)) (slots G)
    (λ x h₁ h₂. true≢false (sym h₂ ∙ ap (λ (u : ℕ). member tk u) (eqb-true (label_at labels x) l h₁) ∙ e))
    (λ x h. or_one (eqb (label_at labels x) l) (member tk (label_at labels x)) h)
    (λ x h. or_two (eqb (label_at labels x) l) (member tk (label_at labels x)) h)
    (λ x h. or_parts (eqb (label_at labels x) l) (member tk (label_at labels x)) h)

-- ---- circles, one behind the other

pub joined_cons : (C : List ℕ) (R : List (List ℕ)) → length (joined (C ∷ R)) ≡ length C + length (joined R)
joined_cons C R = unfold joined in length-append C (joined R)

pub joined_none : joined [] ≡ []
unfolding joined
joined_none = refl

pub ranked_is : (G : Graph) → map (circle_of G (labels_of G)) (ranking G.size G (labels_of G) []) ≡ ranked G
unfolding ranked ranked_by
ranked_is G = refl
