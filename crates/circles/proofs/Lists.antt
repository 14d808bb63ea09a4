-- Lists of slots: what is kept, found first, counted. Assumes nothing.
use Prim.Native.Nat.{ℕ, zero, suc, ◌+◌, ◌≤◌, ◌<◌}
use native.Mathlib.Omega.{arith}
use native.Mathlib.Decide.{ℕ_discrete}
use mathlib.Core.Path.{◌≡◌, refl, sym, ap, subst, ◌∙◌}
use mathlib.Core.Bool.{Bool, true, false, cond, not, ◌&&◌, ◌||◌, false≢true}
use mathlib.Core.List.Memᴰ
use mathlib.Core.List.{List, [], ◌∷◌, map}
use mathlib.Core.Logic.{◌⊎◌, inl, inr, ⊎_elim, dite}
use lib.ListN.{length, get_or, length-map}
use lib.Dec.{eqb}
use borrow.Author.Tests.{eq-eqb, eqb-true}
use Rattle.circles.specs.Graph.{◌∈◌}
use Rattle.circles.specs.Ranked.{member, any_of, all_of, keep, first_of, up_from}

-- ---- Bools

pub not_true_false : (t : Bool) → (t ≡ true → ⊥) → t ≡ false
not_true_false true h = absurd (h refl)
not_true_false false h = refl

pub and_parts : (s t : Bool) → (s && t) ≡ true → (s ≡ true) × (t ≡ true)
and_parts true t e = (refl, e)
and_parts false t e = absurd (false≢true e)

pub and_of : (s t : Bool) → s ≡ true → t ≡ true → (s && t) ≡ true
and_of true t p q = q
and_of false t p q = p

pub or_parts : (s t : Bool) → (s || t) ≡ true → (s ≡ true) ⊎ (t ≡ true)
or_parts true t e = inl refl
or_parts false t e = inr e

pub or_one : (s t : Bool) → s ≡ true → (s || t) ≡ true
or_one true t p = refl
or_one false t p = absurd (false≢true p)

pub or_two : (s t : Bool) → t ≡ true → (s || t) ≡ true
or_two true t p = refl
or_two false t p = p

pub not_of : (t : Bool) → t ≡ false → not t ≡ true
not_of t e = ap not e

pub not_was : (t : Bool) → not t ≡ true → t ≡ false
not_was true e = absurd (false≢true e)
not_was false e = refl

pub bool_same : (s t : Bool) → (s ≡ true → t ≡ true) → (t ≡ true → s ≡ true) → s ≡ t
bool_same true t f g = sym (f refl)
bool_same false true f g = g refl
bool_same false false f g = refl

-- ---- membership

pub member_of : {x : ℕ} (l : List ℕ) → member l x ≡ true → x ∈ l
member_of [] e = absurd (false≢true e)
member_of {x} (y ∷ l) e = ⊎_elim (λ p. Memᴰ.head (eqb-true x y p)) (λ p. Memᴰ.tail (member_of l p)) (or_parts (eqb x y) (member l x) e)

pub of_member : {x : ℕ} {l : List ℕ} → x ∈ l → member l x ≡ true
of_member {x} (Memᴰ.head {x = y} e) = or_one (eqb x y) _ (eq-eqb x y e)
of_member {x} (Memᴰ.tail {x = y} h) = or_two (eqb x y) _ (of_member h)

pub any_of_lem : (p : ℕ → Bool) (l : List ℕ) → any_of p l ≡ true → (y : ℕ) × (y ∈ l) × (p y ≡ true)
any_of_lem p [] e = absurd (false≢true e)
any_of_lem p (x ∷ l) e = ⊎_elim (λ h. (x, Memᴰ.head refl, h)) (λ h. let w = any_of_lem p l h in (w.0, Memᴰ.tail w.1, w.2)) (or_parts (p x) (any_of p l) e)

pub of_any : (p : ℕ → Bool) {y : ℕ} {l : List ℕ} → y ∈ l → p y ≡ true → any_of p l ≡ true
of_any p (Memᴰ.head {x} q) e = or_one (p x) _ (ap p (sym q) ∙ e)
of_any p (Memᴰ.tail {x} h) e = or_two (p x) _ (of_any p h e)

pub all_of_lem : (p : ℕ → Bool) {y : ℕ} {l : List ℕ} → all_of p l ≡ true → y ∈ l → p y ≡ true
all_of_lem p e (Memᴰ.head {x} {xs} q) = ap p q ∙ (and_parts (p x) (all_of p xs) e).0
all_of_lem p e (Memᴰ.tail {x} {xs} h) = all_of_lem p (and_parts (p x) (all_of p xs) e).1 h

pub of_all : (p : ℕ → Bool) (l : List ℕ) → ((y : ℕ) → y ∈ l → p y ≡ true) → all_of p l ≡ true
of_all p [] f = refl
of_all p (x ∷ l) f = and_of (p x) (all_of p l) (f x (Memᴰ.head refl)) (of_all p l (λ y h. f y (Memᴰ.tail h)))

pub all_cong : (f g : ℕ → Bool) (l : List ℕ) → ((x : ℕ) → x ∈ l → f x ≡ g x) → all_of f l ≡ all_of g l
all_cong f g [] h = refl
all_cong f g (y ∷ l) h = rw (h y (Memᴰ.head refl), all_cong f g l (λ x m. h x (Memᴰ.tail m)))

-- a list with a member is not empty, and has its first
pub some_long : (l : List ℕ) (y : ℕ) → member l y ≡ true → 0 < length l
some_long [] y m = absurd (false≢true m)
some_long (x ∷ l) y m = omega arith

pub first_member : (l : List ℕ) → 0 < length l → member l (get_or l 0 0) ≡ true
first_member [] h = absurd (omega arith)
first_member (x ∷ l) h = rw (eq-eqb x x refl)

-- within a list the default doesn't matter
pub default_is : (l : List ℕ) (x d e : ℕ) → x < length l → get_or l x d ≡ get_or l x e
default_is [] x d e h = absurd (omega arith)
default_is (y ∷ l) zero d e h = refl
default_is (y ∷ l) (suc x) d e h = default_is l x d e (omega arith)

-- ---- what is kept

pub keep_step : (p : ℕ → Bool) (k : ℕ) (ks : List ℕ) → p k ≡ false → keep p (k ∷ ks) ≡ keep p ks
unfolding keep
keep_step p k ks e = ap (λ (t : Bool). cond t (k ∷ keep p ks) (keep p ks)) e

pub keep_here : (p : ℕ → Bool) (k : ℕ) (ks : List ℕ) → p k ≡ true → keep p (k ∷ ks) ≡ k ∷ keep p ks
unfolding keep
keep_here p k ks e = ap (λ (t : Bool). cond t (k ∷ keep p ks) (keep p ks)) e

pub keep_none : (p : ℕ → Bool) → keep p [] ≡ []
unfolding keep
keep_none p = refl

kept_case : {x : ℕ} (p : ℕ → Bool) (k : ℕ) (ks : List ℕ) → (x ∈ keep p ks → (x ∈ ks) × (p x ≡ true)) → (t : Bool) → p k ≡ t → x ∈ keep p (k ∷ ks) → (x ∈ (k ∷ ks)) × (p x ≡ true)
kept_case {x} p k ks ih true e h =
    ⊎_elim (λ q. (Memᴰ.head q, ap p q ∙ e)) (λ q. (Memᴰ.tail (ih q).0, (ih q).1)) (Memᴰ.cases_cons (subst (λ (u : List ℕ). x ∈ u) (keep_here p k ks e) h))
kept_case {x} p k ks ih false e h = let w = ih (subst (λ (u : List ℕ). x ∈ u) (keep_step p k ks e) h) in (Memᴰ.tail w.0, w.1)

pub in_keep : {x : ℕ} (p : ℕ → Bool) (l : List ℕ) → x ∈ keep p l → (x ∈ l) × (p x ≡ true)
in_keep {x} p [] h = absurd (Memᴰ.not-nil (subst (λ (u : List ℕ). x ∈ u) (keep_none p) h))
in_keep p (k ∷ ks) h = kept_case p k ks (in_keep p ks) (p k) refl h

keep_case : {x : ℕ} (p : ℕ → Bool) (k : ℕ) (ks : List ℕ) → x ∈ keep p ks → (t : Bool) → p k ≡ t → x ∈ keep p (k ∷ ks)
keep_case {x} p k ks h true e = subst (λ (u : List ℕ). x ∈ u) (sym (keep_here p k ks e)) (Memᴰ.tail h)
keep_case {x} p k ks h false e = subst (λ (u : List ℕ). x ∈ u) (sym (keep_step p k ks e)) h

pub of_keep : {x : ℕ} (p : ℕ → Bool) {l : List ℕ} → x ∈ l → p x ≡ true → x ∈ keep p l
of_keep {x} p (Memᴰ.head {x = k} {xs} q) e = subst (λ (u : List ℕ). x ∈ u) (sym (keep_here p k xs (ap p (sym q) ∙ e))) (Memᴰ.head q)
of_keep {x} p (Memᴰ.tail {x = k} {xs} h) e = keep_case p k xs (of_keep p h e) (p k) refl

pub keep_same : (p q : ℕ → Bool) (l : List ℕ) → ((x : ℕ) → x ∈ l → p x ≡ q x) → keep p l ≡ keep q l
unfolding keep
keep_same p q [] f = refl
keep_same p q (x ∷ l) f =
    ap (λ (t : Bool). cond t (x ∷ keep p l) (keep p l)) (f x (Memᴰ.head refl)) ∙ ap (λ (u : List ℕ). cond (q x) (x ∷ u) u) (keep_same p q l (λ y h. f y (Memᴰ.tail h)))

-- ---- the numbers from k on

pub up_step : (k n : ℕ) → up_from k (suc n) ≡ k ∷ up_from (suc k) n
unfolding up_from
up_step k n = refl

pub up_none : (k : ℕ) → up_from k 0 ≡ []
unfolding up_from
up_none k = refl

pub length_up : (k n : ℕ) → length (up_from k n) ≡ n
unfolding up_from
length_up k zero = refl
length_up k (suc n) = ap suc (length_up (suc k) n)

pub in_up : {x : ℕ} (k n : ℕ) → x ∈ up_from k n → (k ≤ x) × (x < k + n)
in_up {x} k zero h = absurd (Memᴰ.not-nil (subst (λ (u : List ℕ). x ∈ u) (up_none k) h))
in_up {x} k (suc n) h =
    ⊎_elim (λ q. (omega (arith, q), omega (arith, q))) (λ q. let w = in_up (suc k) n q in (omega (arith, w.0), omega (arith, w.1)))
    (Memᴰ.cases_cons (subst (λ (u : List ℕ). x ∈ u) (up_step k n) h))

pub of_up : (x k n : ℕ) → k ≤ x → x < k + n → x ∈ up_from k n
of_up x k zero h₁ h₂ = absurd (omega arith)
of_up x k (suc n) h₁ h₂ =
    subst (λ (u : List ℕ). x ∈ u) (sym (up_step k n))
    (dite (ℕ_discrete x k) (λ c. Memᴰ.head c) (λ c. Memᴰ.tail (of_up x (suc k) n (omega (arith, c)) (omega arith))))

pub in_slots : {x : ℕ} (n : ℕ) → x ∈ up_from 0 n → x < n
in_slots n h = omega (arith, (in_up 0 n h).1)

pub of_slots : (x n : ℕ) → x < n → x ∈ up_from 0 n
of_slots x n h = of_up x 0 n (omega arith) (omega arith)

module _ {ℓ} {A : Type ℓ} (f : ℕ → A) (d : A) where
  map_from : (k n i : ℕ) → i < n → get_or (map f (up_from k n)) i d ≡ f (k + i)
  unfolding up_from
  map_from k zero i h = absurd (omega arith)
  map_from k (suc n) zero h = ap f (let q : k ≡ k + 0 = omega arith in q)
  map_from k (suc n) (suc i) h = map_from (suc k) n i (omega arith) ∙ ap f (let q : suc k + i ≡ k + suc i = omega arith in q)

  pub map_at : (n i : ℕ) → i < n → get_or (map f (up_from 0 n)) i d ≡ f i
  map_at n i h = map_from 0 n i h ∙ ap f (let q : 0 + i ≡ i = omega arith in q)

  pub map_long : (n : ℕ) → length (map f (up_from 0 n)) ≡ n
  map_long n = length-map (up_from 0 n) f ∙ length_up 0 n

  map_same_from : (g : ℕ → A) (k n : ℕ) → ((x : ℕ) → x < k + n → f x ≡ g x) → map f (up_from k n) ≡ map g (up_from k n)
  unfolding up_from
  map_same_from g k zero e = refl
  map_same_from g k (suc n) e = λ i. e k (omega arith) i ∷ map_same_from g (suc k) n (λ x h. e x (omega arith)) i

  pub map_same : (g : ℕ → A) (n : ℕ) → ((x : ℕ) → x < n → f x ≡ g x) → map f (up_from 0 n) ≡ map g (up_from 0 n)
  map_same g n e = map_same_from g 0 n (λ x h. e x (omega arith))

-- ---- the first that passes

first_of_step : (p : ℕ → Bool) (k : ℕ) (ks : List ℕ) (d : ℕ) → p k ≡ false → first_of p (k ∷ ks) d ≡ first_of p ks d
unfolding first_of
first_of_step p k ks d e = ap (λ (t : Bool). cond t k (first_of p ks d)) e

first_of_hit : (p : ℕ → Bool) (k : ℕ) (ks : List ℕ) (d : ℕ) → p k ≡ true → first_of p (k ∷ ks) d ≡ k
unfolding first_of
first_of_hit p k ks d e = ap (λ (t : Bool). cond t k (first_of p ks d)) e

pub first_is : (p : ℕ → Bool) (k n d r : ℕ) → k ≤ r → r < k + n → p r ≡ true → ((j : ℕ) → k ≤ j → j < r → p j ≡ false) → first_of p (up_from k n) d ≡ r
unfolding up_from
first_is p k zero d r h₁ h₂ e nn = absurd (omega arith)
first_is p k (suc n) d r h₁ h₂ e nn =
    dite (ℕ_discrete k r)
    (λ c. first_of_hit p k (up_from (suc k) n) d (ap p c ∙ e) ∙ c)
    (λ c. first_of_step p k (up_from (suc k) n) d (nn k (omega arith) (omega (arith, c))) ∙ first_is p (suc k) n d r (omega (arith, c)) (omega arith) e (λ j g₁ g₂. nn j (omega arith) g₂))

pub first_none : (p : ℕ → Bool) (k n d : ℕ) → ((j : ℕ) → k ≤ j → j < k + n → p j ≡ false) → first_of p (up_from k n) d ≡ d
unfolding up_from first_of
first_none p k zero d nn = refl
first_none p k (suc n) d nn = first_of_step p k (up_from (suc k) n) d (nn k (omega arith) (omega arith)) ∙ first_none p (suc k) n d (λ j g₁ g₂. nn j (omega arith) (omega arith))

pub record Hit (p : ℕ → Bool) (k d r : ℕ) : Type 0 where
  pub below : r < d
  pub from : k ≤ r
  pub passes : p r ≡ true
  pub least : (j : ℕ) → k ≤ j → j < r → p j ≡ false

pub record Miss (p : ℕ → Bool) (k d r : ℕ) : Type 0 where
  pub past : r ≡ d
  pub none : (j : ℕ) → k ≤ j → j < d → p j ≡ false

first_case : (p : ℕ → Bool) (k n d : ℕ) → k + suc n ≡ d → (Hit p (suc k) d (first_of p (up_from (suc k) n) d) ⊎ Miss p (suc k) d (first_of p (up_from (suc k) n) d)) → (t : Bool) → p k ≡ t → Hit p k d (first_of p (up_from k (suc n)) d) ⊎ Miss p k d (first_of p (up_from k (suc n)) d)
first_case p k n d e ih true q =
    let at : first_of p (up_from k (suc n)) d ≡ k = ap (λ (u : List ℕ). first_of p u d) (up_step k n) ∙ first_of_hit p k (up_from (suc k) n) d q in
    inl (subst (λ (r : ℕ). Hit p k d r) (sym at) (record { below = omega arith; from = omega arith; passes = q; least = λ j h₁ h₂. absurd (omega arith) }))
first_case p k n d e ih false q =
    let at : first_of p (up_from k (suc n)) d ≡ first_of p (up_from (suc k) n) d = ap (λ (u : List ℕ). first_of p u d) (up_step k n) ∙ first_of_step p k (up_from (suc k) n) d q in
    let more : (j r : ℕ) → k ≤ j → ((i : ℕ) → suc k ≤ i → i < r → p i ≡ false) → j < r → p j ≡ false = λ j r h f l. dite (ℕ_discrete j k) (λ c. ap p c ∙ q) (λ c. f j (omega (arith, c)) l) in
    ⊎_elim
    (λ h. inl (subst (λ (r : ℕ). Hit p k d r) (sym at) (record { below = h.below; from = omega (arith, h.from); passes = h.passes; least = λ j h₁ h₂. more j _ h₁ h.least h₂ })))
    (λ h. inr (subst (λ (r : ℕ). Miss p k d r) (sym at) (record { past = h.past; none = λ j h₁ h₂. more j _ h₁ h.none h₂ })))
    ih

pub first_cases : (p : ℕ → Bool) (k n d : ℕ) → k + n ≡ d → Hit p k d (first_of p (up_from k n) d) ⊎ Miss p k d (first_of p (up_from k n) d)
first_cases p k zero d e = inr (record { past = first_none p k 0 d (λ j h₁ h₂. absurd (omega arith)); none = λ j h₁ h₂. absurd (omega arith) })
first_cases p k (suc n) d e = first_case p k n d e (first_cases p (suc k) n d (omega arith)) (p k) refl
