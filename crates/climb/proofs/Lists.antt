-- Tests over the members of a list, and the first place where a test holds. Assumes nothing.
use mathlib.Core.Path.{◌≡◌, refl, sym, ap, ◌∙◌}
use mathlib.Core.Bool.{Bool, true, false, ◌&&◌, ◌||◌, true≢false, or-true}
use mathlib.Core.Logic.{◌⊎◌, inl, inr, ⊎_elim}
use mathlib.Core.List.Memᴰ
use mathlib.Core.List.{List, [], ◌∷◌, map}
use Prim.Native.Nat.{ℕ, zero, suc, ◌+◌, ◌≤◌, ◌<◌}
use native.Mathlib.Nat.{eq-or-lt_of_le, le_refl}
use native.Mathlib.Numerals.{add-one}
use native.Mathlib.Omega.{arith}
use lib.Dec.{eqb, ltb}
use borrow.Author.Tests.{eqb-true, eq-eqb, ltb-true, ltb-false}
use Rattle.std.specs.List.{list_any, range_with_len}
use Rattle.circles.specs.Graph.{◌∈◌}
use Rattle.circles.specs.Ranked.{member, any_of, all_of, keep, up_from}
use Rattle.climb.specs.Climb.{least_from}

pub either : (b : Bool) → (b ≡ true) ⊎ (b ≡ false)
either true = inl refl
either false = inr refl

pub and_is : {a b : Bool} → (a && b) ≡ true → (a ≡ true) × (b ≡ true)
and_is {a = true} p = (refl, p)
and_is {a = false} p = absurd (true≢false (sym p))

pub or_false_is : {a b : Bool} → (a || b) ≡ false → (a ≡ false) × (b ≡ false)
or_false_is {a = true} p = absurd (true≢false p)
or_false_is {a = false} p = (refl, p)

pub le_or_lt : (m n : ℕ) → (m ≤ n) ⊎ (n < m)
le_or_lt m n = ⊎_elim (λ (h : ltb n m ≡ true). inr (ltb-true n m h)) (λ (h : ltb n m ≡ false). inl (ltb-false n m h)) (either (ltb n m))

-- ---- members

pub member_in : (l : List ℕ) (x : ℕ) → member l x ≡ true → x ∈ l
member_in [] x h = absurd (true≢false (sym h))
member_in (y ∷ l) x h = ⊎_elim (λ e. Memᴰ.head (eqb-true x y e))
    (λ (e : eqb x y ≡ false). Memᴰ.tail (member_in l x (rw e at h))) (either (eqb x y))

pub member_of : (l : List ℕ) (x : ℕ) → x ∈ l → member l x ≡ true
member_of [] x m = elim m [ ]
member_of (y ∷ l) x (Memᴰ.head p) = rw (eq-eqb x y p)
member_of (y ∷ l) x (Memᴰ.tail m) = rw (member_of l x m) (or-true (eqb x y))

pub member_map : (f : ℕ → ℕ) (l : List ℕ) (z : ℕ) → member (map f l) z ≡ true → (x : ℕ) × (member l x ≡ true) × (f x ≡ z)
member_map f [] z h = absurd (true≢false (sym h))
member_map f (y ∷ l) z h = ⊎_elim
    (λ (e : eqb z (f y) ≡ true). (y, rw (eq-eqb y y refl), sym (eqb-true z (f y) e)))
    (λ (e : eqb z (f y) ≡ false). let r = member_map f l z (rw e at h) in (r.0, rw r.1 (or-true (eqb r.0 y)), r.2)) (either (eqb z (f y)))

pub map_member : (f : ℕ → ℕ) (l : List ℕ) (x : ℕ) → member l x ≡ true → member (map f l) (f x) ≡ true
map_member f [] x h = absurd (true≢false (sym h))
map_member f (y ∷ l) x h = ⊎_elim
    (λ (e : eqb x y ≡ true). let p : x ≡ y = eqb-true x y e in rw (p, eq-eqb (f y) (f y) refl))
    (λ (e : eqb x y ≡ false). rw (map_member f l x (rw e at h)) (or-true (eqb (f x) (f y)))) (either (eqb x y))

pub only_member : (z x : ℕ) → member (z ∷ []) x ≡ true → x ≡ z
only_member z x m = ⊎_elim (λ (t : eqb x z ≡ true). eqb-true x z t) (λ (t : eqb x z ≡ false). absurd (true≢false (sym (rw t at m)))) (either (eqb x z))

-- those of the slots from k on that pass
pub keep_is : (p : ℕ → Bool) (l : List ℕ) (x : ℕ) → member (keep p l) x ≡ true → p x ≡ true
unfolding keep
keep_is p [] x h = absurd (true≢false (sym h))
keep_is p (y ∷ l) x h = ⊎_elim
    (λ (t : p y ≡ true). ⊎_elim (λ (e : eqb x y ≡ true). let q : x ≡ y = eqb-true x y e in rw q t)
    (λ (e : eqb x y ≡ false). keep_is p l x (rw (t, e) at h)) (either (eqb x y)))
    (λ (t : p y ≡ false). keep_is p l x (rw t at h)) (either (p y))

pub keep_in : (p : ℕ → Bool) (l : List ℕ) (x : ℕ) → member l x ≡ true → p x ≡ true → member (keep p l) x ≡ true
unfolding keep
keep_in p [] x h t = h
keep_in p (y ∷ l) x h t = ⊎_elim
    (λ (e : eqb x y ≡ true). let q : x ≡ y = eqb-true x y e in let u : p y ≡ true = rw (← q) t in rw (u, e))
    (λ (e : eqb x y ≡ false). let r = keep_in p l x (rw e at h) t in
    ⊎_elim (λ (u : p y ≡ true). rw (u, e) r) (λ (u : p y ≡ false). rw u r) (either (p y))) (either (eqb x y))

pub in_up_from : (n k x : ℕ) → k ≤ x → x < k + n → member (up_from k n) x ≡ true
unfolding up_from
in_up_from zero k x h l = absurd (omega arith)
in_up_from (suc n) k x h l = ⊎_elim
    (λ (e : k ≡ x). rw (eq-eqb x k (sym e)))
    (λ (m : k < x). rw (in_up_from n (suc k) x m (omega arith)) (or-true (eqb x k))) (eq-or-lt_of_le h)

-- ---- some, and all

pub any_none : (f : ℕ → Bool) (l : List ℕ) → any_of f l ≡ false → (x : ℕ) → x ∈ l → f x ≡ false
any_none f [] h x m = elim m [ ]
any_none f (y ∷ l) h x (Memᴰ.head p) = rw p (or_false_is {a = f y} h).0
any_none f (y ∷ l) h x (Memᴰ.tail m) = any_none f l (or_false_is {a = f y} h).1 x m

pub none_any : (f : ℕ → Bool) (l : List ℕ) → ((x : ℕ) → x ∈ l → f x ≡ false) → any_of f l ≡ false
none_any f [] h = refl
none_any f (y ∷ l) h = rw (h y (Memᴰ.head refl)) (none_any f l (λ x m. h x (Memᴰ.tail m)))

pub any_cong : (f g : ℕ → Bool) (l : List ℕ) → ((x : ℕ) → x ∈ l → f x ≡ g x) → any_of f l ≡ any_of g l
any_cong f g [] h = refl
any_cong f g (y ∷ l) h = rw (h y (Memᴰ.head refl), any_cong f g l (λ x m. h x (Memᴰ.tail m)))

pub all_is : (f : ℕ → Bool) (l : List ℕ) → all_of f l ≡ true → (x : ℕ) → x ∈ l → f x ≡ true
all_is f [] h x m = elim m [ ]
all_is f (y ∷ l) h x (Memᴰ.head p) = rw p (and_is {a = f y} h).0
all_is f (y ∷ l) h x (Memᴰ.tail m) = all_is f l (and_is {a = f y} h).1 x m

-- what the library's tests over a list and over a range are
pub any_is : (p : ℕ → Bool) (l : List ℕ) → list_any p l ≡ any_of p l
any_is p [] = refl
any_is p (x ∷ l) = ap (λ (b : Bool). p x || b) (any_is p l)

pub up_is : (n k : ℕ) → range_with_len k n ≡ up_from k n
unfolding up_from
up_is zero k = refl
up_is (suc n) k = rw add-one (ap (λ (l : List ℕ). k ∷ l) (up_is n (suc k)))

pub any_up : (p : ℕ → Bool) (n : ℕ) → list_any p (range_with_len 0 n) ≡ any_of p (up_from 0 n)
any_up p n = any_is p (range_with_len 0 n) ∙ ap (any_of p) (up_is n 0)

-- ---- the first place

pub record Found (d : ℕ → Bool) (n i j : ℕ) : Type 0 where
  pub from : i ≤ j
  pub upto : j ≤ i + n
  pub below : (m : ℕ) → i ≤ m → m < j → d m ≡ false
  pub here : j < i + n → d j ≡ true

pub least_from_lem : (d : ℕ → Bool) (n i : ℕ) → Found d n i (least_from d n i)
unfolding least_from
least_from_lem d zero i = record { from = le_refl i; upto = omega arith; below = λ m p q. absurd (omega arith); here = λ h. absurd (omega arith) }
least_from_lem d (suc n) i = ⊎_elim
    (λ (h : d i ≡ true). rw h (record { from = le_refl i; upto = omega arith; below = λ m p q. absurd (omega arith); here = λ k. h }))
    (λ (h : d i ≡ false). let r = least_from_lem d n (suc i) in rw h (record {
      from = omega (arith, r.from);
      upto = omega (arith, r.upto);
      below = λ m p q. ⊎_elim (λ (e : i ≡ m). rw (← e) h) (λ k. r.below m k q) (eq-or-lt_of_le p);
      here = λ k. r.here (omega arith);
    }))
    (either (d i))
