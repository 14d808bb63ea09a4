-- A table is refused by n exactly when n's condition holds at a frame, no lower number's does there, and none does at an earlier frame. Assumes nothing.
use Prim.Native.Nat.{ℕ, zero, suc, ◌+◌, ◌≤◌, ◌<◌, zero-le, suc-le-suc}
use mathlib.Core.Path.{◌≡◌, refl, ap, sym, ◌∙◌, subst}
use mathlib.Core.Bool.{Bool, true, false, cond, false≢true}
use mathlib.Core.List.Memᴰ
use mathlib.Core.List.{List, [], ◌∷◌, ◌++◌, Memᴰ}
use mathlib.Core.Logic.{◌⊎◌, inl, inr, ⊎_elim}
use native.Mathlib.Nat.{le_of_suc-le-suc, not-suc-le-zero}
use native.Mathlib.Omega.{arith}
use lib.ListN.{get_or}
use Rattle.refusal.specs.Orders.{or_else, Agrees}
use Rattle.table.specs.First.{first, lowest}
use Rattle.table.specs.Judge.{Frame, count_wrong, symbol_wrong, start_wrong, form_wrong, argument_wrong, conditions, frames, refusal_at, judge_table, table_check}
use Rattle.table.specs.Refused.{breaks, Lowest, Refused, UnbrokenExactly, RefusedExactly, FiveNumbers}
use Rattle.refusal.proofs.Orders.{or_right, or_left, or_none, agree_judged}

-- the first condition of a list that holds
low_none : (bs : List Bool) (n : ℕ) → lowest (suc n) bs ≡ 0 → (k : ℕ) → get_or bs k false ≡ false
low_none [] n h k = refl
low_none (true ∷ bs) n h k = absurd (omega arith)
low_none (false ∷ bs) n h zero = refl
low_none (false ∷ bs) n h (suc k) = low_none bs (suc n) h k

low_all : (bs : List Bool) (n : ℕ) → ((k : ℕ) → get_or bs k false ≡ false) → lowest (suc n) bs ≡ 0
low_all [] n h = refl
low_all (b ∷ bs) n h = let e = h 0 in rw e (low_all bs (suc n) (λ k. h (suc k)))

record Low (bs : List Bool) (n r : ℕ) : Type 0 where
  at : ℕ
  number : r ≡ suc n + at
  holds : get_or bs at false ≡ true
  lower : (j : ℕ) → j < at → get_or bs j false ≡ false

low_some : (bs : List Bool) (n r : ℕ) → lowest (suc n) bs ≡ suc r → Low bs n (suc r)
low_some [] n r h = absurd (omega arith)
low_some (true ∷ bs) n r h = record { at = 0; number = omega arith; holds = refl; lower = λ j l. absurd (not-suc-le-zero l) }
low_some (false ∷ bs) n r h =
    let w = low_some bs (suc n) r h in
    record { at = suc w.at; number = let e = w.number in omega arith; holds = w.holds; lower = below w }
  where
    below : (w : Low bs (suc n) (suc r)) → (j : ℕ) → j < suc w.at → get_or (false ∷ bs) j false ≡ false
    below w zero l = refl
    below w (suc j) l = w.lower j (le_of_suc-le-suc l)

low_at : (bs : List Bool) (n k : ℕ) → get_or bs k false ≡ true → ((j : ℕ) → j < k → get_or bs j false ≡ false) → lowest (suc n) bs ≡ suc n + k
low_at [] n k h f = absurd (false≢true h)
low_at (b ∷ bs) n zero h f = let e : b ≡ true = h in rw e (omega arith)
low_at (b ∷ bs) n (suc k) h f =
    let e : b ≡ false = f 0 (suc-le-suc zero-le) in
    let i = low_at bs (suc n) k h (λ j l. f (suc j) (suc-le-suc l)) in rw e (omega arith)

-- at one frame
module _ (t : List ℕ) (x : Frame) where
  pub breaks_none : refusal_at t x ≡ 0 → (m : ℕ) → breaks t x m ≡ false
  unfolding refusal_at breaks
  breaks_none h zero = refl
  breaks_none h (suc m) = low_none (conditions t x) 0 h m

  pub none_breaks : ((m : ℕ) → breaks t x m ≡ false) → refusal_at t x ≡ 0
  unfolding refusal_at breaks
  none_breaks h = low_all (conditions t x) 0 (λ k. h (suc k))

  pub frame_lowest : (r : ℕ) → refusal_at t x ≡ suc r → Lowest t x (suc r)
  unfolding refusal_at breaks
  frame_lowest r h =
      let w = low_some (conditions t x) 0 r h in
      let e : w.at ≡ r = let n = w.number in omega arith in
      record { holds = ap (λ (k : ℕ). get_or (conditions t x) k false) (sym e) ∙ w.holds; lower = below w e }
    where
      below : (w : Low (conditions t x) 0 (suc r)) → w.at ≡ r → (m : ℕ) → m < suc r → get_or (false ∷ conditions t x) m false ≡ false
      below w e zero l = refl
      below w e (suc m) l = w.lower m (subst (λ (k : ℕ). m < k) (sym e) (le_of_suc-le-suc l))

  pub lowest_frame : (n : ℕ) → Lowest t x n → (refusal_at t x ≡ n) × (0 < n)
  unfolding refusal_at breaks
  lowest_frame zero w = absurd (false≢true w.holds)
  lowest_frame (suc k) w =
      let e = low_at (conditions t x) 0 k w.holds (λ j l. w.lower (suc j) (suc-le-suc l)) in
      (omega arith, suc-le-suc zero-le)

-- the first of a list
record Split {A : Type 0} (f : A → ℕ) (xs : List A) (r : ℕ) : Type 0 where
  before : List A
  it : A
  behind : List A
  order : xs ≡ before ++ (it ∷ behind)
  value : f it ≡ r
  earlier : (y : A) → Memᴰ y before → f y ≡ 0

module _ {A : Type 0} (f : A → ℕ) where
  first_some : (xs : List A) (r : ℕ) → first f xs ≡ suc r → Split f xs (suc r)
  unfolding first
  first_some [] r h = absurd (omega arith)
  first_some (x ∷ xs) r h = by (λ e. first_some xs r e) (f x) refl h
    where
      later : f x ≡ 0 → Split f xs (suc r) → Split f (x ∷ xs) (suc r)
      later e w = record {
        before = x ∷ w.before;
        it = w.it;
        behind = w.behind;
        order = ap (λ (l : List A). x ∷ l) w.order;
        value = w.value;
        earlier = λ y m. ⊎_elim (λ (q : y ≡ x). ap f q ∙ e) (λ m'. w.earlier y m') (Memᴰ.cases_cons m);
      }

      by : (first f xs ≡ suc r → Split f xs (suc r)) → (n : ℕ) → f x ≡ n → or_else n (first f xs) ≡ suc r → Split f (x ∷ xs) (suc r)
      by rest zero e q = later e (rest q)
      by rest (suc n) e q = record { before = []; it = x; behind = xs; order = refl; value = e ∙ q; earlier = λ y m. absurd (Memᴰ.not-nil m) }

  first_at_lem : (before : List A) (x : A) (behind : List A) → ((y : A) → Memᴰ y before → f y ≡ 0) → 0 < f x → first f (before ++ (x ∷ behind)) ≡ f x
  unfolding first
  first_at_lem [] x behind h p = or_left (f x) (first f behind) p
  first_at_lem (y ∷ before) x behind h p =
      or_right (f y) (first f (before ++ (x ∷ behind))) (h y (Memᴰ.head refl)) ∙ first_at_lem before x behind (λ z m. h z (Memᴰ.tail m)) p

-- the theorem, from the judgement and back
pub refused : (t : List ℕ) (n : ℕ) → judge_table t ≡ suc n → Refused t (suc n)
unfolding judge_table
refused t n h =
    let w = first_some (refusal_at t) (frames t) n h in
    record {
      before = w.before;
      frame = w.it;
      behind = w.behind;
      order = w.order;
      lowest = frame_lowest t w.it n w.value;
      earlier = λ y m. breaks_none t y (w.earlier y m);
    }

pub refused_back : (t : List ℕ) (n : ℕ) → Refused t n → judge_table t ≡ n
unfolding judge_table
refused_back t n w =
    let l = lowest_frame t w.frame n w.lowest in
    ap (first (refusal_at t)) w.order
    ∙ first_at_lem (refusal_at t) w.before w.frame w.behind (λ y m. none_breaks t y (w.earlier y m)) (subst (λ (k : ℕ). 0 < k) (sym l.0) l.1)
    ∙ l.0

pub refused_exactly : RefusedExactly
refused_exactly t zero p = absurd (omega arith)
refused_exactly t (suc n) p = (refused t n, refused_back t (suc n))

-- nothing is refused exactly when nothing is broken
module _ {A : Type 0} (f : A → ℕ) where
  first_none : (xs : List A) → first f xs ≡ 0 → (x : A) → Memᴰ x xs → f x ≡ 0
  unfolding first
  first_none [] h x m = absurd (Memᴰ.not-nil m)
  first_none (y ∷ ys) h x m =
      let o = or_none (f y) (first f ys) h in
      ⊎_elim (λ (e : x ≡ y). ap f e ∙ o.0) (λ m'. first_none ys o.1 x m') (Memᴰ.cases_cons m)

  first_all : (xs : List A) → ((x : A) → Memᴰ x xs → f x ≡ 0) → first f xs ≡ 0
  unfolding first
  first_all [] h = refl
  first_all (y ∷ ys) h = or_right (f y) (first f ys) (h y (Memᴰ.head refl)) ∙ first_all ys (λ x m. h x (Memᴰ.tail m))

  first_most : (n : ℕ) (xs : List A) → ((x : A) → f x ≤ n) → first f xs ≤ n
  unfolding first
  first_most n [] h = zero-le
  first_most n (x ∷ xs) h = by (f x) (first f xs) (h x) (first_most n xs h)
    where
      by : (m k : ℕ) → m ≤ n → k ≤ n → or_else m k ≤ n
      by zero k l r = r
      by (suc m) k l r = l

pub unbroken_exactly : UnbrokenExactly
unfolding judge_table
unbroken_exactly t =
    (λ h x m. breaks_none t x (first_none (refusal_at t) (frames t) h x m), λ h. first_all (refusal_at t) (frames t) (λ x m. none_breaks t x (h x m)))

one_of : (b : Bool) (n m : ℕ) → n ≤ 5 → m ≤ 5 → cond b n m ≤ 5
one_of true n m l k = l
one_of false n m l k = k

pub frame_most : (t : List ℕ) (x : Frame) → refusal_at t x ≤ 5
unfolding refusal_at
frame_most t x =
    one_of (count_wrong t x) 1 _ (omega arith)
    (one_of (symbol_wrong t x) 2 _ (omega arith)
    (one_of (start_wrong t x) 3 _ (omega arith)
    (one_of (form_wrong t x) 4 _ (omega arith)
    (one_of (argument_wrong t x) 5 0 (omega arith) zero-le))))

pub five_numbers : FiveNumbers
unfolding judge_table
five_numbers t = first_most (refusal_at t) 5 (frames t) (frame_most t)

pub agree_table : (t : List ℕ) → Agrees (table_check t)
agree_table t = agree_judged 1 5 (judge_table t) (zero_or (judge_table t) (five_numbers t))
  where
    zero_or : (n : ℕ) → n ≤ 5 → (n ≡ 0) ⊎ ((1 ≤ n) × (n ≤ 5))
    zero_or zero h = inl refl
    zero_or (suc n) h = inr (omega arith, h)
